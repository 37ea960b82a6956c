-- Drawn literals and clauses are of the formula's variables.
use Rattle.std.proofs.Common.{◌≡◌, ℕ, suc, ◌+◌, ◌/◌, ◌%◌, ◌≤◌, Bool, true, false, cond, ltb, eqb, List, [], ◌∷◌, ◌++◌, refl, ◌∙◌, ap, append_assoc, arith}
use Rattle.std.specs.List.{list_all}
use Rattle.std.proofs.lemmas.Bool.{lt-ltb}
use Rattle.cp_logic.specs.declared.named.Named.{Named}
use Rattle.cp_logic.specs.Literals.{variable_of, positive, negative}
use Rattle.cp_logic.specs.Clauses.{clause_of}
use Rattle.cp_logic.specs.Formulas.{Formula, IsWithin}
use Rattle.cp_logic.specs.Entries.{numbered_from}
use Rattle.cp_logic.proofs.Members.{all_at, all_from}
use Rattle.cp_logic.proofs.SetFacts.{of_clause_of}
use Rattle.cp_logic.proofs.LiteralFacts.{variable_of-positive, variable_of-negative}
use Rattle.cp_gen.specs.Generated.{next_state, draw_of, drawn_literal, drawn_clause, drawn_clauses}

-- a drawn literal is of the variable that the draw gives
pub drawn-variable : (variables x : ℕ) → variable_of (drawn_literal variables x) ≡ 1 + (draw_of x / 2) % variables
unfolding drawn_literal
drawn-variable variables x = go (eqb (draw_of x % 2) 0)
  where
    go : (b : Bool) → variable_of (cond b (positive (1 + (draw_of x / 2) % variables)) (negative (1 + (draw_of x / 2) % variables))) ≡ 1 + (draw_of x / 2) % variables
    go true = variable_of-positive (1 + (draw_of x / 2) % variables)
    go false = variable_of-negative (1 + (draw_of x / 2) % variables)

above : (variables x : ℕ) → ltb 0 (variable_of (drawn_literal variables x)) ≡ true
above variables x = let is = drawn-variable variables x in lt-ltb 0 (variable_of (drawn_literal variables x)) (omega arith)

below : (variables x : ℕ) → 1 ≤ variables → ltb (variable_of (drawn_literal variables x)) (variables + 1) ≡ true
below variables x some = let is = drawn-variable variables x in lt-ltb (variable_of (drawn_literal variables x)) (variables + 1) (omega arith)

pub within-drawn : (variables x y z : ℕ) → 1 ≤ variables → IsWithin variables (clause_of (drawn_literal variables x ∷ drawn_literal variables y ∷ drawn_literal variables z ∷ []))
within-drawn variables x y z some =
    let literals = drawn_literal variables x ∷ drawn_literal variables y ∷ drawn_literal variables z ∷ [] in
    let low : list_all (λ l. ltb 0 (variable_of l)) literals ≡ true = three (λ l. ltb 0 (variable_of l)) (above variables x) (above variables y) (above variables z) in
    let high : list_all (λ l. ltb (variable_of l) (variables + 1)) literals ≡ true =
    three (λ l. ltb (variable_of l) (variables + 1)) (below variables x some) (below variables y some) (below variables z some) in (
      all_from (λ l. ltb 0 (variable_of l)) (clause_of literals) (λ l i. all_at (λ l. ltb 0 (variable_of l)) literals l low (of_clause_of literals l i)),
      all_from (λ l. ltb (variable_of l) (variables + 1)) (clause_of literals) (λ l i. all_at (λ l. ltb (variable_of l) (variables + 1)) literals l high (of_clause_of literals l i)),
    )
  where
    three : (p : ℕ → Bool) → p (drawn_literal variables x) ≡ true → p (drawn_literal variables y) ≡ true → p (drawn_literal variables z) ≡ true
        → list_all p (drawn_literal variables x ∷ drawn_literal variables y ∷ drawn_literal variables z ∷ []) ≡ true
    three p a b c = simp (a, b, c)

-- no clause is left
pub drawn_clauses-none : (variables x number : ℕ) → numbered_from number (drawn_clauses variables 0 x) ≡ []
unfolding drawn_clauses
drawn_clauses-none variables x number = refl

-- three draws make the next clause
pub drawn_clause-drawn : (variables x a b c l m n : ℕ) → a ≡ next_state x → b ≡ next_state a → c ≡ next_state b → l ≡ drawn_literal variables a → m ≡ drawn_literal variables b → n ≡ drawn_literal variables c
    → clause_of (l ∷ m ∷ n ∷ []) ≡ drawn_clause variables x
drawn_clause-drawn variables x a b c l m n p q r s t u = cc

pub third_state : (x a b c : ℕ) → a ≡ next_state x → b ≡ next_state a → c ≡ next_state b → c ≡ next_state (next_state (next_state x))
third_state x a b c p q r = cc

-- the next clause goes from what is left to what stands
pub drawn_clauses-moved : (variables more x y n : ℕ) (standing new whole : List Named) (clause : List ℕ)
    → standing ++ numbered_from n (drawn_clauses variables (suc more) x) ≡ whole
    → new ≡ standing ++ record { number = n; clause = clause } ∷ []
    → clause ≡ drawn_clause variables x → y ≡ next_state (next_state (next_state x))
    → new ++ numbered_from (n + 1) (drawn_clauses variables more y) ≡ whole
unfolding drawn_clauses
drawn_clauses-moved variables more x y n standing new whole clause is added drawn third =
    ap (λ cs. cs ++ numbered_from (n + 1) (drawn_clauses variables more y)) added
    ∙ append_assoc standing (record { number = n; clause = clause } ∷ []) (numbered_from (n + 1) (drawn_clauses variables more y))
    ∙ ap (λ (k : List ℕ). standing ++ record { number = n; clause = k } ∷ numbered_from (n + 1) (drawn_clauses variables more y)) drawn
    ∙ ap (λ (z : ℕ). standing ++ record { number = n; clause = drawn_clause variables x } ∷ numbered_from (n + 1) (drawn_clauses variables more z)) third
    ∙ is

pub same_formula : (f g : Formula) → f.variables ≡ g.variables → f.next ≡ g.next → f.clauses ≡ g.clauses → f ≡ g
same_formula f g v n cs =
    let make : ℕ → ℕ → List Named → Formula = λ a b ks. record { variables = a; next = b; clauses = ks } in
    ap (λ a. make a f.next f.clauses) v ∙ ap (λ b. make g.variables b f.clauses) n ∙ ap (λ ks. make g.variables g.next ks) cs
