-- A literal is that of its sign and its variable; a list of literals of few variables, by its parts and as a clause.
use Rattle.std.proofs.Common.{◌≡◌, ℕ, ◌+◌, ◌%◌, ◌<◌, ◌≤◌, Bool, true, false, ltb, List, ◌∷◌, refl, arith}
use Rattle.std.proofs.lemmas.Bool.{eqb-true, eqb-false}
use Rattle.cp_logic.specs.Literals.{variable_of, is_positive}
use Rattle.cp_logic.specs.Signs.{signed}
use Rattle.cp_logic.specs.Clauses.{clause_of}
use Rattle.cp_logic.specs.Formulas.{IsWithin}
use Rattle.cp_logic.proofs.Expansions.{within_smaller, variable_within}
use Rattle.cp_logic.proofs.Members.{in_here, in_later, all_at, all_from}
use Rattle.cp_logic.proofs.SetFacts.{of_clause_of}

pub signed-parts : (l : ℕ) → signed (is_positive l) (variable_of l) ≡ l
signed-parts l = go (is_positive l) refl
  where
    go : (s : Bool) → is_positive l ≡ s → signed s (variable_of l) ≡ l
    go true e = let even : l % 2 ≡ 0 = eqb-true (l % 2) 0 e in omega arith
    go false e = let odd : l % 2 ≡ 0 → ⊥ = eqb-false (l % 2) 0 e in omega arith

-- the first literal, and those behind it
pub first-within : (variables l : ℕ) (ls : List ℕ) → IsWithin variables (l ∷ ls) → (0 < variable_of l) × (variable_of l ≤ variables)
first-within variables l ls h = variable_within variables (l ∷ ls) l h (in_here l l ls refl)

pub rest-within : (variables l : ℕ) (ls : List ℕ) → IsWithin variables (l ∷ ls) → IsWithin variables ls
rest-within variables l ls h = within_smaller variables ls (λ x i. variable_within variables (l ∷ ls) x h (in_later x l ls i))

-- a clause has the variables of its literals
pub within-clause_of : (variables : ℕ) (literals : List ℕ) → IsWithin variables literals → IsWithin variables (clause_of literals)
within-clause_of variables literals h = (
  all_from (λ l. ltb 0 (variable_of l)) (clause_of literals) (λ l m. all_at (λ l. ltb 0 (variable_of l)) literals l h.0 (of_clause_of literals l m)),
  all_from (λ l. ltb (variable_of l) (variables + 1)) (clause_of literals) (λ l m. all_at (λ l. ltb (variable_of l) (variables + 1)) literals l h.1 (of_clause_of literals l m)),
)
