-- The eliminations of the tests, computed. The literals 1, -1, 2, -2, .. have the codes 2, 3, 4, 5, ..
use Rattle.std.proofs.Common.{◌≡◌, ℕ, Bool, true, List, [], ◌∷◌, length, refl, ap, ◌∙◌, subst, arith}
use Rattle.std.specs.Prelude.{Some, IsTrue, ◌&&◌, ◌==◌}
use Rattle.std.specs.List.{slice_get}
use Rattle.std.proofs.lemmas.Bool.{eq-eqb}
use Rattle.cp_logic.specs.declared.named.Named.{Named}
use Rattle.cp_logic.specs.declared.settings.Rules.{Rules}
use Rattle.cp_logic.specs.Literals.{negated}
use Rattle.cp_logic.specs.Clauses.{clause_of}
use Rattle.cp_logic.specs.Entries.{Entry, Eliminate, is_at}
use Rattle.cp_logic.specs.Legality.{fits, is_legal_in}
use Rattle.cp_occ.specs.Cells.{CellView}
use Rattle.cp_hood.specs.Hoods.{HoodView, IsLegalAt, centre_clauses}
use Rattle.cp_hood.specs.Examples.{Eliminates, IsLegalFor}

one_of : {A : Type 0} (xs : List A) (a : A) → length xs ≡ 1 → slice_get xs 0 ≡ Some a → xs ≡ a ∷ []
one_of [] a n p = absurd (omega arith)
one_of (x ∷ []) a n p = cc
one_of (x ∷ y ∷ ys) a n p = absurd (omega arith)

two_of : {A : Type 0} (xs : List A) (a b : A) → length xs ≡ 2 → slice_get xs 0 ≡ Some a → slice_get xs 1 ≡ Some b → xs ≡ a ∷ b ∷ []
two_of [] a b n p q = absurd (omega arith)
two_of (x ∷ []) a b n p q = absurd (omega arith)
two_of (x ∷ y ∷ []) a b n p q = cc
two_of (x ∷ y ∷ z ∷ zs) a b n p q = absurd (omega arith)

named : ℕ → List ℕ → Named
named n c = record { number = n; clause = c }

-- 1, from {1, 2} and {-1, 3}
elimination_of_one : (m n : ℕ) → Entry
elimination_of_one m n = Eliminate 1 (named m (2 ∷ 4 ∷ []) ∷ []) (named n (3 ∷ 6 ∷ []) ∷ []) (named 1 (clause_of (4 ∷ 6 ∷ [])) ∷ [])

one-fits : (m n : ℕ) → fits (named m (2 ∷ 4 ∷ []) ∷ named n (3 ∷ 6 ∷ []) ∷ []) 0 (elimination_of_one m n) ≡ true
unfolding fits negated clause_of named elimination_of_one
one-fits m n = let p = eq-eqb m m refl in let q = eq-eqb n n refl in grind arith

two-fits : (n : ℕ) → fits (named n (4 ∷ 6 ∷ []) ∷ []) 0 (Eliminate 2 (named n (4 ∷ 6 ∷ []) ∷ []) [] []) ≡ true
unfolding fits negated clause_of named
two-fits n = let p = eq-eqb n n refl in grind arith

chosen : (cs : List Named) (rules : Rules) (x : ℕ) (pos neg new : List Named) → Eliminates rules → fits cs 0 (Eliminate x pos neg new) ≡ true → is_legal_in cs rules (Eliminate x pos neg new) ≡ true
unfolding is_legal_in
chosen cs rules x pos neg new e f =
    ap (λ (a : Bool). a && fits cs rules.bound (Eliminate x pos neg new)) e.0 ∙ (ap (λ b. fits cs b (Eliminate x pos neg new)) e.1 ∙ f)

one-legal : (m n : ℕ) (rules : Rules) → Eliminates rules
    → is_legal_in (record { number = m; clause = 2 ∷ 4 ∷ [] } ∷ record { number = n; clause = 3 ∷ 6 ∷ [] } ∷ []) rules
    (Eliminate 1 (record { number = m; clause = 2 ∷ 4 ∷ [] } ∷ []) (record { number = n; clause = 3 ∷ 6 ∷ [] } ∷ []) (record { number = 1; clause = clause_of (4 ∷ 6 ∷ []) } ∷ [])) ≡ true
unfolding named elimination_of_one
one-legal m n rules e = chosen _ rules 1 _ _ _ e (one-fits m n)

two-legal : (n : ℕ) (rules : Rules) → Eliminates rules
    → is_legal_in (record { number = n; clause = 4 ∷ 6 ∷ [] } ∷ []) rules (Eliminate 2 (record { number = n; clause = 4 ∷ 6 ∷ [] } ∷ []) [] []) ≡ true
unfolding named
two-legal n rules e = chosen _ rules 2 _ _ _ e (two-fits n)

-- the cell of 1 with just these clauses
pub IsLegalFor-one : (cell : CellView) (m n : ℕ) (left right : List ℕ) (pos neg new : List Named) → cell.variable ≡ 1 → length cell.clauses ≡ 2
    → slice_get cell.clauses 0 ≡ Some (record { number = m; clause = left }) → slice_get cell.clauses 1 ≡ Some (record { number = n; clause = right })
    → left ≡ 2 ∷ 4 ∷ [] → right ≡ 3 ∷ 6 ∷ []
    → pos ≡ record { number = m; clause = left } ∷ [] → neg ≡ record { number = n; clause = right } ∷ [] → new ≡ record { number = 1; clause = clause_of (4 ∷ 6 ∷ []) } ∷ []
    → IsLegalFor cell (Eliminate 1 pos neg new)
IsLegalFor-one cell m n left right pos neg new v len a b l r p q w =
    let all = two_of cell.clauses (record { number = m; clause = left }) (record { number = n; clause = right }) len a b in (
      ap (λ x. 1 == x) v,
      λ rules e.
          (λ i. is_legal_in (all i) rules (Eliminate 1 (p i) (q i) (w i)))
          ∙ ((λ i. is_legal_in (record { number = m; clause = l i } ∷ record { number = n; clause = r i } ∷ []) rules
          (Eliminate 1 (record { number = m; clause = l i } ∷ []) (record { number = n; clause = r i } ∷ []) (record { number = 1; clause = clause_of (4 ∷ 6 ∷ []) } ∷ [])))
          ∙ one-legal m n rules e),
    )

-- the cell of 2 with just this clause
pub IsLegalFor-two : (cell : CellView) (n : ℕ) (clause : List ℕ) (pos neg new : List Named) → cell.variable ≡ 2 → length cell.clauses ≡ 1
    → slice_get cell.clauses 0 ≡ Some (record { number = n; clause = clause }) → clause ≡ 4 ∷ 6 ∷ []
    → pos ≡ record { number = n; clause = clause } ∷ [] → neg ≡ [] → new ≡ []
    → IsLegalFor cell (Eliminate 2 pos neg new)
IsLegalFor-two cell n clause pos neg new v len a l p q w =
    let all = one_of cell.clauses (record { number = n; clause = clause }) len a in (
      ap (λ x. 2 == x) v,
      λ rules e.
          (λ i. is_legal_in (all i) rules (Eliminate 2 (p i) (q i) (w i)))
          ∙ ((λ i. is_legal_in (record { number = n; clause = l i } ∷ []) rules (Eliminate 2 (record { number = n; clause = l i } ∷ []) [] []))
          ∙ two-legal n rules e),
    )

-- the hood whose centre's cell this is, and then one that lists the same
pub legal-centre : (rules : Rules) (cell : CellView) (hood : HoodView) (e : Entry) → Eliminates rules → cell.variable ≡ hood.centre → cell.clauses ≡ centre_clauses hood
    → IsLegalFor cell e → IsLegalAt rules hood e
legal-centre rules cell hood e chosen v cs legal = record {
  at = subst (λ x. IsTrue (is_at x e)) v legal.0;
  legal = subst (λ ds. IsTrue (is_legal_in ds rules e)) cs (legal.1 rules chosen);
}
