-- Clauses from which RUP lemmas come to the empty clause have no model.
use Rattle.std.proofs.Common.{◌≡◌, ℕ, Bool, true, List, [], ◌∷◌, ◌++◌, subst, inl, inr}
use Rattle.std.proofs.lemmas.Bool.{false≢true, false_from_ne_true}
use Rattle.std.proofs.lemmas.List.Elements.{Contains-append_cases}
use Rattle.cp_logic.specs.Assignments.{satisfies, satisfies_all}
use Rattle.cp_logic.proofs.Members.{none_in, in_cases, all_at, all_from}
use Rattle.cp_logic.proofs.Implied.{rup-implied}
use Rattle.cp_drat.specs.Log.{Item, Lemma, Deletion, has_end}
use Rattle.cp_drat.specs.Checks.{without_one, IsRupLog, RupLogRefutes}
use Rattle.cp_drat.proofs.Counts.{of_without_one}

model-push : (values : List Bool) (cs : List (List ℕ)) (c : List ℕ) → satisfies_all values cs ≡ true → satisfies values c ≡ true → satisfies_all values (cs ++ c ∷ []) ≡ true
model-push values cs c m h = all_from (satisfies values) (cs ++ c ∷ []) (λ d i. elim (Contains-append_cases cs (c ∷ []) d i) [
  | inl j ↦ all_at (satisfies values) cs d m j
  | inr j ↦ elim (in_cases d c [] j) [
    | inl e ↦ subst (λ k. satisfies values k ≡ true) e h
    | inr k ↦ absurd (none_in d k)
  ]
])

no_model : (values : List Bool) (cs : List (List ℕ)) (is : List Item) → IsRupLog cs is → has_end is ≡ true → satisfies_all values cs ≡ true → ⊥
no_model values cs [] h e m = false≢true e
no_model values cs (Lemma [] ∷ is) h e m = false≢true (rup-implied cs [] h.0 values m)
no_model values cs (Lemma (l ∷ ls) ∷ is) h e m =
    no_model values (cs ++ (l ∷ ls) ∷ []) is h.1 e (model-push values cs (l ∷ ls) m (rup-implied cs (l ∷ ls) h.0 values m))
no_model values cs (Deletion c ∷ is) h e m =
    no_model values (without_one cs c) is h.1 e (all_from (satisfies values) (without_one cs c) (λ d i. all_at (satisfies values) cs d m (of_without_one cs c d i)))

pub rup_log-refutes : RupLogRefutes
rup_log-refutes cs is h e values = false_from_ne_true (satisfies_all values cs) (no_model values cs is h e)
