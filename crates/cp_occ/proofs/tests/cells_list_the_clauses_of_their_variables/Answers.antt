use Rattle.std.proofs.Common.{◌≡◌, ℕ, List, [], ◌∷◌, refl, ap, ◌∙◌}
use Rattle.cp_logic.specs.Clauses.{clause_of}
use Rattle.cp_logic.specs.Formulas.{Formula, IsWithin}
use Rattle.cp_occ.proofs.tests.cells_list_the_clauses_of_their_variables.Goals as goal

within : (n : ℕ) (clause lits : List ℕ) → clause ≡ clause_of lits → lits ≡ 2 ∷ 7 ∷ [] → n ≡ 3 → IsWithin n clause
unfolding clause_of
within n clause lits e f h = rw (e, f, h) (refl, refl)

pub push-requires-clause-within : goal.push-requires-clause-within
push-requires-clause-within g c =
    within _ _ _ c.in_ok-clause.ensures
    (c.as_slice.ensures ∙ ap (λ (a : ℕ). a ∷ c.new-2.result ∷ []) c.new.ensures ∙ ap (λ (b : ℕ). 2 ∷ b ∷ []) c.new-2.ensures)
    (ap (λ (f : Formula). f.variables) c.new-formula.ensures)
