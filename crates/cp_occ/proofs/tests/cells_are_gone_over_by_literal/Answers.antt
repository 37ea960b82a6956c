use Rattle.std.proofs.Common.{◌≡◌, ℕ, List, [], ◌∷◌, refl, ap, ◌∙◌}
use Rattle.std.specs.Prelude.{IsTrue}
use Rattle.cp_logic.specs.Clauses.{clause_of, has_variable}
use Rattle.cp_occ.proofs.tests.cells_are_gone_over_by_literal.Goals as goal

has : (x : ℕ) (place clause lits : List ℕ) → place ≡ clause → clause ≡ clause_of lits → lits ≡ 2 ∷ 5 ∷ [] → x ≡ 2 → IsTrue (has_variable x place)
unfolding clause_of
has x place clause lits p e f h = rw (p, e, f, h) refl

pub insert-requires-clause-has : goal.insert-requires-clause-has
insert-requires-clause-has g c =
    has _ _ _ _ c.in_ok-new.ensures.place c.in_ok-clause.ensures
    (c.as_slice.ensures ∙ ap (λ (a : ℕ). a ∷ c.new-2.result ∷ []) c.new.ensures ∙ ap (λ (b : ℕ). 2 ∷ b ∷ []) c.new-2.ensures)
    (c.in_ok-reserve.ensures.variable ∙ c.new-cell.ensures.variable)
