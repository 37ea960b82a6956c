use Rattle.std.proofs.Common.{◌≡◌, ℕ, List, [], ◌∷◌, None, refl, ap, ◌∙◌}
use Rattle.std.specs.Prelude.{IsTrue}
use Rattle.std.proofs.Math.Bool.{and-false}
use Rattle.cp_logic.specs.declared.named.Named.{Named}
use Rattle.cp_logic.specs.declared.settings.Rules.{Rules}
use Rattle.cp_logic.specs.Clauses.{clause_of, has_variable}
use Rattle.cp_logic.specs.Legality.{first_in, candidates, fits}
use Rattle.cp_occ.specs.Cells.{CellView}
use Rattle.cp_occ.proofs.tests.cells_are_silent_until_a_clause_comes.Goals as goal

none-there : (rules : Rules) (x : ℕ) (cs : List Named) → cs ≡ [] → x ≡ 2 → first_in cs rules 1 x ≡ None
unfolding first_in candidates fits clause_of
none-there rules x cs e h = rw (e, h) (rw (and-false rules.choice.e) refl)

has : (x : ℕ) (place clause lits : List ℕ) → place ≡ clause → clause ≡ clause_of lits → lits ≡ 2 ∷ 5 ∷ [] → x ≡ 2 → IsTrue (has_variable x place)
unfolding clause_of
has x place clause lits p e f h = rw (p, e, f, h) refl

pub settle-requires : goal.settle-requires
settle-requires g c = (1, none-there _ _ _ c.new-cell.ensures.clauses c.new-cell.ensures.variable)

pub insert-requires-clause-has : goal.insert-requires-clause-has
insert-requires-clause-has g c =
    has _ _ _ _ c.in_ok-new.ensures.place c.in_ok-clause.ensures
    (c.as_slice.ensures ∙ ap (λ (a : ℕ). a ∷ c.new-2.result ∷ []) c.new.ensures ∙ ap (λ (b : ℕ). 2 ∷ b ∷ []) c.new-2.ensures)
    (c.in_ok-reserve.ensures.variable ∙ ap (λ (v : CellView). v.variable) c.settle.ensures ∙ c.new-cell.ensures.variable)
