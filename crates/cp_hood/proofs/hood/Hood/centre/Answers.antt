use Rattle.std.proofs.Common.{◌≡◌, Some, slice_index_or, sym, ap, ◌∙◌}
use Rattle.std.specs.List.{slice_get}
use Rattle.std.proofs.lemmas.Option.{get_or_from_slice_get}
use Rattle.cp_occ.specs.Cells.{CellView}
use Rattle.cp_hood.specs.Hoods.{centre_clauses}
use Rattle.cp_hood.proofs.Holding.{clauses-at}
use Rattle.cp_hood.proofs.hood.Hood.centre.Goals as goal

pub returns-clause-clauses : goal.returns-clause-clauses
returns-clause-clauses c = let h = c.self.inside in let d : CellView = c.in-Some.cell.now in
    let found : slice_get h.cells.items h.at ≡ Some d = sym c.in-Some.ensures in
    let here : slice_index_or h.cells.items h.at d ≡ d = get_or_from_slice_get h.cells.items h.at d d found in
    ap (λ (z : CellView). z.clauses) (sym here) ∙ sym (clauses-at h.cells.items h.at h.centre d c.self.invariant.2 c.self.invariant.0 (c.self.invariant.1 d)) ∙ ap centre_clauses c.self.view_is
