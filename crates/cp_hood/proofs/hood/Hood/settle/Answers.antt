use Rattle.std.proofs.Common.{◌≡◌, List, None, slice_index_or, sym, ap, ◌∙◌, subst}
use Rattle.std.proofs.lemmas.Option.{get_or_from_slice_get}
use Rattle.cp_logic.specs.declared.named.Named.{Named}
use Rattle.cp_logic.specs.Legality.{first_in}
use Rattle.cp_occ.specs.Cells.{CellView}
use Rattle.cp_hood.specs.Hoods.{HoodView, centre_clauses, clauses_at_home}
use Rattle.cp_hood.proofs.Holding.{clauses-at}
use Rattle.cp_hood.proofs.hood.Hood.settle.Goals as goal

pub settle-requires : goal.settle-requires
settle-requires c = λ cell got.
    let h = c.self.inside in let rules = c.args.rules.now in let n = c.requires.0 in
    let here : slice_index_or h.cells.items h.at cell ≡ cell = get_or_from_slice_get h.cells.items h.at cell cell got in
    let variable : cell.variable ≡ h.centre = ap (λ (z : CellView). z.variable) (sym here) ∙ c.self.invariant.1 cell in
    let clauses : cell.clauses ≡ clauses_at_home h.centre h.cells.items =
    ap (λ (z : CellView). z.clauses) (sym here) ∙ sym (clauses-at h.cells.items h.at h.centre cell c.self.invariant.2 c.self.invariant.0 (c.self.invariant.1 cell)) in
    let none = subst (λ (v : HoodView). first_in (centre_clauses v) rules n v.centre ≡ None) (sym c.self.view_is) c.requires.1 in
    (n, ap (λ (cs : List Named). first_in cs rules n cell.variable) clauses ∙ ap (first_in (clauses_at_home h.centre h.cells.items) rules n) variable ∙ none)
