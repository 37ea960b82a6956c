use Rattle.std.proofs.Common.{◌∙◌, ap, ltb}
use Rattle.std.specs.List.{list_any}
use Rattle.cp_logic.specs.declared.named.Named.{Named}
use Rattle.cp_logic.specs.Clauses.{is_tautology}
use Rattle.cp_occ.specs.Cells.{CellView}
use Rattle.cp_occ.proofs.Sided.{any-counted}
use Rattle.cp_occ.proofs.cell.Cell.has_tautology.Goals as goal

pub returns : goal.returns
returns c =
    ap (ltb 0) c.self.invariant.2 ∙ any-counted (λ (n : Named). is_tautology n.clause) c.self.inside.occurrences.items
    ∙ ap (λ (v : CellView). list_any (λ (n : Named). is_tautology n.clause) v.clauses) c.self.view_is
