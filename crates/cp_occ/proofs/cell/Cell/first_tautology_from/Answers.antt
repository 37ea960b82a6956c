use Rattle.std.proofs.Common.{◌∙◌, ap, sym}
use Rattle.std.specs.Prelude.{nat_le}
use Rattle.std.specs.List.{find}
use Rattle.cp_logic.specs.declared.named.Named.{Named}
use Rattle.cp_logic.specs.Clauses.{is_tautology}
use Rattle.cp_occ.specs.Cells.{CellView, from_number}
use Rattle.cp_occ.proofs.Sided.{none-counted}
use Rattle.cp_occ.proofs.cell.Cell.first_tautology_from.Goals as goal

pub returns-then-self-eq0 : goal.returns-then-self-eq0
returns-then-self-eq0 c =
    sym (none-counted (λ (n : Named). is_tautology n.clause) (λ (n : Named). nat_le c.args.number n.number) c.self.inside.occurrences.items (sym c.self.invariant.2 ∙ c.if-self-eq0.true))
    ∙ ap (λ (v : CellView). find (λ (n : Named). is_tautology n.clause) (from_number c.args.number v.clauses)) c.self.view_is
