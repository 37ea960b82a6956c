use Rattle.std.proofs.Common.{◌≡◌}
use Rattle.cp_logic.specs.declared.named.Named.{Named}
use Rattle.cp_occ.specs.Cells.{from_number}
use Rattle.cp_find.specs.Past.{IsPast, first_other}
use Rattle.cp_find.proofs.Scans.{first_some}
use Rattle.cp_find.proofs.Firsts.{strengthening_by}
use Rattle.cp_find.proofs.strengthening.next_strengthened.Given as goal

-- the first strengthening is the first by those that are left, with the others that are left to each
abbrev pub invariant-loop-by : goal.invariant-loop-by
invariant-loop-by l = record {
  left : first_some (λ (b : Named). strengthening_by l.cell.variable l.next (from_number (first_other l.end b.number) l.cell.clauses) b) l.by-iterator
      ≡ first_some (strengthening_by l.cell.variable l.next l.cell.clauses) l.cell.clauses;
  past : IsPast l.cell.variable l.cell.clauses l.reached;
}
