use Rattle.std.proofs.Common.{◌≡◌}
use Rattle.cp_logic.specs.declared.named.Named.{Named}
use Rattle.cp_occ.specs.Cells.{from_number}
use Rattle.cp_find.specs.Past.{IsPast, first_other}
use Rattle.cp_find.proofs.Scans.{first_some}
use Rattle.cp_find.proofs.Firsts.{subsumption_by}
use Rattle.cp_find.proofs.subsumption.next_subsumed.Given as goal

-- the first subsumption is the first by those that are left, with the others that are left to each
abbrev pub invariant-loop-by : goal.invariant-loop-by
invariant-loop-by l = record {
  left : first_some (λ (b : Named). subsumption_by (from_number (first_other l.end b.number) l.cell.clauses) b) l.by-iterator ≡ first_some (subsumption_by l.cell.clauses) l.cell.clauses;
  past : IsPast l.cell.variable l.cell.clauses l.reached;
}
