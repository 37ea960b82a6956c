use Rattle.std.proofs.Common.{◌≤◌, length}
use Rattle.std.specs.Prelude.{◌⊎◌}
use Rattle.std.specs.List.{Contains}
use Rattle.cp_logic.specs.declared.named.Named.{Named}
use Rattle.cp_find.specs.Lookups.{AreListed, signed}
use Rattle.cp_find.proofs.lookup.fill_buckets.Given as goal

-- each clause is left or entered
abbrev pub invariant-loop-clause : goal.invariant-loop-clause
invariant-loop-clause l = record {
  len : l.count ≤ length l.buckets.items;
  entered : (c : Named) → Contains l.cell.clauses c → Contains l.clause-iterator c ⊎ AreListed l.cell.variable l.count l.buckets.items c.clause (signed c);
}
