use Rattle.std.proofs.Common.{◌≡◌, length, take}
use Rattle.cp_find.specs.Lookups.{AreListed, Keeps}
use Rattle.cp_find.proofs.lookup.enter.Given as goal

-- the clause is in the buckets of the literals so far
abbrev pub invariant-loop-lit : goal.invariant-loop-lit
invariant-loop-lit l = record {
  len : length l.buckets.items ≡ length l.initial.buckets.items;
  kept : Keeps l.initial.buckets.items l.buckets.items;
  entered : AreListed l.var l.count l.buckets.items (take l.lit-index l.clause.clause) l.entry;
}
