use Rattle.std.proofs.Common.{◌≤◌, length}
use Rattle.cp_find.proofs.lookup.add_buckets.Given as goal

abbrev pub invariant-loop-k : goal.invariant-loop-k
invariant-loop-k l = l._k ≤ length l.buckets.items
