use Rattle.std.proofs.Common.{◌≡◌, ◌++◌, length}
use Rattle.cp_occ.proofs.iter.LiteralIter.gathered.Given as goal

-- the clauses so far and those that are left are all
abbrev pub invariant-loop-occurrence : goal.invariant-loop-occurrence
invariant-loop-occurrence l = l.list.items ++ l.left ≡ l.fn.self

abbrev pub decreases-loop-occurrence : goal.decreases-loop-occurrence
decreases-loop-occurrence l = length l.left
