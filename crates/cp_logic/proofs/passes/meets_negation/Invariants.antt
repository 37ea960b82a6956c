use Rattle.std.proofs.Common.{◌+◌, ◌-◌, length}
use Rattle.cp_logic.proofs.Meeting.{Ahead}
use Rattle.cp_logic.proofs.passes.meets_negation.Given as goal

-- where a literal of the one has its negation in the other, both are among those that are left
abbrev pub invariant-loop-i : goal.invariant-loop-i
invariant-loop-i l = Ahead l.fn.pivot l.left l.right l.i l.j

abbrev pub decreases-loop-i : goal.decreases-loop-i
decreases-loop-i l = (length l.left - l.i) + (length l.right - l.j)
