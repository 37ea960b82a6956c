use Rattle.std.proofs.Common.{◌+◌, ◌-◌, length}
use Rattle.cp_logic.proofs.Clashes.{Unclashed}
use Rattle.cp_logic.proofs.passes.merges_to_tautology.Given as goal

abbrev pub invariant-loop-i : goal.invariant-loop-i
invariant-loop-i l = Unclashed l.fn.pivot l.left l.right l.i l.j l.last

abbrev pub decreases-loop-i : goal.decreases-loop-i
decreases-loop-i l = (length l.left - l.i) + (length l.right - l.j)
