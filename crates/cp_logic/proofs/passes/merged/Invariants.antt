use Rattle.std.proofs.Common.{◌+◌, ◌-◌, length}
use Rattle.cp_logic.proofs.Merges.{Merging}
use Rattle.cp_logic.proofs.passes.merged.Given as goal

abbrev pub invariant-loop-i : goal.invariant-loop-i
invariant-loop-i l = Merging l.fn.pivot l.left l.right l.i l.j l.all.items

abbrev pub decreases-loop-i : goal.decreases-loop-i
decreases-loop-i l = (length l.left - l.i) + (length l.right - l.j)
