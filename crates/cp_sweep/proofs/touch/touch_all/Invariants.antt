use Rattle.std.proofs.Common.{◌≡◌, take}
use Rattle.cp_sweep.specs.Marks.{with_marks}
use Rattle.cp_sweep.specs.Cursor.{variables_through}
use Rattle.cp_sweep.proofs.touch.touch_all.Given as goal

abbrev pub invariant-loop-named : goal.invariant-loop-named
invariant-loop-named l = l.touched ≡ with_marks l.initial.touched (variables_through (take l.named-index l.clauses))
