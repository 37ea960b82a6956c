use Rattle.std.proofs.Common.{◌≡◌, map, take}
use Rattle.cp_logic.specs.Literals.{variable_of}
use Rattle.cp_sweep.specs.Marks.{with_marks}
use Rattle.cp_sweep.proofs.touch.touch_clause.Given as goal

abbrev pub invariant-loop-lit : goal.invariant-loop-lit
invariant-loop-lit l = l.touched ≡ with_marks l.initial.touched (take l.lit-index (map variable_of l.named.clause))
