use Rattle.cp_sweep.specs.Sweeping.{AreTouched}
use Rattle.cp_sweep.proofs.turns.first_touched.Given as goal

-- those before the index were looked at
abbrev pub invariant-loop-index : goal.invariant-loop-index
invariant-loop-index l = AreTouched l.cells.items l.rules l.vars l.index l.touched
