use Rattle.std.proofs.Common.{◌≡◌, length}
use Rattle.cp_occ.specs.Cells.{variables_after}
use Rattle.cp_occ.proofs.variables.VariablesIterator.next.Given as goal

-- only literals of the last variable were passed over
abbrev pub invariant-loop-lit : goal.invariant-loop-lit
invariant-loop-lit l = variables_after l.self-inside.last l.self-inside.left.now ≡ l.fn.self

abbrev pub decreases-loop-lit : goal.decreases-loop-lit
decreases-loop-lit l = length l.self-inside.left.now
