use Rattle.cp_occ.proofs.Entered.{Filled}
use Rattle.cp_occ.proofs.cells.Cells.of_formula.Given as goal

abbrev pub invariant-loop-number : goal.invariant-loop-number
invariant-loop-number l = Filled l.formula.formula l.number-iterator l.cells.items
