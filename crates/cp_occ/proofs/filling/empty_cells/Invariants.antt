use Rattle.cp_occ.proofs.Entered.{AreEmpty}
use Rattle.cp_occ.proofs.filling.empty_cells.Given as goal

abbrev pub invariant-loop-index : goal.invariant-loop-index
invariant-loop-index l = AreEmpty l.index l.cells.items
