use Rattle.std.proofs.Common.{◌≡◌, [], length}
use Rattle.cp_logic.specs.Clauses.{IsAscending}
use Rattle.cp_occ.specs.Cells.{variables_of}
use Rattle.cp_hood.specs.Hoods.{HoldsJust}
use Rattle.cp_hood.specs.Seats.{GoesOn}
use Rattle.cp_hood.proofs.locking.give_back.Given as goal

abbrev pub invariant-loop-cell : goal.invariant-loop-cell
invariant-loop-cell l = record {
  table : l.seat.table ≡ l.fn.seat.table;
  same : GoesOn l.fn.seat.view l.seat.view [] [];
  holds : HoldsJust l.seat.view l.cells.items;
  ascending : IsAscending (variables_of l.cells.items);
}

abbrev pub decreases-loop-cell : goal.decreases-loop-cell
decreases-loop-cell l = length l.cells.items
