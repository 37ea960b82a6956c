use Rattle.std.proofs.Common.{◌≡◌, ◌+◌, take}
use Rattle.cp_hood.specs.Rows.{IsRow}
use Rattle.cp_hood.proofs.locking.lock_row.Given as goal

abbrev pub invariant-loop-var : goal.invariant-loop-var
invariant-loop-var l = record {
  table : l.seat.table ≡ l.fn.seat.table;
  room : l.cells.spare + l.var-index ≡ l.fn.cells.spare;
  row : IsRow (take l.var-index l.vars) l.fn.seat.view l.seat.view l.fn.cells.items l.cells.items;
}
