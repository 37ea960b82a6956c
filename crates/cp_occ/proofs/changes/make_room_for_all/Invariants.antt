use Rattle.std.proofs.Common.{◌≡◌, take}
use Rattle.cp_occ.specs.Cells.{variables_of, lists_of}
use Rattle.cp_occ.specs.Changes.{IsRoomier, Each}
use Rattle.cp_occ.proofs.changes.make_room_for_all.Given as goal

-- there is room for the clauses so far, and all cells list what they listed
abbrev pub invariant-loop-named : goal.invariant-loop-named
invariant-loop-named l = record {
  each : Each (IsRoomier l.most (take l.named-index l.added)) l.fn.cells l.cells;
  variables : variables_of l.cells ≡ variables_of l.fn.cells;
  lists : lists_of l.cells ≡ lists_of l.fn.cells;
}
