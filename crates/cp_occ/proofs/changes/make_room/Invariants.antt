use Rattle.std.proofs.Common.{◌≡◌, [], ◌∷◌}
use Rattle.cp_occ.specs.Cells.{lists_of}
use Rattle.cp_occ.specs.Changes.{IsRoomier}
use Rattle.cp_occ.proofs.Changed.{Going}
use Rattle.cp_occ.proofs.changes.make_room.Given as goal

-- the cells of the variables that are left still wait for room, and all list what they listed
abbrev pub invariant-loop-var : goal.invariant-loop-var
invariant-loop-var l = record {
  going : Going (IsRoomier l.fn.n (l.fn.added ∷ [])) l.fn.added.clause l.fn.cells l.cells l.var-iterator;
  lists : lists_of l.cells ≡ lists_of l.fn.cells;
}
