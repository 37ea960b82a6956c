use Rattle.std.proofs.Common.{◌≡◌, ◌+◌, [], List, length, All}
use Rattle.cp_yard.specs.Views.{Note}
use Rattle.cp_hood.specs.Hoods.{IsIdle}
use Rattle.cp_hood.specs.Seats.{GoesOn}
use Rattle.cp_worker.specs.Visits.{IsHeld, notes_of}
use Rattle.cp_worker.proofs.visiting.try_again.Given as goal

abbrev pub invariant-loop-k : goal.invariant-loop-k
invariant-loop-k l = record {
  table : l.seat.table ≡ l.fn.seat.table;
  idle : IsIdle l.seat.view;
  going : (held : List (List Note)) × (length held + 1 ≡ l.k) × All (IsHeld l.x l.limit (length l.fn.seat.view.own.posts)) held × GoesOn l.fn.seat.view l.seat.view (notes_of held) [];
}
