use Rattle.std.proofs.Common.{◌≡◌, ◌+◌, length, vec_capacity}
use Rattle.cp_phase.specs.Teams.{AreSeats, AreNew}
use Rattle.cp_phase.proofs.team.split_seats.Given as goal

abbrev pub invariant-loop-k : goal.invariant-loop-k
invariant-loop-k l = record {
  table : l.seat.table ≡ l.fn.yard.table;
  seat : l.seat.view ≡ record l.fn.seat.view { made = l.k + 1 };
  count : length l.all.items ≡ l.k;
  room : vec_capacity l.all ≡ l.fn.count;
  seats : AreSeats l.fn.yard l.all.items;
  new : AreNew l.all.items;
}
