use Rattle.std.proofs.Common.{◌≡◌}
use Rattle.std.specs.List.{All}
use Rattle.std.specs.Vec.Iter.{into_iter_items}
use Rattle.cp_phase.specs.Teams.{joined_all}
use Rattle.cp_phase.proofs.Joins.{IsOut}
use Rattle.cp_phase.proofs.team.join_seats.Given as goal

-- the seats that are left are taken in from here on
abbrev pub invariant-loop-other : goal.invariant-loop-other
invariant-loop-other l = record {
  table : l.seat.table ≡ l.fn.yard.table;
  joined : joined_all l.seat.view (into_iter_items l.other-iterator) ≡ joined_all l.fn.seat.view l.fn.seats.items;
  out : All (IsOut l.fn.yard) (into_iter_items l.other-iterator);
}
