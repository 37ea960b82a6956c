use Rattle.std.proofs.Common.{◌≡◌, ◌+◌, ◌++◌, length, vec_capacity}
use Rattle.std.specs.Vec.Iter.{into_iter_items}
use Rattle.cp_phase.specs.Teams.{founder_of, members_from}
use Rattle.cp_phase.proofs.team.members_of.Given as goal

-- the seats that are left become members from here on
abbrev pub invariant-loop-seat : goal.invariant-loop-seat
invariant-loop-seat l = record {
  counter : l.claim.counter ≡ l.fn.claims;
  claim : l.claim.view ≡ founder_of l.fn.claims.limit (length l.members.items + 1);
  members : l.members.items ++ members_from l.fn.claims (length l.members.items + 1) (into_iter_items l.seat-iterator) ≡ members_from l.fn.claims 1 l.fn.seats.items;
  count : length l.members.items + length (into_iter_items l.seat-iterator) ≡ length l.fn.seats.items;
  room : vec_capacity l.members ≡ length l.fn.seats.items;
}
