use Rattle.std.proofs.Common.{◌≡◌, ◌≢◌, ◌+◌, ◌≤◌, ◌++◌, List, map, length, MatchBool, Some, vec_capacity}
use Rattle.std.specs.List.{All}
use Rattle.std.specs.Vec.Iter.{into_iter_items}
use Rattle.cp_worker.specs.declared.lists.WorkerShift.{WorkerShift}
use Rattle.cp_phase.specs.Rounds.{NoneStopped, OneStopped}
use Rattle.cp_phase.specs.Teams.{claims_joined}
use Rattle.cp_phase.proofs.round.gather.Given as goal

-- the members that are left come after the seats and shifts until here
abbrev pub invariant-loop-member : goal.invariant-loop-member
invariant-loop-member l = record {
  counter : l.claim.counter ≡ l.fn.claims;
  claim : claims_joined l.claim.view (into_iter_items l.member-iterator) ≡ claims_joined l.fn.claim.view l.fn.members.items;
  counters : All (λ m. (m.claim.counter ≡ l.fn.claims) × (m.claim.view.mine.number ≢ 0)) (into_iter_items l.member-iterator);
  seats : l.seats.items ++ map (λ m. m.seat) (into_iter_items l.member-iterator) ≡ map (λ m. m.seat) l.fn.members.items;
  seats_room : length l.seats.items + length (into_iter_items l.member-iterator) ≤ vec_capacity l.seats;
  shifts : (ss : List WorkerShift) × (l.shifts.items ≡ l.fn.shifts.items ++ ss) × (map Some ss ++ map (λ m. m.shift) (into_iter_items l.member-iterator) ≡ map (λ m. m.shift) l.fn.members.items) × MatchBool l.stopped (OneStopped ss) (NoneStopped ss);
  shifts_room : length (into_iter_items l.member-iterator) ≤ l.shifts.spare;
}
