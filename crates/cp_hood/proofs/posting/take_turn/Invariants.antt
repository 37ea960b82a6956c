use Rattle.std.proofs.Common.{◌≡◌, ℕ, ◌+◌, List, length}
use Rattle.cp_hood.specs.Seats.{met_turns, noted_all}
use Rattle.cp_hood.proofs.posting.take_turn.Given as goal

abbrev pub invariant-loop-made : goal.invariant-loop-made
invariant-loop-made l = (l.seat.table ≡ l.initial.seat.table)
    × ((met : List ℕ) × (length met + 1 ≡ l._made) × (l.seat.view ≡ noted_all (met_turns met) l.initial.seat.view))
