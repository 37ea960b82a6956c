use Rattle.std.proofs.Common.{◌<◌, ℕ, length}
use Rattle.cp_phase.specs.Rounds.{of_round, NoneStopped}
use Rattle.cp_phase.specs.Teams.{ArePlayed}
use Rattle.cp_phase.proofs.phase.play_all.Given as goal

abbrev pub invariant-loop-r : goal.invariant-loop-r
invariant-loop-r g l = record {
  played : ArePlayed l.fn.yard l.opts.hood (length l.fn.seats.items) l.r l.seats.items l.shifts.items;
  going : (q : ℕ) → q < l.r → NoneStopped (of_round (length l.fn.seats.items) q l.shifts.items);
}
