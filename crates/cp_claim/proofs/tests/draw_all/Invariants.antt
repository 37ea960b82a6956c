use Rattle.std.proofs.Common.{◌≡◌}
use Rattle.cp_claim.specs.Views.{DrawsOnly}
use Rattle.cp_claim.proofs.tests.draw_all.Given as goal

abbrev pub invariant-loop : goal.invariant-loop
invariant-loop l = record { counter : l.seat.counter ≡ l.fn.claims; same : DrawsOnly l.fn.seat.view l.seat.view }
