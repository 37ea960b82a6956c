use Rattle.std.proofs.Common.{◌≡◌, ◌<◌, ◌-◌, ◌^◌, length, None, AllPairs}
use Rattle.cp_claim.specs.Views.{DrawsOnly}
use Rattle.cp_hood.specs.Hoods.{IsIdle}
use Rattle.cp_worker.proofs.Shifting.{IsGoing}
use Rattle.cp_worker.proofs.working.shift.Given as goal

abbrev pub invariant-draws : goal.invariant-draws
invariant-draws g l = record {
  table : l.seat.table ≡ l.fn.seat.table;
  counter : l.claim.counter ≡ l.fn.claim.counter;
  idle : IsIdle l.seat.view;
  draws : DrawsOnly l.fn.claim.view l.claim.view;
  rising : AllPairs (λ a b. a < b) l.fn.claim.view.drawn → AllPairs (λ a b. a < b) l.claim.view.drawn;
  going : IsGoing l.fn.seat.view l.seat.view l.fn.claim.view.drawn l.claim.view.drawn l.round l.opts.workers l.opts.hood l.shift;
  unstopped : l.shift.stopped ≡ None;
}

abbrev pub decreases-draws : goal.decreases-draws
decreases-draws g l = 2 ^ 64 - length l.shift.taken.items
