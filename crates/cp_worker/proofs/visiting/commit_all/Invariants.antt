use Rattle.std.proofs.Common.{◌≡◌}
use Rattle.cp_find.specs.Past.{IsPast}
use Rattle.cp_hood.specs.Hoods.{HoldsJust, centre_clauses}
use Rattle.cp_worker.proofs.Sizes.{size}
use Rattle.cp_worker.proofs.Commits.{IsUnderWay}
use Rattle.cp_worker.proofs.visiting.commit_all.Given as goal

abbrev pub invariant-commits : goal.invariant-commits
invariant-commits l = record {
  table : l.seat.table ≡ l.fn.seat.table;
  holds : HoldsJust l.seat.view l.hood.cells;
  centre : l.hood.centre ≡ l.fn.hood.centre;
  going : IsUnderWay l.fn.seat.view l.seat.view l.fn.hood.centre l.round (centre_clauses l.fn.hood) (centre_clauses l.hood) l.commits.items;
  past : IsPast l.hood.centre (centre_clauses l.hood) l.reached;
}

abbrev pub decreases-commits : goal.decreases-commits
decreases-commits l = size (centre_clauses l.hood)
