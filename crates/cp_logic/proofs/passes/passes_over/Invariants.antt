use Rattle.std.proofs.Common.{◌≡◌, ◌≤◌, drop, length}
use Rattle.cp_logic.specs.Clauses.{is_subset}
use Rattle.cp_logic.proofs.passes.passes_over.Given as goal

-- the literals that were found are in the others so far, and those that are left can only be in the rest
abbrev pub invariant-loop-other : goal.invariant-loop-other
invariant-loop-other l =
    record {
      within : l.found ≤ length l.lits;
      left : is_subset (drop l.found l.lits) (drop l.other-index l.others) ≡ is_subset l.lits l.others;
    }
