use Rattle.std.proofs.Common.{◌≡◌, drop}
use Rattle.cp_logic.specs.Clauses.{is_subset}
use Rattle.cp_logic.proofs.searches.are_found.Given as goal

-- all are among the others where those that are left are
abbrev pub invariant-loop-lit : goal.invariant-loop-lit
invariant-loop-lit l = is_subset (drop l.lit-index l.lits) l.others ≡ is_subset l.lits l.others
