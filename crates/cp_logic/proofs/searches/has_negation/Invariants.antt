use Rattle.std.proofs.Common.{◌≡◌, drop}
use Rattle.cp_logic.specs.Clauses.{has_negation}
use Rattle.cp_logic.proofs.searches.has_negation.Given as goal

-- one has its negation among the others where one of those that are left has
abbrev pub invariant-loop-lit : goal.invariant-loop-lit
invariant-loop-lit l = has_negation (drop l.lit-index l.lits) l.fn.pivot l.others ≡ has_negation l.lits l.fn.pivot l.others
