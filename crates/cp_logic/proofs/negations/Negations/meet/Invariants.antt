use Rattle.std.proofs.Common.{◌≡◌, drop}
use Rattle.cp_logic.specs.Clauses.{has_negation}
use Rattle.cp_logic.proofs.negations.Negations.meet.Given as goal

-- one has its negation in the clause where one of those that are left has
abbrev pub invariant-loop-lit : goal.invariant-loop-lit
invariant-loop-lit l = has_negation (drop l.lit-index l.lits) l.fn.pivot l.self ≡ has_negation l.lits l.fn.pivot l.self
