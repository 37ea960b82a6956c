use Rattle.std.proofs.Common.{◌≡◌, drop}
use Rattle.cp_logic.specs.Clauses.{is_subset, without}
use Rattle.cp_find.proofs.wanted.has_besides.Given as goal

-- the clause has them all where it has those that are left
abbrev pub invariant-loop-lit : goal.invariant-loop-lit
invariant-loop-lit l = is_subset (without (drop l.lit-index l.lits) l.fn.besides) l.clause ≡ is_subset (without l.lits l.fn.besides) l.clause
