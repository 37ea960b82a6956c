use Rattle.std.proofs.Common.{◌≡◌, ◌+◌, length, drop}
use Rattle.cp_logic.specs.Resolvents.{resolvents_by}
use Rattle.cp_eliminate.proofs.resolvents.left_after.Given as goal

-- as many were counted down as there are resolvents with the clauses so far
abbrev pub invariant-loop-other : goal.invariant-loop-other
invariant-loop-other l =
    record {
      same : l.against ≡ record { clause = l.clause.clause; literal = l.fn.lit };
      counted : l.most + length (resolvents_by l.fn.lit l.clause.clause (drop l.other-index l.neg)) ≡ l.left + length (resolvents_by l.fn.lit l.clause.clause l.neg);
    }
