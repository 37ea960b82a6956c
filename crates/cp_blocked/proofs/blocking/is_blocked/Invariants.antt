use Rattle.std.proofs.Common.{◌≡◌, drop}
use Rattle.std.specs.List.{list_all}
use Rattle.cp_logic.specs.declared.named.Named.{Named}
use Rattle.cp_logic.specs.Clauses.{is_tautology, resolvent}
use Rattle.cp_blocked.proofs.blocking.is_blocked.Given as goal

-- the resolvents with all others are tautologies where those with the ones that are left are
abbrev pub invariant-loop-other : goal.invariant-loop-other
invariant-loop-other l =
    record {
      same : l.against ≡ record { clause = l.clause.clause; literal = l.fn.lit };
      left : list_all (λ (d : Named). is_tautology (resolvent l.fn.lit l.clause.clause d.clause)) (drop l.other-index l.others) ≡ list_all (λ (d : Named). is_tautology (resolvent l.fn.lit l.clause.clause d.clause)) l.others;
    }
