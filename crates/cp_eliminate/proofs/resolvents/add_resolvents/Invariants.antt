use Rattle.std.proofs.Common.{◌≡◌, ◌+◌, ◌++◌, length, take}
use Rattle.cp_logic.specs.Literals.{positive}
use Rattle.cp_logic.specs.Entries.{numbered_from}
use Rattle.cp_logic.specs.Resolvents.{resolvents_by}
use Rattle.cp_eliminate.proofs.resolvents.add_resolvents.Given as goal

-- the resolvents with the clauses so far
abbrev pub invariant-loop-second : goal.invariant-loop-second
invariant-loop-second l =
    record {
      same : l.against ≡ record { clause = l.first.clause; literal = positive l.var };
      added : l.new.items ≡ l.fn.new.items ++ numbered_from (l.next + length l.fn.new.items) (resolvents_by (positive l.var) l.first.clause (take l.second-index l.neg));
    }
