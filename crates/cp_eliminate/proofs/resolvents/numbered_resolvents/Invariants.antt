use Rattle.std.proofs.Common.{◌≡◌, take}
use Rattle.cp_logic.specs.Entries.{numbered_from}
use Rattle.cp_logic.specs.Legality.{resolvents}
use Rattle.cp_eliminate.proofs.resolvents.numbered_resolvents.Given as goal

-- the resolvents of the clauses so far
abbrev pub invariant-loop-first : goal.invariant-loop-first
invariant-loop-first l = l.new.items ≡ numbered_from l.next (resolvents l.var (take l.first-index l.pos) l.neg)
