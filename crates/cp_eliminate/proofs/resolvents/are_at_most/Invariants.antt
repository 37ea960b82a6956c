use Rattle.std.proofs.Common.{◌≡◌, length, drop}
use Rattle.std.specs.Prelude.{nat_le}
use Rattle.cp_logic.specs.Legality.{resolvents}
use Rattle.cp_eliminate.proofs.resolvents.are_at_most.Given as goal

-- the test is on the clauses that are left
abbrev pub invariant-loop-first : goal.invariant-loop-first
invariant-loop-first l = nat_le (length (resolvents l.var (drop l.first-index l.pos) l.neg)) l.left ≡ nat_le (length (resolvents l.var l.pos l.neg)) l.most
