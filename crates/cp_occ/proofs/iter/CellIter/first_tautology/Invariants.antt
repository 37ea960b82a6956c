use Rattle.std.proofs.Common.{◌≡◌, length}
use Rattle.std.specs.List.{find}
use Rattle.cp_logic.specs.declared.named.Named.{Named}
use Rattle.cp_logic.specs.Clauses.{is_tautology}
use Rattle.cp_occ.proofs.iter.CellIter.first_tautology.Given as goal

-- only clauses that are no tautologies were passed over
abbrev pub invariant-loop-first : goal.invariant-loop-first
invariant-loop-first l = find (λ (c : Named). is_tautology c.clause) l.left ≡ find (λ (c : Named). is_tautology c.clause) l.fn.self

abbrev pub decreases-loop-first : goal.decreases-loop-first
decreases-loop-first l = length l.left
