use Rattle.std.proofs.Common.{take}
use Rattle.cp_logic.proofs.Merges.{Rises}
use Rattle.cp_logic.proofs.clauses.rises.Given as goal

abbrev pub invariant-loop-lit : goal.invariant-loop-lit
invariant-loop-lit l = Rises (take l.lit-index l.lits) l.rises l.last
