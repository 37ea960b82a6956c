use Rattle.std.proofs.Common.{take}
use Rattle.cp_logic.proofs.Tautologies.{Apart}
use Rattle.cp_logic.proofs.clauses.Clause.is_tautology.Given as goal

abbrev pub invariant-loop-lit : goal.invariant-loop-lit
invariant-loop-lit l = Apart (take l.lit-index l.lit-items) l.last
