use Rattle.std.proofs.Common.{take}
use Rattle.cp_logic.specs.Marks.{AreMarked}
use Rattle.cp_logic.proofs.negations.Negations.of.Given as goal

-- the negation of each literal so far is marked
abbrev pub invariant-loop-lit : goal.invariant-loop-lit
invariant-loop-lit l = AreMarked l.words (take l.lit-index l.lits)
