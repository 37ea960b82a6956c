use Rattle.cp_occ.proofs.SharedBits.{SoFar}
use Rattle.cp_occ.proofs.bits.Bits.of.Given as goal

-- the bits of the literals so far
abbrev pub invariant-loop-lit : goal.invariant-loop-lit
invariant-loop-lit l = SoFar l.lits l.lit-index l.once l.twice
