use Rattle.std.proofs.Common.{◌≡◌, bit_or, drop}
use Rattle.cp_logic.specs.Signatures.{signature}
use Rattle.cp_logic.proofs.signatures.signature.Given as goal

-- with the bits of the literals that are left it is the whole signature
abbrev pub invariant-loop-lit : goal.invariant-loop-lit
invariant-loop-lit l = bit_or l.bits (signature (drop l.lit-index l.lits)) ≡ signature l.lits
