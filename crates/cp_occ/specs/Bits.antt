-- What is kept of a clause to know its signature without any of its literals.
use Rattle.std.specs.Prelude.{◌≡◌, ℕ, ◌^◌, List, [], ◌∷◌, bit_and, bit_or}
use Rattle.cp_logic.specs.Signatures.{bit_of, signature}
use Rattle.cp_occ.specs.declared.bits.Bits.{Bits}

-- the set of the bits that two or more of the literals have, as a number
unfoldable pub shared_bits : List ℕ → ℕ
shared_bits [] = 0
shared_bits (l ∷ ls) = bit_or (bit_and (2 ^ bit_of l) (signature ls)) (shared_bits ls)

-- the bits are those of the literals
abbrev pub AreBits : List ℕ → Bits → Type 0
AreBits lits bits = (bits.once ≡ signature lits) × (bits.twice ≡ shared_bits lits)
