-- Signatures of clauses: sets of 64 bits, by which most pairs of clauses of which neither is a subset of the other, or of which no
-- literal of the one has its negation in the other, are told without reading them. (Een and Biere, SAT 2005.)
use Rattle.std.specs.Prelude.{ℕ, ◌+◌, ◌*◌, ◌/◌, ◌%◌, ◌^◌, List, [], ◌∷◌, bit_and, bit_or}
use Rattle.cp_logic.specs.Literals.{variable_of}

-- the pair of bits for a variable, from 0 to 31: the product's middle bits, so that neighbouring variables of a formula spread out
abbrev pub pair_of : ℕ → ℕ
pair_of x = x * 2654435769 / 134217728 % 32

-- the bit for a literal, from 0 to 63: of its variable's pair the lower one, and for a negation the upper one
unfoldable pub bit_of : ℕ → ℕ
bit_of l = 2 * pair_of (variable_of l) + l % 2

-- the set of the bits for the literals, as a number
unfoldable pub signature : List ℕ → ℕ
signature [] = 0
signature (l ∷ ls) = bit_or (2 ^ bit_of l) (signature ls)

-- the set with the bits of each pair exchanged, which is that of the negations
unfoldable pub opposite : ℕ → ℕ
opposite bits = bit_or (bit_and bits 6148914691236517205 * 2) (bit_and (bits / 2) 6148914691236517205)
