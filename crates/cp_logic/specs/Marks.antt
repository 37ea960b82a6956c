-- Tables of 1024 bits, in words of 64, in which literals are marked.
use Rattle.std.specs.Prelude.{ℕ, ◌*◌, ◌/◌, ◌%◌, ◌==◌, Bool, List, IsTrue, slice_index_or}
use Rattle.std.specs.Int.{bit_at}
use Rattle.std.specs.List.{All}
use Rattle.cp_logic.specs.Literals.{negated}

-- the place of a literal, from 0 to 1023: the upper bits of a product, so that the literals of a clause spread out
unfoldable pub place_of : ℕ → ℕ
place_of l = l * 2654435769 % 4294967296 / 4194304

-- whether the bit at the place is set
unfoldable pub is_set : List ℕ → ℕ → Bool
is_set words place = bit_at (slice_index_or words (place / 64) 0) (place % 64) == 1

-- the negation of each of the literals is marked
abbrev pub AreMarked : List ℕ → List ℕ → Type 0
AreMarked words lits = All (λ l. IsTrue (is_set words (place_of (negated l)))) lits
