-- The bytes that were fed to a reader.
use Rattle.std.specs.Prelude.{◌≡◌, ℕ, ◌+◌, List, ◌++◌, take}

-- the bytes that are kept, of which there is at most one past the limit
pub record Kept : Type 0 where
  pub limit : ℕ
  pub bytes : List ℕ

-- what is kept once these bytes were fed too
abbrev pub with_bytes : Kept → List ℕ → Kept
with_bytes k bytes = record { limit = k.limit; bytes = take (k.limit + 1) (k.bytes ++ bytes) }

-- Bytes that are fed in pieces are kept as if they came at once.
abbrev pub KeepsPieces : Type 0
KeepsPieces = (limit : ℕ) (first second : List ℕ) → take (limit + 1) (take (limit + 1) first ++ second) ≡ take (limit + 1) (first ++ second)
