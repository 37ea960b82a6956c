-- A reader of a text that comes in pieces.
use Rattle.std.specs.Prelude.{◌≡◌, ℕ, ◌+◌, List, ◌++◌, Bool, true, false, take, Result, Ok, Err}
use Rattle.cp_io.specs.declared.limits.Limits.{Limits}
use Rattle.cp_io.specs.declared.feed.Feed.{Feed}
use Rattle.cp_io.specs.declared.feed.Feed.TheVariants.{More, Ended}

-- what contracts see of a reader: its limits, the bytes that it keeps, and whether it has refused for want of memory
pub record ReaderState : Type 0 where
  pub limits : Limits
  pub bytes : List ℕ
  pub refused : Bool

-- These are all bytes that the reader was fed: it keeps those within the limit and one more.
abbrev pub IsFed : ReaderState → List ℕ → Type 0
IsFed r all = r.bytes ≡ take (r.limits.bytes + 1) all

-- the reader that was fed these bytes too
abbrev pub with_piece : ReaderState → List ℕ → ReaderState
with_piece r bytes = record r { bytes = take (r.limits.bytes + 1) (r.bytes ++ bytes) }

-- Where it has refused, and only then or for want of memory, it refuses by this refusal; and it keeps what it was fed.
abbrev pub Feeds : {E : Type 0} → E → ReaderState → List ℕ → Result Feed E → ReaderState → Type 0
Feeds no_memory old bytes (Ok More) new = (old.refused ≡ false) × (new ≡ with_piece old bytes)
Feeds no_memory old bytes (Ok Ended) new = ⊥
Feeds no_memory old bytes (Err refusal) new = (refusal ≡ no_memory) × (new ≡ record old { refused = true })

-- The bytes that were fed before, and this piece behind them, are all that a reader was fed.
abbrev pub KeepsFed : {E : Type 0} → ReaderState → List ℕ → Result Feed E → ReaderState → Type 0
KeepsFed old bytes (Ok answer) new = (all : List ℕ) → IsFed old all → IsFed new (all ++ bytes)
KeepsFed old bytes (Err refusal) new = (all : List ℕ) → IsFed old all → IsFed new all
