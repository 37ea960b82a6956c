-- What is left to read makes of what was read: a stack, or its first fault.
use Rattle.std.specs.Prelude.{◌≡◌, ℕ, ◌+◌, ◌≤◌, List, [], ◌∷◌, ◌++◌, nat_le, if◌then◌else◌, Option, Some, None, Result, Ok, Err}
use Rattle.cp_logic.specs.Formulas.{IsWithin}
use Rattle.cp_logic.specs.Pairs.{pairs_of}
use Rattle.cp_text.specs.Text.{Word}
use Rattle.cp_stack.specs.declared.reading.Reading.{Reading}
use Rattle.cp_stack.specs.declared.refusal.StackRefusal.{StackRefusal}
use Rattle.cp_text.specs.Results.{◌>>=◌}
use Rattle.cp_stack.specs.Grammar.{Stack, pair_with, pairs_in}
use Rattle.cp_stack.specs.Reads.{Refuses}

-- the stack of the pairs that were ended and of those of these words, which end at a place
abbrev pub resume : Reading → List Word → ℕ → Result Stack StackRefusal
resume r words end = pairs_in r.stack.vars r.left r.open.items words end >>= λ pairs. Ok (record { variables = r.stack.vars; pairs = pairs_of r.stack.pairs ++ pairs })

-- the open pair's literals are of the stack's variables
pub record IsReading (r : Reading) : Type 0 where
  pub variables : r.stack.vars ≤ 2000000
  pub within : IsWithin r.stack.vars r.open.items

-- A word was taken: the words behind it make of the new state what they and the word make of the old one.
abbrev pub IsStep : Reading → Word → Result (Unit {0}) StackRefusal → Reading → Type 0
IsStep old w (Ok done) new = (words : List Word) (end : ℕ) → resume old (w ∷ words) end ≡ resume new words end
IsStep old w (Err e) new = (words : List Word) (end : ℕ) → Refuses (resume old (w ∷ words) end) e

-- The open pair was ended.
pub record EndsPair (old new : Reading) : Type 0 where
  pub variables : new.stack.vars ≡ old.stack.vars
  pub pairs : pairs_of new.stack.pairs ≡ pairs_of old.stack.pairs ++ pair_with old.open.items ∷ []
  pub open_pair : new.open.items ≡ []
  pub left : new.left + 1 ≡ old.left

-- a size that is no more than this
abbrev pub up_to : ℕ → Option ℕ → Option ℕ
up_to most None = None
up_to most (Some n) = if nat_le n most then Some n else None
