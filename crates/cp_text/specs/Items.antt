-- What comes next in a text, against its lines.
use Rattle.std.specs.Prelude.{◌≡◌, ℕ, ◌+◌, ◌<◌, ◌≤◌, List, [], ◌∷◌, length, get_or, Bool, true, false}
use Rattle.cp_text.specs.declared.text.Item.{Item}
use Rattle.cp_text.specs.declared.text.Item.TheVariants as items
use Rattle.cp_text.specs.Text.{Word as TextWord, Line, separates, lines_from}
use Rattle.cp_text.specs.Cut.{lines_seen}

-- Up to n, and no further, the text has no separator.
pub record IsWordFront (text : List ℕ) (n : ℕ) : Type 0 where
  pub bound : n ≤ length text
  pub before : (k : ℕ) → k < n → separates (get_or text k 0) ≡ false
  pub stops : n < length text → separates (get_or text n 0) ≡ true

-- a word in front of the first line
abbrev pub with_word : TextWord → List Line → List Line
with_word w [] = []
with_word w (line ∷ lines) = record { words = w ∷ line.words; end = line.end } ∷ lines

-- the lines of a text are this item and the lines of what follows it
abbrev pub IsNext : ℕ → List ℕ → Item → Type 0
IsNext place text (items.Word at word rest) = (lines_from place text ≡ with_word (record { at = at; bytes = word.now }) (lines_from (at + length word.now) rest.now)) × (0 < length word.now) × (place ≤ at) × (at + length word.now + length rest.now ≡ place + length text)
IsNext place text (items.LineEnd at rest) = (lines_from place text ≡ record { words = []; end = at } ∷ lines_from (at + 1) rest.now) × (place ≤ at) × (at + 1 + length rest.now ≡ place + length text)
IsNext place text (items.End at) = (lines_from place text ≡ record { words = []; end = at } ∷ []) × (at ≡ place + length text)

-- the same of the lines that are seen of a text whose last word may be cut
abbrev pub IsNextSeen : Bool → ℕ → List ℕ → Item → Type 0
IsNextSeen cut place text (items.Word at word rest) = (lines_seen cut place text ≡ with_word (record { at = at; bytes = word.now }) (lines_seen cut (at + length word.now) rest.now)) × (0 < length word.now) × (place ≤ at) × (at + length word.now + length rest.now ≡ place + length text)
IsNextSeen cut place text (items.LineEnd at rest) = (lines_seen cut place text ≡ record { words = []; end = at } ∷ lines_seen cut (at + 1) rest.now) × (place ≤ at) × (at + 1 + length rest.now ≡ place + length text)
IsNextSeen cut place text (items.End at) = (lines_seen cut place text ≡ record { words = []; end = at } ∷ []) × (at ≡ place + length text)
