-- What comes next in a text whose last word may be cut.
use Rattle.std.specs.Prelude.{◌≡◌, ℕ, ◌+◌, ◌<◌, ◌≤◌, List, [], ◌∷◌, length, Bool}
use Rattle.cp_text.specs.declared.ahead.Ahead.{Ahead}
use Rattle.cp_text.specs.declared.text.Item.{Item}
use Rattle.cp_text.specs.declared.text.Item.TheVariants as items
use Rattle.cp_text.specs.Text.{Word as TextWord, Line, lines_from}
use Rattle.cp_text.specs.Items.{with_word}
use Rattle.cp_text.specs.Cut.{whole_words, lines_seen}

-- the lines that are ahead, and where the text ends
abbrev pub all_lines : Ahead → List Line
all_lines a = lines_from a.at a.text.now

abbrev pub text_end : Ahead → ℕ
text_end a = a.at + length a.text.now

-- the lines that are seen
abbrev pub lines_of : Ahead → List Line
lines_of a = lines_seen a.cut a.at a.text.now

-- a word that is looked at stands in front of a text that ends at a place, and the rest begins where it ends
pub record IsWordAhead (cut : Bool) (place : ℕ) (text : List ℕ) (w : TextWord) (rest : List ℕ) : Type 0 where
  pub lines : lines_from place text ≡ with_word w (lines_from (w.at + length w.bytes) rest)
  pub whole : (words : List TextWord) → whole_words cut (place + length text) (w ∷ words) ≡ w ∷ whole_words cut (place + length text) words
  pub some : 0 < length w.bytes
  pub later : place ≤ w.at
  pub reaches : w.at + length w.bytes + length rest ≡ place + length text

-- a line without words that are looked at stands in front
pub record IsLineAhead (cut : Bool) (place : ℕ) (text : List ℕ) (at : ℕ) (behind : List Line) : Type 0 where
  pub line : Line
  pub is : lines_from place text ≡ line ∷ behind
  pub none : whole_words cut (place + length text) line.words ≡ []
  pub end : line.end ≡ at

abbrev pub IsNextWhole : Bool → ℕ → List ℕ → Item → Type 0
IsNextWhole cut place text (items.Word at word rest) = IsWordAhead cut place text (record { at = at; bytes = word.now }) rest.now
IsNextWhole cut place text (items.LineEnd at rest) = IsLineAhead cut place text at (lines_from (at + 1) rest.now) × (place ≤ at) × (at + 1 + length rest.now ≡ place + length text)
IsNextWhole cut place text (items.End at) = IsLineAhead cut place text at [] × (at ≡ place + length text)
