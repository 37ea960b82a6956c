-- The words and lines of a text, with their places.
-- A blank is a space, a tab or a carriage return. A line ends with a line feed or with the text. A word is a longest run of
-- other bytes, and a place is the number of bytes before it.
use Rattle.std.specs.Prelude.{ℕ, ◌+◌, List, [], ◌∷◌, Bool, false, ◌||◌, ◌==◌, if◌then◌else◌}

abbrev pub is_blank : ℕ → Bool
is_blank b = b == 32 || (b == 9 || b == 13)

-- a line feed or a blank
abbrev pub separates : ℕ → Bool
separates b = b == 10 || is_blank b

abbrev pub begins_with : ℕ → List ℕ → Bool
begins_with b [] = false
begins_with b (c ∷ bytes) = c == b

-- a word, and how many bytes stand before it
pub record Word : Type 0 where
  pub at : ℕ
  pub bytes : List ℕ

-- the words of a line, and where it ends: at its line feed, or where the text ends
pub record Line : Type 0 where
  pub words : List Word
  pub end : ℕ

-- a byte in front of words: it joins the word that begins right behind it
abbrev pub onto_words : ℕ → ℕ → List Word → List Word
onto_words at b [] = record { at = at; bytes = b ∷ [] } ∷ []
onto_words at b (w ∷ words) = if w.at == at + 1 then record { at = at; bytes = b ∷ w.bytes } ∷ words else record { at = at; bytes = b ∷ [] } ∷ (w ∷ words)

-- a byte of a word in front of lines
abbrev pub onto_line : ℕ → ℕ → List Line → List Line
onto_line at b [] = []
onto_line at b (line ∷ lines) = record { words = onto_words at b line.words; end = line.end } ∷ lines

-- the lines of a text that begins at a place, the last one being what follows the last line feed
unfoldable pub lines_from : ℕ → List ℕ → List Line
lines_from at [] = record { words = []; end = at } ∷ []
lines_from at (b ∷ bytes) =
    if b == 10 then record { words = []; end = at } ∷ lines_from (at + 1) bytes
    else if is_blank b then lines_from (at + 1) bytes
    else onto_line at b (lines_from (at + 1) bytes)
