-- What a reader sees of an input that may be longer than its limit: the lines of the bytes within the limit, without a last word
-- that goes on behind it.
use Rattle.std.specs.Prelude.{◌≡◌, ℕ, ◌+◌, List, [], ◌∷◌, length, take, drop, map, Bool, true, false, not, nat_lt}
use Rattle.std.specs.List.{filter}
use Rattle.cp_text.specs.Text.{Word, Line, separates, lines_from}
use Rattle.cp_text.specs.declared.cut.Seen.{Seen}

-- whether a word goes on with these bytes
abbrev pub goes_on : List ℕ → Bool
goes_on [] = false
goes_on (b ∷ bytes) = not (separates b)

-- the words that end before a place
abbrev pub words_before : ℕ → Line → Line
words_before place line = record { words = filter (λ w. nat_lt (w.at + length w.bytes) place) line.words; end = line.end }

-- The words that are looked at. The last word of a text that is cut, if it ends where the text ends, isn't one of them.
abbrev pub whole_words : Bool → ℕ → List Word → List Word
whole_words false end words = words
whole_words true end words = let line = words_before end (record { words = words; end = end }) in line.words

-- the lines without a word that ends where the text ends, if that word is cut
abbrev pub seen_before : Bool → ℕ → List Line → List Line
seen_before false end lines = lines
seen_before true end lines = map (words_before end) lines

-- what is seen of a text that begins at a place and whose last word may be cut
abbrev pub lines_seen : Bool → ℕ → List ℕ → List Line
lines_seen cut place text = seen_before cut (place + length text) (lines_from place text)

-- what is seen of a whole input within a limit of bytes
unfoldable pub lines_within : ℕ → List ℕ → List Line
lines_within limit text = lines_seen (goes_on (drop limit text)) 0 (take limit text)

-- the bytes within a limit, and what is behind them
pub record IsSeen (limit : ℕ) (input : List ℕ) (seen : Seen) : Type 0 where
  pub text : seen.ahead.text.now ≡ take limit input
  pub start : seen.ahead.at ≡ 0
  pub cut : seen.ahead.cut ≡ goes_on (drop limit input)
  pub past : seen.past ≡ nat_lt limit (length input)
  pub lines : lines_within limit input ≡ lines_seen seen.ahead.cut seen.ahead.at seen.ahead.text.now

-- What is seen depends on no byte behind the first past the limit.
abbrev pub SeesWithin : Type 0
SeesWithin = (limit : ℕ) (input : List ℕ) → (lines_within limit (take (limit + 1) input) ≡ lines_within limit input) × (nat_lt limit (length (take (limit + 1) input)) ≡ nat_lt limit (length input))

-- All lines of an input that isn't longer are seen.
abbrev pub SeesAll : Type 0
SeesAll = (limit : ℕ) (input : List ℕ) → nat_lt limit (length input) ≡ false → lines_within limit input ≡ lines_from 0 input
