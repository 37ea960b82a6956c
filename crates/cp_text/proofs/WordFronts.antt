-- The word that a text begins with is the first word of its first line.
use Rattle.std.proofs.Common.{◌≡◌, ◌≢◌, ℕ, zero, suc, ◌+◌, ◌<◌, ◌≤◌, Bool, true, false, eqb, cond, List, [], ◌∷◌, length, take, drop, get_or, refl, sym, ◌∙◌, ap, subst, arith}
use Rattle.std.specs.Prelude.{◌||◌}
use Rattle.std.proofs.lemmas.Bool.{or_parts}
use Rattle.std.proofs.lemmas.Bool.Decides.{nat_tests}
use Rattle.std.proofs.lemmas.List.{length-take-le, length-drop}
use Rattle.cp_text.specs.Text.{Word, Line, is_blank, separates, onto_words, onto_line, lines_from}
use Rattle.cp_text.specs.Items.{IsWordFront, with_word}

-- the first word of the first line, if there is one, begins at this place or behind it
abbrev WordsFrom : ℕ → List Word → Type 0
WordsFrom p [] = Unit {0}
WordsFrom p (w ∷ words) = p ≤ w.at

abbrev From : ℕ → List Line → Type 0
From p [] = Unit {0}
From p (line ∷ lines) = WordsFrom p line.words

words_weaker : (p : ℕ) (words : List Word) → WordsFrom (p + 1) words → WordsFrom p words
words_weaker p [] h = tt
words_weaker p (w ∷ words) h = omega arith

from_weaker : (p : ℕ) (lines : List Line) → From (p + 1) lines → From p lines
from_weaker p [] h = tt
from_weaker p (line ∷ lines) h = words_weaker p line.words h

joined : (p b : ℕ) (w : Word) (words : List Word) (t : Bool) → WordsFrom p (cond t (record { at = p; bytes = b ∷ w.bytes } ∷ words) (record { at = p; bytes = b ∷ [] } ∷ (w ∷ words)))
joined p b w words true = omega arith
joined p b w words false = omega arith

from_onto_words : (p b : ℕ) (words : List Word) → WordsFrom p (onto_words p b words)
from_onto_words p b [] = omega arith
from_onto_words p b (w ∷ words) = joined p b w words (eqb w.at (p + 1))

from_onto : (p b : ℕ) (lines : List Line) → From p (onto_line p b lines)
from_onto p b [] = tt
from_onto p b (line ∷ lines) = from_onto_words p b line.words

one_byte : (p b : ℕ) (bytes : List ℕ) (newline blank : Bool) → From (p + 1) (lines_from (p + 1) bytes)
    → From p (cond newline (record { words = []; end = p } ∷ lines_from (p + 1) bytes) (cond blank (lines_from (p + 1) bytes) (onto_line p b (lines_from (p + 1) bytes))))
one_byte p b bytes true blank h = tt
one_byte p b bytes false true h = from_weaker p (lines_from (p + 1) bytes) h
one_byte p b bytes false false h = from_onto p b (lines_from (p + 1) bytes)

from_lines : (p : ℕ) (bytes : List ℕ) → From p (lines_from p bytes)
unfolding lines_from
from_lines p [] = tt
from_lines p (b ∷ bytes) = one_byte p b bytes (eqb b 10) (is_blank b) (from_lines (p + 1) bytes)

separator_byte : (p b : ℕ) (bytes : List ℕ) (newline blank : Bool) → (newline || blank) ≡ true → From (p + 1) (lines_from (p + 1) bytes)
    → From (p + 1) (cond newline (record { words = []; end = p } ∷ lines_from (p + 1) bytes) (cond blank (lines_from (p + 1) bytes) (onto_line p b (lines_from (p + 1) bytes))))
separator_byte p b bytes true blank s h = tt
separator_byte p b bytes false true s h = h
separator_byte p b bytes false false s h = absurd cc

-- behind a separator no word begins at once
apart : (p : ℕ) (bytes : List ℕ) → (0 < length bytes → separates (get_or bytes 0 0) ≡ true) → From (p + 1) (lines_from p bytes)
unfolding lines_from
apart p [] h = tt
apart p (b ∷ bytes) h = separator_byte p b bytes (eqb b 10) (is_blank b) (h (omega arith)) (from_lines (p + 1) bytes)

alone_words : (p b : ℕ) (w : Word) (words : List Word) → p + 2 ≤ w.at → onto_words p b (w ∷ words) ≡ record { at = p; bytes = b ∷ [] } ∷ (w ∷ words)
alone_words p b w words far = let t : eqb w.at (p + 1) ≡ false = grind (arith, nat_tests) in rw t refl

-- a byte in front of lines that begin farther on is a word of its own
alone : (p b : ℕ) (lines : List Line) → From (p + 2) lines → onto_line p b lines ≡ with_word (record { at = p; bytes = b ∷ [] }) lines
alone p b [] far = refl
alone p b (line ∷ lines) far = in_line line.words far
  where
    in_line : (words : List Word) → WordsFrom (p + 2) words → onto_line p b (record { words = words; end = line.end } ∷ lines) ≡ with_word (record { at = p; bytes = b ∷ [] }) (record { words = words; end = line.end } ∷ lines)
    in_line [] far = refl
    in_line (w ∷ words) far = ap (λ (ws : List Word). record { words = ws; end = line.end } ∷ lines) (alone_words p b w words far)

longer_words : (p b : ℕ) (bytes : List ℕ) (words : List Word) → onto_words p b (record { at = p + 1; bytes = bytes } ∷ words) ≡ record { at = p; bytes = b ∷ bytes } ∷ words
longer_words p b bytes words = let t : eqb (p + 1) (p + 1) ≡ true = grind (arith, nat_tests) in rw t refl

longer : (p b : ℕ) (bytes : List ℕ) (lines : List Line) → onto_line p b (with_word (record { at = p + 1; bytes = bytes }) lines) ≡ with_word (record { at = p; bytes = b ∷ bytes }) lines
longer p b bytes [] = refl
longer p b bytes (line ∷ lines) = ap (λ (ws : List Word). record { words = ws; end = line.end } ∷ lines) (longer_words p b bytes line.words)

word_byte : (p b : ℕ) (bytes : List ℕ) → separates b ≡ false → lines_from p (b ∷ bytes) ≡ onto_line p b (lines_from (p + 1) bytes)
unfolding lines_from
word_byte p b bytes h = let parts = or_parts (eqb b 10) (is_blank b) h in rw (parts.0, parts.1) refl

-- the word that a text begins with, and the lines behind it
pub word_front : (p : ℕ) (text : List ℕ) (n : ℕ) → 0 < n → IsWordFront text n → lines_from p text ≡ with_word (record { at = p; bytes = take n text }) (lines_from (p + n) (drop n text))
word_front p [] n some front = absurd (omega (arith, front.bound))
word_front p (b ∷ bytes) zero some front = absurd (omega arith)
word_front p (b ∷ bytes) (suc zero) some front =
    let far : From (p + 2) (lines_from (p + 1) bytes) = subst (λ k. From k (lines_from (p + 1) bytes)) (omega arith) (apart (p + 1) bytes (λ more. front.stops (omega arith))) in
    word_byte p b bytes (front.before 0 (omega arith)) ∙ alone p b (lines_from (p + 1) bytes) far
word_front p (b ∷ bytes) (suc (suc n)) some front =
    let rest = word_front (p + 1) bytes (suc n) (omega arith) (record { bound = omega (arith, front.bound); before = λ k low. front.before (suc k) (omega arith); stops = λ more. front.stops (omega arith) }) in
    let place : (p + 1) + suc n ≡ p + suc (suc n) = omega arith in
    word_byte p b bytes (front.before 0 (omega arith)) ∙ ap (onto_line p b) rest ∙ longer p b (take (suc n) bytes) (lines_from ((p + 1) + suc n) (drop (suc n) bytes))
    ∙ ap (λ k. with_word (record { at = p; bytes = b ∷ take (suc n) bytes }) (lines_from k (drop (suc n) bytes))) place

neither : (b : ℕ) → b ≢ 10 → is_blank b ≡ false → separates b ≡ false
neither b newline blank = let t : eqb b 10 ≡ false = grind (arith, nat_tests) in rw (t, blank) refl

some_front : (text : List ℕ) (n : ℕ) → IsWordFront text n → 0 < length text → separates (get_or text 0 0) ≡ false → 0 < n
some_front text zero front some first = absurd (cc (front.stops some, first))
some_front text (suc n) front some first = omega arith

-- the same, for a word and what follows it that were split off
pub next_word_is : (p : ℕ) (text : List ℕ) (n : ℕ) (word rest : List ℕ) → IsWordFront text n → 0 < length text → get_or text 0 0 ≢ 10 → is_blank (get_or text 0 0) ≡ false → word ≡ take n text → rest ≡ drop n text
    → (lines_from p text ≡ with_word (record { at = p; bytes = word }) (lines_from (p + length word) rest)) × (0 < length word) × (p + length word + length rest ≡ p + length text)
next_word_is p text n word rest front some newline blank is behind =
    let more = some_front text n front some (neither (get_or text 0 0) newline blank) in
    let long : length word ≡ n = ap length is ∙ length-take-le n text front.bound in
    let lines : lines_from p text ≡ with_word (record { at = p; bytes = word }) (lines_from (p + n) rest) = rw (is, behind) (word_front p text n more front) in
    (lines ∙ ap (λ k. with_word (record { at = p; bytes = word }) (lines_from (p + k) rest)) (sym long), omega (arith, long, more), omega (arith, long, ap length behind, length-drop n text, front.bound))

first_line : (p b : ℕ) (bytes : List ℕ) (newline blank : Bool) (line : Line) (behind : List Line) → lines_from (p + 1) bytes ≡ line ∷ behind
    → (l : Line) × (ls : List Line) × (cond newline (record { words = []; end = p } ∷ lines_from (p + 1) bytes) (cond blank (lines_from (p + 1) bytes) (onto_line p b (lines_from (p + 1) bytes))) ≡ l ∷ ls)
first_line p b bytes true blank line behind e = (record { words = []; end = p }, lines_from (p + 1) bytes, refl)
first_line p b bytes false true line behind e = (line, behind, e)
first_line p b bytes false false line behind e = (record { words = onto_words p b line.words; end = line.end }, behind, ap (onto_line p b) e)

-- there is always a first line
pub some_line_from : (p : ℕ) (text : List ℕ) → (l : Line) × (ls : List Line) × (lines_from p text ≡ l ∷ ls)
unfolding lines_from
some_line_from p [] = (record { words = []; end = p }, [], refl)
some_line_from p (b ∷ bytes) = let rest = some_line_from (p + 1) bytes in first_line p b bytes (eqb b 10) (is_blank b) rest.0 rest.1 rest.2
