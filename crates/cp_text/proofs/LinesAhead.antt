-- The words and the line in front of lines.
use Rattle.std.proofs.Common.{◌≡◌, ◌≢◌, ℕ, ◌+◌, ◌<◌, Bool, true, false, List, [], ◌∷◌, ◌++◌, length, get_or, map, refl, sym, ap, append_assoc, arith}
use Rattle.std.proofs.lemmas.Bool.Decides.{nat_tests}
use Rattle.cp_text.specs.Text.{Word, Line, begins_with}
use Rattle.cp_text.specs.Items.{with_word}
use Rattle.cp_text.specs.Cut.{lines_seen, words_before}
use Rattle.cp_text.proofs.WordFronts.{some_line_from}

-- words in front of the first line
abbrev pub with_words : List Word → List Line → List Line
with_words ws [] = []
with_words ws (line ∷ lines) = record { words = ws ++ line.words; end = line.end } ∷ lines

pub with_words-none : (lines : List Line) → lines ≡ with_words [] lines
with_words-none [] = refl
with_words-none (line ∷ lines) = refl

pub with_words-word : (ws : List Word) (w : Word) (lines : List Line) → with_words ws (with_word w lines) ≡ with_words (ws ++ w ∷ []) lines
with_words-word ws w [] = refl
with_words-word ws w (line ∷ lines) = ap (λ (x : List Word). record { words = x; end = line.end } ∷ lines) (sym (append_assoc ws (w ∷ []) line.words))

-- there is a first line
abbrev pub HasLine : List Line → Type 0
HasLine lines = (line : Line) × (behind : List Line) × (lines ≡ line ∷ behind)

pub some_line_seen : (cut : Bool) (p : ℕ) (text : List ℕ) → HasLine (lines_seen cut p text)
some_line_seen false p text = some_line_from p text
some_line_seen true p text = let some = some_line_from p text in
    (words_before (p + length text) some.0, map (words_before (p + length text)) some.1, ap (map (words_before (p + length text))) some.2)

-- ---- the first byte of a word

pub begins : (b : ℕ) (bytes : List ℕ) → 0 < length bytes → get_or bytes 0 0 ≡ b → begins_with b bytes ≡ true
begins b [] some is = absurd (omega arith)
begins b (c ∷ bytes) some is = grind (arith, nat_tests)

pub begins_not : (b : ℕ) (bytes : List ℕ) → get_or bytes 0 0 ≢ b → begins_with b bytes ≡ false
begins_not b [] apart = refl
begins_not b (c ∷ bytes) apart = grind (arith, nat_tests)
