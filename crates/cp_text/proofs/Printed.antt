-- Printed numbers, words and lines, as a reader finds them.
use Rattle.std.proofs.Common.{◌≡◌, ℕ, zero, suc, ◌+◌, ◌-◌, ◌*◌, ◌^◌, ◌<◌, Bool, true, false, eqb, cond, List, [], ◌∷◌, ◌++◌, length, length-append, append_assoc, drop, get_or, Option, Some, refl, ◌∙◌, ap, arith, rules}
use Rattle.std.specs.Prelude.{decimal}
use Rattle.std.specs.Option.{option_and_then}
use Rattle.std.specs.Char.{is_ascii_digit}
use Rattle.std.specs.List.{list_any}
use Rattle.std.specs.Str.{all_ascii_digits}
use Rattle.std.proofs.lemmas.Bool.{and_parts, or_parts}
use Rattle.std.proofs.lemmas.Bool.Decides.{nat_tests}
use Rattle.std.proofs.lemmas.Str.Parse.{IsNumeralModel, numerals_by_fold}
use Rattle.std.proofs.lemmas.Fmt.{digits_decimal, digits_value-decimal, decimal_nonempty}
use Rattle.std.proofs.Math.Seq.{take-append_seam, drop-append_seam, get_or-append_seam}
use Rattle.std.proofs.Math.ListN.{get_or-append}
use Rattle.cp_text.specs.Numbers.{digits_from, digits_value, plus, minus, number_of}
use Rattle.cp_text.specs.Text.{Word, Line, separates, lines_from}
use Rattle.cp_text.specs.Items.{with_word, IsWordFront}
use Rattle.cp_text.proofs.WordFronts.{word_front}

abbrev read_on : ℕ → List ℕ → ℕ
read_on n [] = n
read_on n (c ∷ cs) = read_on (10 * n + (c - 48)) cs

own : IsNumeralModel (λ ds. all_ascii_digits ds ≡ true) (read_on 0)
own = numerals_by_fold _ (search rules) read_on (search rules)

digits-read : (n : ℕ) (ds : List ℕ) → all_ascii_digits ds ≡ true → digits_from n ds ≡ Some (read_on n ds)
digits-read n [] h = refl
digits-read n (c ∷ cs) h = let parts = and_parts (is_ascii_digit c) (all_ascii_digits cs) h in rw parts.0 (digits-read (10 * n + (c - 48)) cs parts.1)

digits-value : (ds : List ℕ) → all_ascii_digits ds ≡ true → 0 < length ds → digits_value ds ≡ Some (read_on 0 ds)
digits-value [] h some = absurd (omega arith)
digits-value (c ∷ cs) h some = digits-read 0 (c ∷ cs) h

pub decimal-all_digits : (n : ℕ) → n < 2 ^ 64 → all_ascii_digits (decimal n) ≡ true
decimal-all_digits n small = digits_decimal own n small

-- a number that is printed in decimal digits
pub decimal-digits : (n : ℕ) → n < 2 ^ 64 → digits_value (decimal n) ≡ Some n
decimal-digits n small = digits-value (decimal n) (digits_decimal own n small) (decimal_nonempty n small) ∙ ap (λ k. let some : Option ℕ = Some k in some) (digits_value-decimal own n small)

negative-decimal : (n : ℕ) → 0 < n → option_and_then minus (Some n) ≡ Some (record { positive = false; size = n })
negative-decimal n some = let t : eqb n 0 ≡ false = grind (arith, nat_tests) in rw t refl

-- a text of digits is a number
of_digits : (n : ℕ) (ds : List ℕ) → all_ascii_digits ds ≡ true → digits_value ds ≡ Some n → number_of ds ≡ Some (plus n)
of_digits n [] h v = absurd cc
of_digits n (c ∷ cs) h v =
    let parts = and_parts (is_ascii_digit c) (all_ascii_digits cs) h in
    let first : is_ascii_digit c ≡ true = parts.0 in
    let t : eqb c 45 ≡ false = grind (arith, nat_tests) in
    rw (t, v) refl

pub number_of-decimal : (n : ℕ) → n < 2 ^ 64 → number_of (decimal n) ≡ Some (plus n)
number_of-decimal n small = of_digits n (decimal n) (digits_decimal own n small) (decimal-digits n small)

-- the same behind a `-`
pub number_of-negative : (n : ℕ) → 0 < n → n < 2 ^ 64 → number_of (45 ∷ decimal n) ≡ Some (record { positive = false; size = n })
number_of-negative n some small = ap (option_and_then minus) (decimal-digits n small) ∙ negative-decimal n some

-- a word: some bytes, of which none separates
pub record IsWord (w : List ℕ) : Type 0 where
  pub some : 0 < length w
  pub solid : list_any separates w ≡ false

solid_digit : (c : ℕ) → is_ascii_digit c ≡ true → separates c ≡ false
solid_digit c h = grind (arith, nat_tests)

solid_digits : (ds : List ℕ) → all_ascii_digits ds ≡ true → list_any separates ds ≡ false
solid_digits [] h = refl
solid_digits (c ∷ cs) h = let parts = and_parts (is_ascii_digit c) (all_ascii_digits cs) h in rw (solid_digit c parts.0) (solid_digits cs parts.1)

pub decimal-is_word : (n : ℕ) → n < 2 ^ 64 → IsWord (decimal n)
decimal-is_word n small = record { some = decimal_nonempty n small; solid = solid_digits (decimal n) (digits_decimal own n small) }

pub negative-is_word : (n : ℕ) → n < 2 ^ 64 → IsWord (45 ∷ decimal n)
negative-is_word n small = record { some = omega arith; solid = solid_digits (decimal n) (digits_decimal own n small) }

-- ---- lines of words, each followed by a space or by the line feed

-- what follows a word of a line
abbrev pub after : List (List ℕ) → List ℕ
after [] = 10 ∷ []
after (w ∷ ws) = 32 ∷ (w ++ after ws)

-- the words of a line with single spaces between them, and a line feed
abbrev pub line_text : List (List ℕ) → List ℕ
line_text [] = 10 ∷ []
line_text (w ∷ ws) = w ++ after ws

abbrev pub lines_text : List (List (List ℕ)) → List ℕ
lines_text [] = []
lines_text (line ∷ lines) = line_text line ++ lines_text lines

-- the words of a line behind a word that ended at a place
abbrev pub placed_after : ℕ → List (List ℕ) → List Word
placed_after p [] = []
placed_after p (w ∷ ws) = record { at = p + 1; bytes = w } ∷ placed_after (p + 1 + length w) ws

-- where the line ends
abbrev pub after_end : ℕ → List (List ℕ) → ℕ
after_end p [] = p
after_end p (w ∷ ws) = after_end (p + 1 + length w) ws

-- the same for a line that begins at a place
abbrev pub placed : ℕ → List (List ℕ) → List Word
placed p [] = []
placed p (w ∷ ws) = record { at = p; bytes = w } ∷ placed_after (p + length w) ws

abbrev pub line_end : ℕ → List (List ℕ) → ℕ
line_end p [] = p
line_end p (w ∷ ws) = after_end (p + length w) ws

-- lines of words with their places, and the empty line behind them
abbrev pub laid : ℕ → List (List (List ℕ)) → List Line
laid p [] = record { words = []; end = p } ∷ []
laid p (line ∷ lines) = record { words = placed p line; end = line_end p line } ∷ laid (line_end p line + 1) lines

abbrev pub AreWords : List (List ℕ) → Type 0
AreWords [] = Unit {0}
AreWords (w ∷ ws) = IsWord w × AreWords ws

abbrev pub AreLines : List (List (List ℕ)) → Type 0
AreLines [] = Unit {0}
AreLines (line ∷ lines) = AreWords line × AreLines lines

solid_at : (w : List ℕ) (k : ℕ) → list_any separates w ≡ false → k < length w → separates (get_or w k 0) ≡ false
solid_at [] k h low = absurd (omega arith)
solid_at (b ∷ w) zero h low = (or_parts (separates b) (list_any separates w) h).0
solid_at (b ∷ w) (suc k) h low = solid_at w k (or_parts (separates b) (list_any separates w) h).1 (omega arith)

-- a word in front of a text that begins with a separator
word_then : (p : ℕ) (w : List ℕ) (b : ℕ) (rest : List ℕ) → IsWord w → separates b ≡ true → lines_from p (w ++ b ∷ rest) ≡ with_word (record { at = p; bytes = w }) (lines_from (p + length w) (b ∷ rest))
word_then p w b rest is sep =
    word_front p (w ++ b ∷ rest) (length w) is.some front
    ∙ ap (λ (t : List ℕ). with_word (record { at = p; bytes = t }) (lines_from (p + length w) (drop (length w) (w ++ b ∷ rest)))) (take-append_seam w (b ∷ rest))
    ∙ ap (λ (t : List ℕ). with_word (record { at = p; bytes = w }) (lines_from (p + length w) t)) (drop-append_seam w (b ∷ rest))
  where
    front : IsWordFront (w ++ b ∷ rest) (length w)
    front = record {
      bound = omega (arith, length-append w (b ∷ rest));
      before = λ k low. ap separates (get_or-append w (b ∷ rest) 0 k low) ∙ solid_at w k is.solid low;
      stops = λ more. ap separates (get_or-append_seam w b rest 0) ∙ sep;
    }

word-after : (p : ℕ) (w : List ℕ) (ws : List (List ℕ)) (rest : List ℕ) → IsWord w → lines_from p (w ++ (after ws ++ rest)) ≡ with_word (record { at = p; bytes = w }) (lines_from (p + length w) (after ws ++ rest))
word-after p w [] rest is = word_then p w 10 rest is refl
word-after p w (v ∷ ws) rest is = word_then p w 32 ((v ++ after ws) ++ rest) is refl

line-after : (p : ℕ) (ws : List (List ℕ)) (rest : List ℕ) → AreWords ws → lines_from p (after ws ++ rest) ≡ record { words = placed_after p ws; end = after_end p ws } ∷ lines_from (after_end p ws + 1) rest
unfolding lines_from
line-after p [] rest are = refl
line-after p (w ∷ ws) rest are =
    ap (lines_from (p + 1)) (append_assoc w (after ws) rest) ∙ word-after (p + 1) w ws rest are.0
    ∙ ap (with_word (record { at = p + 1; bytes = w })) (line-after (p + 1 + length w) ws rest are.1)

-- a line in front of a text
pub line-front : (p : ℕ) (line : List (List ℕ)) (rest : List ℕ) → AreWords line → lines_from p (line_text line ++ rest) ≡ record { words = placed p line; end = line_end p line } ∷ lines_from (line_end p line + 1) rest
unfolding lines_from
line-front p [] rest are = refl
line-front p (w ∷ ws) rest are =
    ap (lines_from p) (append_assoc w (after ws) rest) ∙ word-after p w ws rest are.0
    ∙ ap (with_word (record { at = p; bytes = w })) (line-after (p + length w) ws rest are.1)

-- the lines of a printed text
pub lines_from-printed : (p : ℕ) (lines : List (List (List ℕ))) → AreLines lines → lines_from p (lines_text lines) ≡ laid p lines
unfolding lines_from
lines_from-printed p [] are = refl
lines_from-printed p (line ∷ lines) are =
    line-front p line (lines_text lines) are.0
    ∙ ap (λ (ls : List Line). record { words = placed p line; end = line_end p line } ∷ ls) (lines_from-printed (line_end p line + 1) lines are.1)

-- ---- literals

-- a variable, behind a `-` where it is false
abbrev pub literal_word : Bool → ℕ → List ℕ
literal_word positive x = cond positive (decimal x) (45 ∷ decimal x)

pub number_of-literal_word : (positive : Bool) (x : ℕ) → 0 < x → x < 2 ^ 64 → number_of (literal_word positive x) ≡ Some (record { positive = positive; size = x })
number_of-literal_word true x some small = number_of-decimal x small
number_of-literal_word false x some small = number_of-negative x some small

pub literal-is_word : (positive : Bool) (x : ℕ) → x < 2 ^ 64 → IsWord (literal_word positive x)
literal-is_word true x small = decimal-is_word x small
literal-is_word false x small = negative-is_word x small

-- what follows a word where the line goes on
pub after-space : (ws : List (List ℕ)) → (w : List ℕ) → after (ws ++ w ∷ []) ≡ 32 ∷ line_text (ws ++ w ∷ [])
after-space [] w = refl
after-space (v ∷ ws) w = refl

pub AreWords-append : (ws vs : List (List ℕ)) → AreWords ws → AreWords vs → AreWords (ws ++ vs)
AreWords-append [] vs h k = k
AreWords-append (w ∷ ws) vs h k = (h.0, AreWords-append ws vs h.1 k)
