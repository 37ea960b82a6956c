-- A printed model is read as itself.
use Rattle.std.proofs.Common.{◌≡◌, ℕ, zero, suc, ◌+◌, ◌*◌, ◌/◌, ◌^◌, ◌<◌, ◌≤◌, Bool, true, false, eqb, ltb, List, [], ◌∷◌, ◌++◌, length, take, drop, get_or, map, Option, Some, None, Result, Ok, refl, sym, ◌∙◌, ap, arith, ltb, inl, inr}
use Rattle.std.specs.List.{range_with_len}
use Rattle.std.proofs.lemmas.Bool.Decides.{nat_tests}
use Rattle.std.proofs.lemmas.Bool.{cases_lt}
use Rattle.std.proofs.lemmas.List.{length-drop, length-take-le, take_all, drop_all, take-append-drop, length-take}
use Rattle.cp_io.specs.declared.limits.Limits.{Limits}
use Rattle.cp_extend.specs.ModelText.{model_text}
use Rattle.cp_text.specs.Cut.{lines_within}
use Rattle.cp_text.specs.Text.{lines_from}
use Rattle.cp_extend.specs.Grammar as model
use Rattle.cp_extend.specs.Grammar.{Given, Reading, nothing_given, with_literal, is_value, values_of, document, model_reads}
use Rattle.cp_extend.specs.Laws.{ReadsPrinted}
use Rattle.cp_extend.specs.declared.refusal.ModelRefusal.{ModelRefusal}
use Rattle.cp_extend.specs.declared.refusal.Stop.{Stop}
use Rattle.cp_text.proofs.Cuts.{sees-all}
use Rattle.cp_text.proofs.Printed.{AreWords, AreLines, literal_word, literal-is_word, number_of-literal_word, laid, placed_after, lines_from-printed}
use Rattle.cp_extend.proofs.PrintedLines.{value_words, value_lines, model_lines, model-lines}

-- ---- the words of the lines

words-are : (x : ℕ) (values : List Bool) → x + length values ≤ 2 ^ 64 → AreWords (value_words x values)
words-are x [] low = tt
words-are x (v ∷ values) low = (literal-is_word v x (omega arith), words-are (x + 1) values (omega arith))

few-are : (x : ℕ) (values : List Bool) → x + 10 ≤ 2 ^ 64 → AreWords (value_words x (take 10 values))
few-are x values low = words-are x (take 10 values) (omega (arith, length-take-few 10 values))
  where
    length-take-few : (n : ℕ) (xs : List Bool) → length (take n xs) ≤ n
    length-take-few zero xs = omega arith
    length-take-few (suc n) [] = omega arith
    length-take-few (suc n) (y ∷ xs) = omega (arith, length-take-few n xs)

lines-are : (n x : ℕ) (values : List Bool) → x + 10 * n ≤ 2 ^ 64 → AreLines (value_lines n x values)
lines-are zero x values low = ((record { some = omega arith; solid = refl }, (record { some = omega arith; solid = refl }, tt)), tt)
lines-are (suc n) x values low = ((record { some = omega arith; solid = refl }, few-are x values (omega arith)), lines-are n (x + 10) (drop 10 values) (omega arith))

-- ---- the values that are given

-- the values of the variables from x on are given
abbrev given_by : Given → ℕ → List Bool → Given
given_by given x [] = given
given_by given x (v ∷ values) = given_by (with_literal given (record { positive = v; size = x })) (x + 1) values

-- no variable from x on has a value
abbrev IsFree : Given → ℕ → Type 0
IsFree given x = (y : ℕ) → x ≤ y → given y ≡ None

free-step : (given : Given) (x : ℕ) (v : Bool) → IsFree given x → IsFree (with_literal given (record { positive = v; size = x })) (x + 1)
free-step given x v free y low = let t : eqb y x ≡ false = grind (arith, nat_tests) in rw t (free y (omega arith))

free-by : (given : Given) (x : ℕ) (values : List Bool) → IsFree given x → IsFree (given_by given x values) (x + length values)
free-by given x [] free y low = free y (omega arith)
free-by given x (v ∷ values) free y low = free-by (with_literal given (record { positive = v; size = x })) (x + 1) values (free-step given x v free) y (omega arith)

given-below : (given : Given) (x : ℕ) (values : List Bool) (y : ℕ) → y < x → given_by given x values y ≡ given y
given-below given x [] y low = refl
given-below given x (v ∷ values) y low =
    let t : eqb y x ≡ false = grind (arith, nat_tests) in
    given-below (with_literal given (record { positive = v; size = x })) (x + 1) values y (omega arith) ∙ rw t refl

given-at : (given : Given) (x : ℕ) (values : List Bool) (k : ℕ) → k < length values → given_by given x values (x + k) ≡ Some (get_or values k false)
given-at given x [] k low = absurd (omega arith)
given-at given x (v ∷ values) zero low =
    let t : eqb (x + 0) x ≡ true = grind (arith, nat_tests) in
    given-below (with_literal given (record { positive = v; size = x })) (x + 1) values (x + 0) (omega arith) ∙ rw t refl
given-at given x (v ∷ values) (suc k) low =
    let place : x + suc k ≡ (x + 1) + k = omega arith in
    ap (given_by (with_literal given (record { positive = v; size = x })) (x + 1) values) place ∙ given-at (with_literal given (record { positive = v; size = x })) (x + 1) values k (omega arith)

is_given : (v : Bool) → is_value true (Some v) ≡ v
is_given true = refl
is_given false = refl

values-map : (given : Given) (a : ℕ) (values : List Bool) → ((k : ℕ) → k < length values → given (a + k + 1) ≡ Some (get_or values k false)) → map (λ k. is_value true (given (k + 1))) (range_with_len a (length values)) ≡ values
values-map given a [] at = refl
values-map given a (v ∷ values) at =
    let here : given (a + 1) ≡ Some v = ap given (the_same a) ∙ at 0 (omega arith) in
    ap (λ (o : Option Bool). is_value true o ∷ map (λ k. is_value true (given (k + 1))) (range_with_len (a + 1) (length values))) here
    ∙ ap (λ (b : Bool). b ∷ map (λ k. is_value true (given (k + 1))) (range_with_len (a + 1) (length values))) (is_given v)
    ∙ ap (λ (l : List Bool). v ∷ l) (values-map given (a + 1) values (λ k low. ap given (next a k) ∙ at (suc k) (omega arith)))
  where
    the_same : (a : ℕ) → a + 1 ≡ a + 0 + 1
    the_same a = omega arith

    next : (a k : ℕ) → a + 1 + k + 1 ≡ a + suc k + 1
    next a k = omega arith

values-given : (values : List Bool) → values_of (length values) (given_by nothing_given 1 values) ≡ values
values-given values = values-map (given_by nothing_given 1 values) 0 values (λ k low. ap (given_by nothing_given 1 values) (place k) ∙ given-at nothing_given 1 values k low)
  where
    place : (k : ℕ) → 0 + k + 1 ≡ 1 + k
    place k = omega arith

given-append : (given : Given) (x : ℕ) (first second : List Bool) → given_by (given_by given x first) (x + length first) second ≡ given_by given x (first ++ second)
given-append given x [] second = ap (λ y. given_by given y second) (omega arith)
given-append given x (v ∷ first) second =
    let place : x + length (v ∷ first) ≡ (x + 1) + length first = omega arith in
    ap (λ y. given_by (given_by (with_literal given (record { positive = v; size = x })) (x + 1) first) y second) place ∙ given-append (with_literal given (record { positive = v; size = x })) (x + 1) first second

given-tens : (given : Given) (x : ℕ) (values : List Bool) → given_by (given_by given x (take 10 values)) (x + 10) (drop 10 values) ≡ given_by given x values
given-tens given x values = elim (cases_lt (length values) 10) [
  | inl short ↦
      ap (λ (l : List Bool). given_by (given_by given x (take 10 values)) (x + 10) l) (drop_all 10 values (omega arith))
      ∙ ap (given_by given x) (take_all 10 values (omega arith))
  | inr long ↦
      ap (λ k. given_by (given_by given x (take 10 values)) (x + k) (drop 10 values)) (sym (length-take-le 10 values long))
      ∙ given-append given x (take 10 values) (drop 10 values) ∙ ap (given_by given x) (take-append-drop 10 values)
]

-- ---- the lines

abbrev so_far : Bool → Given → Reading
so_far status given = record { status = status; given = given }

words-read : (limits : Limits) (s : Bool) (given : Given) (p x : ℕ) (values : List Bool) → 0 < x → (0 < length values → x + length values ≤ limits.variables + 1) → limits.variables < 2 ^ 64 → IsFree given x
    → model.value_words limits (so_far s given) (placed_after p (value_words x values)) ≡ Ok (so_far s (given_by given x values), false)
words-read limits s given p x [] some low small free = refl
words-read limits s given p x (v ∷ values) some low small free =
    let zero_not : eqb x 0 ≡ false = grind (arith, nat_tests) in
    let most : x ≤ limits.variables = omega (arith, low (omega arith)) in
    let within : ltb limits.variables x ≡ false = grind (arith, nat_tests) in
    let here : given x ≡ None = free x (omega arith) in
    rw (number_of-literal_word v x some (omega arith), zero_not, within, here)
    (words-read limits s (with_literal given (record { positive = v; size = x })) (p + 1 + length (literal_word v x)) (x + 1) values (omega arith) (λ more. omega (arith, low (omega arith))) small (free-step given x v free))

lines-read : (limits : Limits) (s : Bool) (given : Given) (p end n x : ℕ) (values : List Bool) → 0 < x → (0 < length values → x + length values ≤ limits.variables + 1) → limits.variables < 2 ^ 64 → length values ≤ 10 * n → IsFree given x
    → document limits (so_far s given) end (laid p (value_lines n x values)) ≡ Ok (given_by given x values)
lines-read limits s given p end zero x [] some low small few free = refl
lines-read limits s given p end zero x (v ∷ values) some low small few free = absurd (omega arith)
lines-read limits s given p end (suc n) x values some low small few free =
    rw (words-read limits s given (p + 1) x (take 10 values) some (λ more. omega (arith, length-take 10 values)) small free)
    (lines-read limits s (given_by given x (take 10 values)) _ _ n (x + 10) (drop 10 values) (omega arith) (λ more. omega (arith, length-drop 10 values)) small (omega (arith, length-drop 10 values))
    (λ y above. free-by given x (take 10 values) free y (omega (arith, length-take 10 values)))
    ∙ ap (λ (g : Given). let o : Result Given Stop = Ok g in o) (given-tens given x values))

-- within the limits a printed model is read as itself
pub model-read : ReadsPrinted
unfolding model_reads
model-read limits values small few short =
    let lines : lines_within limits.bytes (model_text values) ≡ laid 0 (model_lines values) =
    sees-all limits.bytes (model_text values) short ∙ ap (lines_from 0) (model-lines values) ∙ lines_from-printed 0 (model_lines values) are in
    let test : ltb limits.bytes (length (model_text values)) ≡ false = grind (arith, nat_tests) in
    rw (lines, test)
    (rw (lines-read limits true nothing_given _ _ ((length values + 9) / 10) 1 values (omega arith) (λ more. omega arith) (omega arith) (omega arith) (λ y above. refl))
    (ap (λ (l : List Bool). let o : Result (List Bool) ModelRefusal = Ok l in o) (values-given values)))
  where
    are : AreLines (model_lines values)
    are = ((record { some = omega arith; solid = refl }, (record { some = omega arith; solid = refl }, tt)), lines-are ((length values + 9) / 10) 1 values (omega arith))
