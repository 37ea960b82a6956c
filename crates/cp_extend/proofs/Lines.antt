-- The lines of a model, a literal and a line at a time.
use Rattle.std.proofs.Common.{◌≡◌, ℕ, suc, ◌+◌, ◌-◌, ◌*◌, ◌<◌, ◌≤◌, Bool, false, List, [], ◌++◌, length, take, drop, get_or, sym, ◌∙◌, ap, arith}
use Rattle.std.proofs.lemmas.List.{drop_more, drop-drop}
use Rattle.cp_logic.specs.Assignments.{value_of}
use Rattle.cp_logic.proofs.Values.{value_of-place}
use Rattle.cp_extend.specs.ModelText.{value_text, values_text, line_text, lines_text}

-- the literals of a line that ends at the last variable, behind those of the first i variables
abbrev pub line_left : List Bool → ℕ → ℕ → List ℕ
line_left values last i = values_text (i + 1) (take (last - i) (drop i values))

pub line_left-next : (values : List Bool) (last i : ℕ) → i < last → last ≤ length values
    → line_left values last i ≡ value_text (i + 1) (value_of values (i + 1)) ++ line_left values last (i + 1)
line_left-next values last i low high =
    let more : last - i ≡ suc (last - (i + 1)) = omega arith in
    let within : i < length values = omega arith in
    let place : (i + 1) - 1 ≡ i = omega arith in
    let value : value_of values (i + 1) ≡ get_or values i false = value_of-place values (i + 1) (omega arith) ∙ ap (λ k. get_or values k false) place in
    ap (λ n. values_text (i + 1) (take n (drop i values))) more
    ∙ ap (λ vs. values_text (i + 1) (take (suc (last - (i + 1))) vs)) (drop_more values i false within)
    ∙ ap (λ b. value_text (i + 1) b ++ line_left values last (i + 1)) (sym value)

pub line_left-none : (values : List Bool) (last i : ℕ) → last ≤ i → line_left values last i ≡ []
line_left-none values last i h =
    let none : last - i ≡ 0 = omega arith in
    ap (λ n. values_text (i + 1) (take n (drop i values))) none

-- so many lines, behind the first k of them
abbrev pub lines_left : List Bool → ℕ → ℕ → List ℕ
lines_left values lines k = lines_text (lines - k) (10 * k + 1) (drop (10 * k) values)

pub lines_left-next : (values : List Bool) (lines k : ℕ) → k < lines
    → lines_left values lines k ≡ line_text (10 * k + 1) (take 10 (drop (10 * k) values)) ++ lines_left values lines (k + 1)
lines_left-next values lines k low =
    let more : lines - k ≡ suc (lines - (k + 1)) = omega arith in
    let first : 10 * k + 1 + 10 ≡ 10 * (k + 1) + 1 = omega arith in
    let place : 10 * k + 10 ≡ 10 * (k + 1) = omega arith in
    let this = line_text (10 * k + 1) (take 10 (drop (10 * k) values)) in
    ap (λ n. lines_text n (10 * k + 1) (drop (10 * k) values)) more
    ∙ ap (λ x. this ++ lines_text (lines - (k + 1)) x (drop 10 (drop (10 * k) values))) first
    ∙ ap (λ vs. this ++ lines_text (lines - (k + 1)) (10 * (k + 1) + 1) vs) (drop-drop 10 (10 * k) values ∙ ap (λ n. drop n values) place)

pub lines_left-none : (values : List Bool) (lines k : ℕ) → lines ≤ k → lines_left values lines k ≡ []
lines_left-none values lines k h =
    let none : lines - k ≡ 0 = omega arith in
    ap (λ n. lines_text n (10 * k + 1) (drop (10 * k) values)) none
