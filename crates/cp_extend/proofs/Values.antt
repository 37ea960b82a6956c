-- A model is filled with the values that were given, a variable at a time.
use Rattle.std.proofs.Common.{◌≡◌, ◌≢◌, ◌⊎◌, ℕ, ◌+◌, ◌-◌, ◌*◌, ◌%◌, ◌<◌, Bool, true, false, cond, List, length, set, get_or, inl, inr, sym, ◌∙◌, ap, arith}
use Rattle.std.proofs.lemmas.Bool.{cases_eq}
use Rattle.std.proofs.lemmas.Bool.Decides.{nat_tests}
use Rattle.std.proofs.lemmas.List.{get_or-set_same, get_or-set_other, length-set}
use Rattle.cp_logic.specs.Literals.{variable_of, is_positive}
use Rattle.cp_logic.specs.Assignments.{with_value, with_true}
use Rattle.cp_logic.proofs.Values.{with_value-place}

-- the code of the literal by which a variable has a value
abbrev pub literal_for : ℕ → Bool → ℕ
literal_for x value = cond value (2 * x) (2 * x + 1)

variable_of-literal : (x : ℕ) (value : Bool) → variable_of (literal_for x value) ≡ x
variable_of-literal x true = omega arith
variable_of-literal x false = omega arith

is_positive-literal : (x : ℕ) (value : Bool) → is_positive (literal_for x value) ≡ value
is_positive-literal x true = let e : (2 * x) % 2 ≡ 0 = omega arith in grind (arith, nat_tests)
is_positive-literal x false = let e : (2 * x + 1) % 2 ≡ 1 = omega arith in grind (arith, nat_tests)

-- the model with the value at the place of the variable i + 1
pub with_true-place : (values : List Bool) (i l : ℕ) (value : Bool) → l ≡ literal_for (i + 1) value → with_true values l ≡ set values i value
with_true-place values i l value is =
    let place : (i + 1) - 1 ≡ i = omega arith in
    ap (λ k. with_value values (variable_of k) (is_positive k)) is
    ∙ ap (λ x. with_value values x (is_positive (literal_for (i + 1) value))) (variable_of-literal (i + 1) value)
    ∙ ap (with_value values (i + 1)) (is_positive-literal (i + 1) value)
    ∙ with_value-place values (i + 1) value (omega arith)
    ∙ ap (λ k. set values k value) place

-- so many places, of which the first hold what f says
pub record IsFilled (f : ℕ → Bool) (values : List Bool) (n i : ℕ) : Type 0 where
  pub all : length values ≡ n
  pub read : (k : ℕ) → k < i → get_or values k false ≡ f k

pub IsFilled-more : (f : ℕ → Bool) (values new : List Bool) (n i : ℕ) → i < n → IsFilled f values n i → new ≡ set values i (f i) → IsFilled f new n (i + 1)
IsFilled-more f values new n i low h is = record {
  all = ap length is ∙ length-set values i (f i) ∙ h.all;
  read = λ k below. ap (λ (vs : List Bool). get_or vs k false) is ∙ by_place k below (cases_eq k i);
}
  where
    by_place : (k : ℕ) → k < i + 1 → (k ≡ i) ⊎ (k ≢ i) → get_or (set values i (f i)) k false ≡ f k
    by_place k below (inl same) = ap (λ j. get_or (set values i (f i)) j false) same ∙ get_or-set_same values i (f i) false (omega (arith, h.all)) ∙ ap f (sym same)
    by_place k below (inr other) = get_or-set_other values i k (f i) false other ∙ h.read k (omega arith)
