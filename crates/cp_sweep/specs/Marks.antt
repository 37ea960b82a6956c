-- Marks at numbers. They are seen as a list that says of each number from 0 on whether it is marked, and none is past the list's end;
-- and they are kept as the bits of words.
use Rattle.std.specs.Prelude.{◌≡◌, ◌<◌, ◌≤◌, ◌⊎◌, ℕ, ◌*◌, ◌/◌, ◌%◌, ◌^◌, ◌==◌, Bool, true, false, not, Option, Some, None, List, [], ◌∷◌, map, length, slice_index, slice_index_or, slice_set}
use Rattle.std.specs.Int.{bit_at}
use Rattle.std.specs.List.{Contains, range_with_len, count_by}

abbrev pub is_marked : List Bool → ℕ → Bool
is_marked marks i = slice_index_or marks i false

-- how many numbers are marked
abbrev pub marked : List Bool → ℕ
marked marks = count_by (λ b. b) marks

-- with marks at these numbers besides
abbrev pub with_marks : List Bool → List ℕ → List Bool
with_marks marks [] = marks
with_marks marks (i ∷ is) = with_marks (slice_set marks i true) is

abbrev pub AreBelow : ℕ → List ℕ → Type 0
AreBelow end is = (i : ℕ) → Contains is i → i < end

-- the first number from i on that passes, if one does
abbrev pub IsFirst : (ℕ → Bool) → ℕ → Option ℕ → Type 0
IsFirst p i None = (k : ℕ) → i ≤ k → p k ≡ false
IsFirst p i (Some n) = (i ≤ n) × (p n ≡ true) × ((k : ℕ) → i ≤ k → k < n → p k ≡ false)

-- the same for the numbers below an end
abbrev pub IsFirstBelow : ℕ → (ℕ → Bool) → ℕ → Option ℕ → Type 0
IsFirstBelow end p i None = (k : ℕ) → i ≤ k → k < end → p k ≡ false
IsFirstBelow end p i (Some n) = (i ≤ n) × (n < end) × (p n ≡ true) × ((k : ℕ) → i ≤ k → k < n → p k ≡ false)

-- the first number that passes from i on, and then from 0 on, if one does
abbrev pub IsFirstAround : (ℕ → Bool) → ℕ → Option ℕ → Type 0
IsFirstAround p i None = (k : ℕ) → p k ≡ false
IsFirstAround p i (Some n) = IsFirst p i (Some n) ⊎ (IsFirst p i None × IsFirst p 0 (Some n))

-- whether the bit of the word is 1; and of words of 64 bits each, bit i % 64 of the word at i / 64
abbrev pub has_bit : ℕ → ℕ → Bool
has_bit word k = bit_at word k == 1

abbrev pub is_set : List ℕ → ℕ → Bool
is_set words i = has_bit (slice_index words (i / 64)) (i % 64)

-- the marks that the words stand for
abbrev pub marks_of : List ℕ → List Bool
marks_of words = map (is_set words) (range_with_len 0 (64 * length words))

-- the bits of the second words say which of the first are not 0, and there are not too many words to number their bits
pub record AreFilled (words filled : List ℕ) : Type 0 where
  pub few : length words < 2 ^ 32
  pub short : length filled < 2 ^ 32
  pub room : length words ≤ 64 * length filled
  pub same : (k : ℕ) → is_set filled k ≡ not (slice_index words k == 0)
