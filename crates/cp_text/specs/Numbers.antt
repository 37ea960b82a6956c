-- Number words: an optional `-` and one or more decimal digits, of any length. Leading zeros are allowed; `-` before the value 0,
-- and `+`, are not.
use Rattle.std.specs.Prelude.{ℕ, ◌+◌, ◌*◌, ◌-◌, ◌^◌, List, [], ◌∷◌, Bool, true, false, ◌==◌, nat_lt, if◌then◌else◌, Option, Some, None}
use Rattle.std.specs.Option.{option_map, option_and_then}
use Rattle.std.specs.Char.{is_ascii_digit}
use Rattle.cp_text.specs.declared.numbers.Number.{Number}

-- what a number word says: a sign and a size, which has no bound
pub record NumberWord : Type 0 where
  pub positive : Bool
  pub size : ℕ

-- the value of decimal digits behind those of n
abbrev pub digits_from : ℕ → List ℕ → Option ℕ
digits_from n [] = Some n
digits_from n (b ∷ bytes) = if is_ascii_digit b then digits_from (10 * n + (b - 48)) bytes else None

-- one or more digits
abbrev pub digits_value : List ℕ → Option ℕ
digits_value [] = None
digits_value (b ∷ bytes) = digits_from 0 (b ∷ bytes)

abbrev pub plus : ℕ → NumberWord
plus n = record { positive = true; size = n }

-- there is no -0
abbrev pub minus : ℕ → Option NumberWord
minus n = if n == 0 then None else Some (record { positive = false; size = n })

-- the number that a word says
abbrev pub number_of : List ℕ → Option NumberWord
number_of [] = None
number_of (b ∷ bytes) = if b == 45 then option_and_then minus (digits_value bytes) else option_map plus (digits_value (b ∷ bytes))

-- a size as a reader keeps it: below 2^64, or not at all
abbrev pub kept_size : ℕ → Option ℕ
kept_size n = if nat_lt n (2 ^ 64) then Some n else None

-- a number as a reader keeps it
abbrev pub kept : NumberWord → Number
kept n = record { positive = n.positive; size = kept_size n.size }
