use Rattle.std.proofs.Common.{◌≡◌, ℕ, length}
use Rattle.cp_text.specs.Numbers.{digits_value, digits_from, kept_size}
use Rattle.cp_text.proofs.numbers.read_digits.Given as goal

abbrev pub invariant-loop-rest : goal.invariant-loop-rest
invariant-loop-rest l = (n : ℕ) × (l.size ≡ kept_size n) × (digits_from n l.rest ≡ digits_value l.digits)

abbrev pub decreases-loop-rest : goal.decreases-loop-rest
decreases-loop-rest l = length l.rest
