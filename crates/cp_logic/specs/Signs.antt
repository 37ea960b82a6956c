-- Literals by their sign and their variable.
use Rattle.std.specs.Prelude.{ℕ, Bool, if◌then◌else◌}
use Rattle.cp_logic.specs.Literals.{positive, negative}

-- the literal of a variable, with a sign
abbrev pub signed : Bool → ℕ → ℕ
signed sign x = if sign then positive x else negative x
