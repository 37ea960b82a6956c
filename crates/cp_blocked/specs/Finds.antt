-- The literal on which a clause of a variable may be blocked, and whether it is blocked on it.
use Rattle.std.specs.Prelude.{ℕ, Bool, List, if◌then◌else◌}
use Rattle.cp_logic.specs.declared.named.Named.{Named}
use Rattle.cp_logic.specs.Literals.{positive, negative}
use Rattle.cp_logic.specs.Clauses.{contains}
use Rattle.cp_logic.specs.Legality.{is_blocked}

-- the literal of the variable in a clause that has the variable in one sign
abbrev pub literal_at : ℕ → List ℕ → ℕ
literal_at x clause = if contains clause (positive x) then positive x else negative x

-- whether the clause is blocked on that literal
abbrev pub is_blocked_at : ℕ → List Named → Named → Bool
is_blocked_at x cs c = is_blocked cs c.clause (literal_at x c.clause)
