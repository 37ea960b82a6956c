-- The formula that a seed gives.
use Rattle.std.specs.Prelude.{ℕ, zero, suc, ◌+◌, ◌*◌, ◌/◌, ◌%◌, ◌^◌, ◌==◌, List, [], ◌∷◌, if◌then◌else◌}
use Rattle.cp_logic.specs.Literals.{positive, negative}
use Rattle.cp_logic.specs.Clauses.{clause_of}
use Rattle.cp_logic.specs.Formulas.{Formula}
use Rattle.cp_logic.specs.Entries.{numbered_from}

-- one step of the linear congruence with the constants of the C standard's `rand`, modulo 2^31
unfoldable pub next_state : ℕ → ℕ
next_state x = (1103515245 * x + 12345) % (2 ^ 31)

-- the draw of a state leaves out the low eight bits
abbrev pub draw_of : ℕ → ℕ
draw_of x = x / 256

-- the lowest bit of the draw is the sign, even for a positive literal, and the others give the variable
unfoldable pub drawn_literal : ℕ → ℕ → ℕ
drawn_literal variables x =
    if draw_of x % 2 == 0 then positive (1 + (draw_of x / 2) % variables) else negative (1 + (draw_of x / 2) % variables)

-- the clause of the three draws from a state on
abbrev pub drawn_clause : ℕ → ℕ → List ℕ
drawn_clause variables x =
    clause_of (drawn_literal variables (next_state x) ∷ drawn_literal variables (next_state (next_state x)) ∷ drawn_literal variables (next_state (next_state (next_state x))) ∷ [])

-- so many clauses from a state on, of which each begins where the one before it ended
unfoldable pub drawn_clauses : ℕ → ℕ → ℕ → List (List ℕ)
drawn_clauses variables zero x = []
drawn_clauses variables (suc more) x = drawn_clause variables x ∷ drawn_clauses variables more (next_state (next_state (next_state x)))

-- the clauses of the seed, numbered from 1 on
abbrev pub generated : ℕ → ℕ → ℕ → Formula
generated seed variables clauses =
    record { variables = variables; next = clauses + 1; clauses = numbered_from 1 (drawn_clauses variables clauses seed) }
