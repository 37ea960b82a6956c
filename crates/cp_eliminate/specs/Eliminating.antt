-- The elimination of a variable, where the bound allows it.
use Rattle.std.specs.Prelude.{ℕ, ◌+◌, ◌==◌, nat_le, Bool, not, ◌&&◌, Option, Some, None, List, length, if◌then◌else◌}
use Rattle.cp_logic.specs.declared.named.Named.{Named}
use Rattle.cp_logic.specs.Entries.{Entry}
use Rattle.cp_logic.specs.Legality.{fits, resolvents, elimination}

-- the elimination of the variable from all its clauses, with new clauses numbered from next on, where it fits under the bound
abbrev pub elimination_within : List Named → ℕ → ℕ → ℕ → Option Entry
elimination_within cs bound next x = if fits cs bound (elimination cs next x) then Some (elimination cs next x) else None

-- whether there is a clause with the variable or its negation, and the resolvents are at most as many as those clauses and the bound
abbrev pub is_within : ℕ → ℕ → List Named → List Named → Bool
is_within x bound pos neg = not (length pos + length neg == 0) && nat_le (length (resolvents x pos neg)) (length pos + length neg + bound)
