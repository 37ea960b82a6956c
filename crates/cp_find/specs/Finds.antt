-- The first entries of one kind at a variable, and the tests on two clauses that find them.
use Rattle.std.specs.Prelude.{ℕ, ◌==◌, ◌&&◌, Bool, not, Option, Some, None, List, map, if◌then◌else◌}
use Rattle.cp_logic.specs.declared.named.Named.{Named}
use Rattle.cp_logic.specs.Literals.{negated, positive, negative}
use Rattle.cp_logic.specs.Clauses.{contains, is_subset}

-- whether the first clause subsumes the second, which is another one
abbrev pub subsumes : Named → Named → Bool
subsumes by gone = not (by.number == gone.number) && is_subset by.clause gone.clause

-- the literal that a clause can take from others at the variable: the negation of its own there, where it has one alone
abbrev pub struck : ℕ → List ℕ → Option ℕ
struck x clause =
    if contains clause (positive x) then (if contains clause (negative x) then None else Some (negative x))
    else (if contains clause (negative x) then Some (positive x) else None)

-- the literal, and l in place of the negation of l
abbrev pub turned : ℕ → ℕ → ℕ
turned l m = if m == negated l then l else m

-- whether the first clause, with l in place of the negation of l, is a subset of the second, which is another one
abbrev pub strengthens : ℕ → Named → Named → Bool
strengthens l by on = not (by.number == on.number) && is_subset (map (turned l) by.clause) on.clause
