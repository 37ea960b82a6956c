-- The formula of clauses as they are written.
use Rattle.std.specs.Prelude.{ℕ, ◌+◌, max, List, [], ◌∷◌, ◌++◌, length, map}
use Rattle.cp_logic.specs.Literals.{variable_of}
use Rattle.cp_logic.specs.Clauses.{clause_of}
use Rattle.cp_logic.specs.Entries.{numbered_from}
use Rattle.cp_logic.specs.Formulas.{Formula}

abbrev pub greatest_of : List ℕ → ℕ
greatest_of [] = 0
greatest_of (l ∷ literals) = max (variable_of l) (greatest_of literals)

-- the greatest variable of clauses
abbrev pub greatest_in : List (List ℕ) → ℕ
greatest_in [] = 0
greatest_in (literals ∷ clauses) = max (greatest_of literals) (greatest_in clauses)

-- the formula of a number of variables and of clauses, each the list of its literals, numbered in the order of the text
abbrev pub formula_of : ℕ → List (List ℕ) → Formula
formula_of variables clauses = record { variables = max variables (greatest_in clauses); next = length clauses + 1; clauses = numbered_from 1 (map clause_of clauses) }

-- the formula with the clause of these literals under its next number, and with as many variables as it needs
abbrev pub with_clause : Formula → List ℕ → Formula
with_clause f literals = record { variables = max f.variables (greatest_of literals); next = f.next + 1; clauses = f.clauses ++ record { number = f.next; clause = clause_of literals } ∷ [] }

-- the formula with these clauses, one after the other
abbrev pub with_clauses : Formula → List (List ℕ) → Formula
with_clauses f [] = f
with_clauses f (literals ∷ clauses) = with_clauses (with_clause f literals) clauses
