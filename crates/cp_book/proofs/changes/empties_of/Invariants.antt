use Rattle.std.proofs.Common.{◌≡◌, ◌++◌}
use Rattle.cp_book.specs.Empties.{empty_numbers}
use Rattle.cp_book.proofs.changes.empties_of.Given as goal

-- those so far and those of the clauses that are left
abbrev pub invariant-loop-number : goal.invariant-loop-number
invariant-loop-number l = l.numbers.items ++ empty_numbers l.number-iterator ≡ empty_numbers l.formula.formula.clauses
