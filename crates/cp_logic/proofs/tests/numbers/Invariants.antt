use Rattle.std.proofs.Common.{◌≡◌, ◌++◌}
use Rattle.cp_logic.specs.Formulas.{numbers_of}
use Rattle.cp_logic.proofs.tests.numbers.Given as goal

-- the numbers so far, and those of the clauses that are left, are all
abbrev pub invariant-loop-number : goal.invariant-loop-number
invariant-loop-number l = l.seen.items ++ numbers_of l.number-iterator ≡ numbers_of l.formula.formula.clauses
