use Rattle.std.proofs.Common.{◌≡◌}
use Rattle.cp_logic.specs.Formulas.{has_empty}
use Rattle.cp_logic.proofs.formulas.Formula.has_empty_clause.Given as goal

abbrev pub invariant-loop-number : goal.invariant-loop-number
invariant-loop-number l = has_empty l._number-iterator ≡ has_empty l.self.formula.clauses
