use Rattle.std.proofs.Common.{◌≡◌}
use Rattle.cp_worker.proofs.tests.yard_of.Given as goal

abbrev pub invariant-loop-literals : goal.invariant-loop-literals
invariant-loop-literals l = record { variables : l.formula.formula.variables ≡ 3 }
