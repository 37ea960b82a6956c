use Rattle.std.proofs.Common.{◌≡◌, ◌+◌, ◌<◌}
use Rattle.std.specs.List.{All}
use Rattle.cp_logic.specs.declared.named.Named.{Named}
use Rattle.cp_find.proofs.tests.mixed_cell.Given as goal

-- the clauses so far have the numbers up to that of the last one
abbrev pub invariant-loop-i : goal.invariant-loop-i
invariant-loop-i l = (l.cell.variable ≡ 1) × All (λ (c : Named). c.number < l.i + 1) l.cell.clauses
