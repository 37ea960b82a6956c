use Rattle.std.proofs.Common.{◌≡◌, ◌≤◌, max, drop, take, true}
use Rattle.std.specs.Prelude.{nat_lt}
use Rattle.std.specs.List.{list_all}
use Rattle.cp_logic.specs.Literals.{variable_of}
use Rattle.cp_dimacs.specs.Written.{greatest_of}
use Rattle.cp_dimacs.proofs.clauses.greatest_variable.Given as goal

abbrev pub invariant-loop-lit : goal.invariant-loop-lit
invariant-loop-lit l = record {
  greatest : max l.greatest (greatest_of (drop l.lit-index l.lits)) ≡ max l.least (greatest_of l.lits);
  high : l.greatest ≤ 2000000;
  low : list_all (λ l. nat_lt 0 (variable_of l)) (take l.lit-index l.lits) ≡ true;
}
