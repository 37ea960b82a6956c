use Rattle.std.proofs.Common.{◌≡◌, ◌++◌, ◌∷◌, All}
use Rattle.std.specs.List.{Contains}
use Rattle.cp_logic.specs.Formulas.{set_of}
use Rattle.cp_hood.specs.Rows.{IsVariable}
use Rattle.cp_hood.proofs.Ranges.{each_variable}
use Rattle.cp_hood.proofs.neighbourhood.neighbourhood.Given as goal

abbrev pub invariant-loop-number : goal.invariant-loop-number
invariant-loop-number l = record {
  variables : set_of (l.vars.items ++ each_variable l._number-iterator) ≡ set_of (l.cell.variable ∷ each_variable l.cell.clauses);
  centre : Contains l.vars.items l.cell.variable;
  range : All IsVariable l.vars.items;
}
