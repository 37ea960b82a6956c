use Rattle.std.proofs.Common.{◌≡◌, ◌++◌, map, take, All}
use Rattle.std.specs.List.{Contains}
use Rattle.cp_logic.specs.Literals.{variable_of}
use Rattle.cp_logic.specs.Formulas.{set_of}
use Rattle.cp_hood.specs.Rows.{IsVariable}
use Rattle.cp_hood.proofs.neighbourhood.push_others.Given as goal

abbrev pub invariant-loop-lit : goal.invariant-loop-lit
invariant-loop-lit l = record {
  variables : set_of l.vars.items ≡ set_of (l.fn.vars.items ++ map variable_of (take l.lit-index l.lit-items));
  centre : Contains l.vars.items l.centre;
  range : All IsVariable l.fn.vars.items → All IsVariable l.vars.items;
}
