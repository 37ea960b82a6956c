-- The clauses of a cell by the sign of its variable.
use Rattle.std.specs.Prelude.{◌≡◌, List}
use Rattle.cp_logic.specs.declared.named.Named.{Named}
use Rattle.cp_logic.specs.Literals.{positive, negative}
use Rattle.cp_logic.specs.Legality.{clauses_with}
use Rattle.cp_occ.specs.Cells.{CellView}

-- those with the variable, and those with its negation, each in the order of the cell
pub record AreSides (cell : CellView) (pos neg : List Named) : Type 0 where
  pub positive : pos ≡ clauses_with cell.clauses (positive cell.variable)
  pub negative : neg ≡ clauses_with cell.clauses (negative cell.variable)
