-- Each clause of a cell has its variable.
use Rattle.std.proofs.Common.{◌≡◌, ℕ, true, List}
use Rattle.std.specs.List.{Contains}
use Rattle.std.proofs.lemmas.List.Elements.{All-contains}
use Rattle.cp_logic.specs.declared.named.Named.{Named}
use Rattle.cp_logic.specs.Clauses.{has_variable}
use Rattle.cp_occ.specs.Cells.{CellView, IsOf, IsCell}

-- each clause of the list has the variable
abbrev pub AllHave : ℕ → List Named → Type 0
AllHave x cs = (c : Named) → Contains cs c → has_variable x c.clause ≡ true

-- each clause of a cell has its variable
pub cell-have : (cell : CellView) → IsCell cell → AllHave cell.variable cell.clauses
cell-have cell v c i = (All-contains (IsOf cell.variable) cell.clauses c v.have i).has
