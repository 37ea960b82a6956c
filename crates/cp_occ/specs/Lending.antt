-- How a list of cells lends one of them.
use Rattle.std.specs.Prelude.{ℕ, Option, slice_set}
use Rattle.std.specs.Borrow.{LendsIf, MutBor, Fml}
use Rattle.cp_logic.specs.Lists.{Roomy}
use Rattle.cp_occ.specs.Cells.{CellView}
use Rattle.cp_occ.specs.contracts.cell.Cell as cell
use Rattle.cp_occ.specs.contracts.cells.Cells as cells

-- the cells with the last value behind r at position i, and as they were where r is None
abbrev pub LendsCell : MutBor (Roomy CellView) → ℕ → Option (MutBor CellView) → Fml
LendsCell s i r = LendsIf cells.the_row cell.the_row s r (λ w. record { items = slice_set s.now.items i w; spare = s.now.spare }) s.now
