-- The state of the code's sweep: its cursor, and that its cells are those of what its posts leave.
use Rattle.std.specs.Prelude.{◌≡◌, ℕ, ◌-◌, ◌<◌, ◌≤◌, Bool, true, false, Some, List, length, slice_get}
use Rattle.cp_logic.specs.declared.settings.Rules.{Rules}
use Rattle.cp_logic.specs.Journals.{number_limit}
use Rattle.cp_occ.specs.Cells.{CellView}
use Rattle.cp_occ.specs.Changes.{AreCellsOf}
use Rattle.cp_occ.specs.Silence.{GivesNothing}
use Rattle.cp_sweep.specs.Marks.{is_marked}
use Rattle.cp_sweep.specs.declared.turns.Sweeping.{Sweeping}
use Rattle.cp_sweep.specs.Cursor.{Cursor, left_at}

abbrev pub cursor_of : Sweeping → Cursor
cursor_of s = record { posts = s.book.posts; mark = s.mark; touched = s.touched }

-- the cells are right, numbers are to spare, and the mark is a variable
pub record IsReady (s : Sweeping) : Type 0 where
  pub cells : AreCellsOf (left_at s.book.first (cursor_of s)) s.cells.items
  pub numbers : (left_at s.book.first (cursor_of s)).next ≤ number_limit
  pub low : 1 ≤ s.mark
  pub high : s.mark ≤ s.book.first.variables
  pub room : s.book.first.variables < length s.touched

-- a search of the cell at the index gives nothing
abbrev pub IsSilentAt : List CellView → Rules → ℕ → Type 0
IsSilentAt cells rules i = (cell : CellView) × (slice_get cells i ≡ Some cell) × GivesNothing cell.variable cell.clauses rules

-- there is room for marks up to a last variable, those up to n alone are marked, and the cells of the others up to n are silent
pub record AreTouched (cells : List CellView) (rules : Rules) (last n : ℕ) (marks : List Bool) : Type 0 where
  pub room : last < length marks
  pub within : (x : ℕ) → is_marked marks x ≡ true → (1 ≤ x) × (x ≤ n)
  pub silent : (x : ℕ) → is_marked marks x ≡ false → 1 ≤ x → x ≤ n → IsSilentAt cells rules (x - 1)
