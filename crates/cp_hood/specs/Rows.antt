-- A row of locks, each got by one try, up to the first that is held.
use Rattle.std.specs.Prelude.{◌≡◌, ℕ, ◌<◌, ◌≤◌, List, ◌∷◌, ◌++◌, length}
use Rattle.cp_logic.specs.Formulas.{neighbourhood}
use Rattle.cp_occ.specs.Cells.{CellView, variables_of}
use Rattle.cp_yard.specs.Views.{Met, SeatView, noted}
use Rattle.cp_hood.specs.declared.answers.HoodAnswer.{HoodAnswer}
use Rattle.cp_hood.specs.declared.answers.HoodAnswer.TheVariants.{Busy, Wide, NoMemory}
use Rattle.cp_hood.specs.Seats.{with_locks}

-- the locks of all these variables were got, and their cells follow those that there were
pub record IsRow (vars : List ℕ) (v w : SeatView) (before after : List CellView) : Type 0 where
  pub got : List CellView
  pub variables : variables_of got ≡ vars
  pub cells : after ≡ before ++ got
  pub seat : w ≡ with_locks got v

-- the locks of the variables before `var` were got, and their cells follow those that there were; `var` was met with seat `by`
pub record IsCutRow (vars : List ℕ) (v w : SeatView) (before after : List CellView) (var by : ℕ) : Type 0 where
  pub got : List CellView
  pub left : List ℕ
  pub variables : variables_of got ++ var ∷ left ≡ vars
  pub cells : after ≡ before ++ got
  pub seat : w ≡ noted (Met var by) (with_locks got v)

-- why not all of the locks were got: one was met
abbrev pub IsRowAnswer : List ℕ → SeatView → SeatView → List CellView → List CellView → HoodAnswer → Type 0
IsRowAnswer vars v w before after (Busy var by) = IsCutRow vars v w before after var by
IsRowAnswer vars v w before after (Wide count) = ⊥
IsRowAnswer vars v w before after NoMemory = ⊥

-- the number is one that a variable can have
abbrev pub IsVariable : ℕ → Type 0
IsVariable y = (1 ≤ y) × (y ≤ 2000000)

-- why the others are not tried: the neighbourhood of the cell's variable is above the limit, or memory is wanting
abbrev pub IsPlanAnswer : CellView → ℕ → HoodAnswer → Type 0
IsPlanAnswer cell limit (Busy var by) = ⊥
IsPlanAnswer cell limit (Wide count) = (count ≡ length (neighbourhood cell.clauses cell.variable)) × (limit < count)
IsPlanAnswer cell limit NoMemory = Unit {0}
