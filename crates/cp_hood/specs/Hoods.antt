-- A hood: the cells of a variable, its centre, and of all variables that the centre's clauses had when the centre was locked.
use Rattle.std.specs.Prelude.{◌≡◌, ℕ, ◌≤◌, ◌==◌, Option, Some, None, List, [], ◌∷◌, if◌then◌else◌, IsTrue}
use Rattle.std.specs.List.{All}
use Rattle.cp_logic.specs.declared.named.Named.{Named}
use Rattle.cp_logic.specs.declared.settings.Rules.{Rules}
use Rattle.cp_logic.specs.Clauses.{contains, IsAscending}
use Rattle.cp_logic.specs.Formulas.{occurrences, variables_in}
use Rattle.cp_logic.specs.Entries.{Entry, is_at}
use Rattle.cp_logic.specs.Legality.{is_legal_in}
use Rattle.cp_occ.specs.Cells.{CellView, variables_of}
use Rattle.cp_yard.specs.Views.{SeatView, held_of}

pub record HoodView : Type 0 where
  pub centre : ℕ
  pub cells : List CellView

-- what the cells list of the variable, if one of them is its cell
abbrev pub listed_of : ℕ → List CellView → Option (List Named)
listed_of x [] = None
listed_of x (c ∷ cs) = if c.variable == x then Some c.clauses else listed_of x cs

-- what the cells list of the variable, and nothing where none of them is its cell
abbrev pub clauses_at_home : ℕ → List CellView → List Named
clauses_at_home x [] = []
clauses_at_home x (c ∷ cs) = if c.variable == x then c.clauses else clauses_at_home x cs

-- the clauses of the centre
abbrev pub centre_clauses : HoodView → List Named
centre_clauses h = clauses_at_home h.centre h.cells

-- each variable of the clauses of x is that of one of the cells
abbrev pub Covers : ℕ → List CellView → Type 0
Covers x cells = (y : ℕ) → IsTrue (contains (variables_in (clauses_at_home x cells)) y) → IsTrue (contains (variables_of cells) y)

-- each cell lists those of these clauses that have its variable
abbrev pub AreOccurrences : List Named → List CellView → Type 0
AreOccurrences cs cells = All (λ c. c.clauses ≡ occurrences cs c.variable) cells

-- the variables of the cells rise, the centre is one of them, and so is each variable of its clauses
pub record IsHood (h : HoodView) : Type 0 where
  pub centre : IsTrue (contains (variables_of h.cells) h.centre)
  pub ascending : IsAscending (variables_of h.cells)
  pub covers : Covers h.centre h.cells

-- the seat has no turn, and holds just the variables of these cells, which are variables of its yard, with what they list
pub record HoldsJust (v : SeatView) (cells : List CellView) : Type 0 where
  pub turn : v.turn ≡ None
  pub range : All (λ c. c.variable ≤ v.base.formula.variables) cells
  pub held : (x : ℕ) → held_of x v.held ≡ listed_of x cells

-- the seat has no turn and holds nothing
pub record IsIdle (v : SeatView) : Type 0 where
  pub turn : v.turn ≡ None
  pub held : v.held ≡ []

-- the entry is at the centre, and is legal in the centre's clauses
pub record IsLegalAt (rules : Rules) (h : HoodView) (e : Entry) : Type 0 where
  pub at : IsTrue (is_at h.centre e)
  pub legal : IsTrue (is_legal_in (centre_clauses h) rules e)
