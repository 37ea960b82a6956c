-- What the tests say of three variables.
use Rattle.std.specs.Prelude.{◌≡◌, ℕ, ◌+◌, Some, List, [], ◌∷◌}
use mathlib.Core.Option.{some}
use lib.ListN.{get_elem?}
use Rattle.cp_logic.specs.declared.named.Named.{Named}
use Rattle.cp_occ.specs.Cells.{CellView}
use Rattle.cp_yard.specs.Views.{Lock, SeatView, lock, held_of}

-- the locks of 1, 2 and 3
abbrev pub HasThree : List Lock → Type 0
HasThree ks = (a b c : List Named) × (ks ≡ lock 3 c ∷ lock 2 b ∷ lock 1 a ∷ [])

-- the cells are those of the first variables, each with what is held of its variable
abbrev pub Fits : List CellView → List Lock → Type 0
Fits cells ks = (k : ℕ) (c : CellView) → get_elem? cells k ≡ some c → (c.variable ≡ k + 1) × (held_of (k + 1) ks ≡ Some c.clauses)

-- the seat has the same number, shares and base
pub record IsSameSeat (v w : SeatView) : Type 0 where
  pub base : w.base ≡ v.base
  pub number : w.number ≡ v.number
  pub made : w.made ≡ v.made
  pub own : w.own.number ≡ v.own.number
  pub others : w.others ≡ v.others
