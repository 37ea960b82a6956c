-- How a seat goes on: it is the same seat, with further notes and posts.
use Rattle.std.specs.Prelude.{◌≡◌, ℕ, List, [], ◌∷◌, ◌++◌, map}
use Rattle.cp_logic.specs.Journals.{Post}
use Rattle.cp_occ.specs.Cells.{CellView}
use Rattle.cp_yard.specs.Views.{Note, MetTurn, SeatView, with_lock}

-- the same seat, with these notes and posts after those that it had
pub record GoesOn (v w : SeatView) (noted : List Note) (posted : List (ℕ × Post)) : Type 0 where
  pub base : w.base ≡ v.base
  pub number : w.number ≡ v.number
  pub made : w.made ≡ v.made
  pub own : w.own.number ≡ v.own.number
  pub others : w.others ≡ v.others
  pub notes : w.own.notes ≡ v.own.notes ++ noted
  pub posts : w.own.posts ≡ v.own.posts ++ posted

-- with some notes and posts after those that it had
abbrev pub Continues : SeatView → SeatView → Type 0
Continues v w = (notes : List Note) × (posts : List (ℕ × Post)) × GoesOn v w notes posts

-- the notes end with this one
abbrev pub EndWith : Note → List Note → Type 0
EndWith n notes = (before : List Note) × (notes ≡ before ++ n ∷ [])

-- tries that met the turn with these seats
abbrev pub met_turns : List ℕ → List Note
met_turns seats = map MetTurn seats

-- the seat after tries that met these
abbrev pub noted_all : List Note → SeatView → SeatView
noted_all ns v = record v { own = record v.own { notes = v.own.notes ++ ns } }

-- the seat after it got the locks of these cells, one after the other
abbrev pub with_locks : List CellView → SeatView → SeatView
with_locks [] v = v
with_locks (c ∷ cs) v = with_locks cs (with_lock c.variable c.clauses v)
