-- The kinds of atomic step, as each is told to the seat that makes it. A step changes this seat's view alone, and the journal only where the
-- turn ends with a post. found is the word that it found, the first of each pair is the seat's view, and the second what it has in hand.
use Rattle.std.specs.Prelude.{◌≡◌, ◌≢◌, ℕ, ◌+◌, ◌-◌, ◌^◌, ◌<◌, Some, List, [], ◌∷◌, ◌++◌, length}
use Rattle.atomic_table.specs.Table.{Me, Step}
use Rattle.cp_logic.specs.declared.named.Named.{Named}
use Rattle.cp_logic.specs.Journals.{Post}
use Rattle.cp_book.specs.Views.{BookView}
use Rattle.cp_occ.specs.Cells.{CellView}
use Rattle.cp_yard.specs.declared.item.Item.{Item}
use Rattle.cp_yard.specs.declared.item.Item.TheVariants.{OfVariable, OfTurn, Nothing}
use Rattle.cp_yard.specs.Views.{Met, MetTurn, SeatView, held_of, noted, reached_lock, reached_turn, with_hand, unlocked, without_turn, with_post}
use Rattle.cp_yard.specs.Rule.{clauses_at, AreClausesAt, IsBookOf}

abbrev Sat : Type 0
Sat = Me Item SeatView

-- the word names another seat
abbrev pub IsOther : ℕ → SeatView → Type 0
IsOther found v = (found - 1 ≢ v.number) × (found - 1 < 2 ^ 32)

-- a try of a lock: the seat gets the cell of a free variable, and else notes whose it is
abbrev pub tries_lock : Step Item → Sat → ℕ → Sat → Type 0
tries_lock st m found m' =
    (found ≡ 0 → (c : CellView) × (c.variable ≡ st.word) × AreClausesAt m.0.base st.word c.clauses × (m'.0 ≡ reached_lock st.word c.clauses m.0) × (m'.1 ≡ (st.word, OfVariable c) ∷ m.1))
    × (found ≢ 0 → (m'.0 ≡ noted (Met st.word (found - 1)) m.0) × (m'.1 ≡ m.1) × IsOther found m.0)

-- a try of the turn: the seat gets the book where the turn is free, with which its lists agree, and else notes whose the turn is
abbrev pub tries_turn : Step Item → Sat → ℕ → Sat → Type 0
tries_turn st m found m' =
    (found ≡ 0
    → (h : List Post) × (b : BookView) × IsBookOf m.0.base h b × (m'.0 ≡ reached_turn h m.0) × (m'.1 ≡ (0, OfTurn b) ∷ m.1)
    × ((x : ℕ) (cs : List Named) → held_of x m.0.held ≡ Some cs → cs ≡ clauses_at m.0.base h x))
    × (found ≢ 0 → (m'.0 ≡ noted (MetTurn (found - 1)) m.0) × (m'.1 ≡ m.1) × IsOther found m.0)

-- the emptied slot is given back
abbrev pub returns_slot : Step Item → Sat → ℕ → Sat → Type 0
returns_slot st m found m' = (m'.0 ≡ with_hand 0 m.0) × (m'.1 ≡ [])

-- the emptied slot is taken again
abbrev pub takes_slot : Step Item → Sat → ℕ → Sat → Type 0
takes_slot st m found m' = (m'.0 ≡ with_hand (st.word + 1) m.0) × (m'.1 ≡ (st.word, Nothing) ∷ [])

-- a lock is given back with its cell
abbrev pub unlocks : Step Item → Sat → ℕ → Sat → Type 0
unlocks st m found m' = (m'.0 ≡ unlocked st.word m.0) × (m'.1 ≡ [])

-- the turn ends with no post
abbrev pub ends_turn : Step Item → Sat → ℕ → Sat → Type 0
ends_turn st m found m' = (m'.0 ≡ without_turn m.0) × (m'.1 ≡ [])

-- the turn ends with one post more, and what the seat holds are then the clauses after it
abbrev pub posts_entry : Step Item → Sat → ℕ → Sat → Type 0
posts_entry st m found m' = (m'.1 ≡ [])
    × ((b : BookView) → m.1 ≡ (0, OfTurn b) ∷ []
    → ((h : List Post) (p : Post) → m.0.turn ≡ Some h → b.posts ≡ h ++ p ∷ [] → m'.0 ≡ with_post (length h) p m.0)
    × ((x : ℕ) (cs : List Named) → held_of x m'.0.held ≡ Some cs → cs ≡ clauses_at m.0.base b.posts x))
