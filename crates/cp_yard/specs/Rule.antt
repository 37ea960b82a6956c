-- What is true of a yard between any two steps: there is one journal, and its words, slots and seats stand for it.
use Rattle.std.specs.Prelude.{◌≡◌, ◌≢◌, ◌⊎◌, ℕ, ◌+◌, ◌^◌, ◌<◌, ◌≤◌, true, Some, None, List, [], ◌++◌, length, slice_index, sum_by, IsTrue}
use Rattle.std.specs.List.{All, Contains}
use mathlib.Core.Option.{some}
use mathlib.Core.Option as maybe
use lib.ListN.{get_elem?}
use Rattle.atomic_table.specs.Table.{State}
use Rattle.cp_logic.specs.declared.named.Named.{Named}
use Rattle.cp_logic.specs.Clauses.{contains}
use Rattle.cp_logic.specs.Formulas.{IsFormula, occurrences}
use Rattle.cp_logic.specs.Entries.{Entry, variables_of}
use Rattle.cp_logic.specs.Journals.{Post, IsLegalJournal, folded, posts_of}
use Rattle.cp_book.specs.Views.{BookView}
use Rattle.cp_occ.specs.Cells.{CellView}
use Rattle.cp_yard.specs.declared.item.Item.{Item}
use Rattle.cp_yard.specs.declared.item.Item.TheVariants.{OfVariable, OfTurn, Nothing}
use Rattle.cp_yard.specs.Views.{Base, Note, Got, GotTurn, Met, MetTurn, Lock, Share, SeatView, held_of, shares_of, all_shares, times, once_below}

-- the clauses of the variable after the posts
abbrev pub clauses_at : Base → List Post → ℕ → List Named
clauses_at f h x = occurrences (folded f.formula h).formula.clauses x

abbrev pub IsLegal : Base → List Post → Type 0
IsLegal f h = IsFormula f.formula × IsLegalJournal f.formula f.rules h

-- the clauses are those of the variable after some legal journal
abbrev pub AreClausesAt : Base → ℕ → List Named → Type 0
AreClausesAt f x cs = (h : List Post) × IsLegal f h × (cs ≡ clauses_at f h x)

abbrev pub IsPrefix : {A : Type 0} → List A → List A → Type 0
IsPrefix {A} xs ys = (rest : List A) × (xs ++ rest ≡ ys)

-- the cell of the variable, with these clauses
abbrev pub IsCellOf : ℕ → List Named → CellView → Type 0
IsCellOf x cs c = (c.variable ≡ x) × (c.clauses ≡ cs)

-- a book over the base, with these posts
abbrev pub IsBookOf : Base → List Post → BookView → Type 0
IsBookOf f h b = (b.first ≡ f.formula) × (b.rules ≡ f.rules) × (b.posts ≡ h)

-- a note of the number w is true after the posts h: what it got were the clauses, or the journal, after the first posts of h, of which so many
-- were its own, and whom it met is another number, which got that lock, or the turn
abbrev pub IsTrueNote : Base → List Post → (ℕ → List Note) → ℕ → Note → Type 0
IsTrueNote f h notes w (Got x cs n) = (j : List Post) × IsPrefix j h × (cs ≡ clauses_at f j x) × (length (posts_of j w) ≡ n)
IsTrueNote f h notes w (GotTurn j) = IsPrefix j h
IsTrueNote f h notes w (Met x by) = (by ≢ w) × ((cs : List Named) × (n : ℕ) × Contains (notes by) (Got x cs n))
IsTrueNote f h notes w (MetTurn by) = (by ≢ w) × ((j : List Post) × Contains (notes by) (GotTurn j))

-- the share has the posts and the notes of its number
abbrev pub IsShare : List Post → (ℕ → List Note) → Share → Type 0
IsShare h notes k = (k.posts ≡ posts_of h k.number) × (k.notes ≡ notes k.number)

-- the slots, each with what is at home there
abbrev pub Homes : Type 0
Homes = List (maybe.Option Item)

-- the slot is at home and has nothing
abbrev pub IsBare : Homes → ℕ → Type 0
IsBare homes k = get_elem? homes k ≡ some (some Nothing)

-- what a living seat i among so many knows is so
pub record Knows (f : Base) (h : List Post) (notes : ℕ → List Note) (words : List ℕ) (homes : Homes) (count i : ℕ) (v : SeatView) : Type 0 where
  pub base : v.base ≡ f
  pub number : v.number ≡ i
  pub own : v.own.number ≡ i
  pub made : i ≡ 0 → v.made ≡ count
  pub shares : (k : Share) → Contains (shares_of v) k → IsShare h notes k
  -- it has the turn only where the turn's word names it, and with the whole journal
  pub turn : (j : List Post) → v.turn ≡ Some j
      → (slice_index words 0 ≡ i + 1) × (j ≡ h) × (v.hand ≢ 1 → IsBare homes 0) × ((k : List Post) × Contains v.own.notes (GotTurn k))
  -- it holds a variable only where the variable's word names it, and with its clauses after the whole journal
  pub held : (x : ℕ) (cs : List Named) → held_of x v.held ≡ Some cs
      → (0 < x) × (slice_index words x ≡ i + 1) × (cs ≡ clauses_at f h x) × (v.hand ≢ x + 1 → IsBare homes x) × ((ds : List Named) × (n : ℕ) × Contains v.own.notes (Got x ds n))

-- seat i lives and has the turn
pub record HasTurn (h : List Post) (views : List SeatView) (i : ℕ) (v : SeatView) : Type 0 where
  pub there : get_elem? views i ≡ some v
  pub lives : v.lives ≡ true
  pub turn : v.turn ≡ Some h

-- seat i lives and holds the variable
pub record HasLock (views : List SeatView) (x i : ℕ) (v : SeatView) (cs : List Named) : Type 0 where
  pub there : get_elem? views i ≡ some v
  pub lives : v.lives ≡ true
  pub held : held_of x v.held ≡ Some cs

-- the turn's word is 0 and the book is at home, or it is 1 more than the number of a seat that has the turn
abbrev pub IsTurnKept : Base → List Post → List ℕ → Homes → List SeatView → Type 0
IsTurnKept f h words homes views =
    ((slice_index words 0 ≡ 0) × ((b : BookView) × (get_elem? homes 0 ≡ some (some (OfTurn b))) × IsBookOf f h b))
    ⊎ ((i : ℕ) × (v : SeatView) × (slice_index words 0 ≡ i + 1) × HasTurn h views i v)

-- the variable's word is 0 and its cell is at home, or it is 1 more than the number of a seat that holds it
abbrev pub IsLockKept : Base → List Post → List ℕ → Homes → List SeatView → ℕ → Type 0
IsLockKept f h words homes views x =
    ((slice_index words x ≡ 0) × ((c : CellView) × (get_elem? homes x ≡ some (some (OfVariable c))) × IsCellOf x (clauses_at f h x) c))
    ⊎ ((i : ℕ) × (v : SeatView) × (cs : List Named) × (slice_index words x ≡ i + 1) × HasLock views x i v cs)

-- The yard stands for a journal over the base.
pub record Stands (f : Base) (s : State Item SeatView) : Type 0 where
  pub posts : List Post
  -- those of each number
  pub notes : ℕ → List Note
  pub wide : length s.words ≡ length s.homes
  pub some_word : 0 < length s.homes
  pub few : length s.views < 2 ^ 32
  pub legal : IsLegal f posts
  pub workers : All (λ p. p.worker < length s.views) posts
  pub seats : (i : ℕ) (v : SeatView) → get_elem? s.views i ≡ some v → v.lives ≡ true → Knows f posts notes s.words s.homes (length s.views) i v
  -- each number of a seat that was made is in one share of a living seat
  pub numbers : (w : ℕ) → sum_by (λ v. times w (shares_of v)) s.views ≡ once_below w (length s.views)
  pub true_notes : (w : ℕ) (n : Note) → Contains (notes w) n → IsTrueNote f posts notes w n
  pub unused : (w : ℕ) → length s.views ≤ w → notes w ≡ []
  pub turn : IsTurnKept f posts s.words s.homes s.views
  pub locks : (x : ℕ) → 0 < x → x < length s.homes → IsLockKept f posts s.words s.homes s.views x

-- ---- for callers

-- the seat holds all variables of the entry
abbrev pub HoldsAll : Entry → List Lock → Type 0
HoldsAll e ks = (x : ℕ) → IsTrue (contains (variables_of e) x) → (cs : List Named) × (held_of x ks ≡ Some cs)

-- the seat has the numbers of all seats that were made, and holds nothing
abbrev pub IsAlone : SeatView → Type 0
IsAlone v = (v.number ≡ 0) × (v.held ≡ []) × (v.turn ≡ None) × ((w : ℕ) → w < v.made → 0 < times w (all_shares v))

-- the shares of so many seats account for the journal: each number below the count stands once, with its posts and with notes that are true
pub record Account (f : Base) (h : List Post) (shares : List Share) (count : ℕ) : Type 0 where
  pub notes : ℕ → List Note
  pub legal : IsLegal f h
  pub workers : All (λ p. p.worker < count) h
  pub each_share : (k : Share) → Contains shares k → IsShare h notes k
  pub numbers : (w : ℕ) → times w shares ≡ once_below w count
  pub true_notes : (w : ℕ) (n : Note) → Contains (notes w) n → IsTrueNote f h notes w n
  pub unused : (w : ℕ) → count ≤ w → notes w ≡ []
