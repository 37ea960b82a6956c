-- A commit: tries of the turn, and under it one post or none.
use Rattle.std.specs.Prelude.{◌≡◌, ℕ, ◌+◌, ◌<◌, Some, Result, Ok, Err, List, [], ◌∷◌, ◌++◌, length, IsTrue, IsFalse}
use Rattle.cp_logic.specs.declared.stop.Stop.{Stop}
use Rattle.cp_logic.specs.declared.stop.Stop.TheVariants.{Spent as ForBudget, Numbers as ForNumbers, Refuted as ForRefutation}
use Rattle.cp_logic.specs.Formulas.{Formula, has_empty}
use Rattle.cp_logic.specs.Entries.{Entry, numbered}
use Rattle.cp_logic.specs.Legality.{is_legal_in}
use Rattle.cp_logic.specs.Journals.{Post, folded, commits}
use Rattle.cp_logic.specs.Sweeps.{is_spent}
use Rattle.cp_book.specs.Empties.{least_empty}
use Rattle.cp_book.specs.Answers.{passes_numbers, answer_to, Posted}
use Rattle.cp_book.specs.Views.{BookView, current}
use Rattle.cp_occ.specs.Cells.{variables_of, lists_of}
use Rattle.cp_occ.specs.Changes.{lists_after}
use Rattle.cp_yard.specs.declared.yard.Receipt.{Receipt}
use Rattle.cp_yard.specs.Views.{Base, Note, GotTurn, MetTurn, base_of}
use Rattle.cp_yard.specs.Rule.{clauses_at}
use Rattle.cp_hood.specs.declared.answers.CommitAnswer.{CommitAnswer}
use Rattle.cp_hood.specs.declared.answers.CommitAnswer.TheVariants.{TurnHeld, Refuted, Spent, Numbers, NoMemory}
use Rattle.cp_hood.specs.Hoods.{HoodView, centre_clauses}
use Rattle.cp_hood.specs.Seats.{met_turns}

-- the formula that the posts leave
abbrev pub left_by : Base → List Post → Formula
left_by f h = (folded f.formula h).formula

-- the entry as it is posted after these posts
abbrev pub post_after : Base → List Post → ℕ → ℕ → Entry → Post
post_after f h worker round e = record { worker = worker; round = round; entry = numbered (left_by f h).next e }

-- the centre's cell has the clauses of its variable after the posts
abbrev pub IsCurrent : Base → List Post → HoodView → Type 0
IsCurrent f h v = centre_clauses v ≡ clauses_at f h v.centre

-- the turn was got with the journal h, at one of so many tries
abbrev pub GetsTurn : ℕ → List Note → List Post → Type 0
GetsTurn tries notes h = (met : List ℕ) × (length met < tries) × (notes ≡ met_turns met ++ GotTurn h ∷ [])

-- the turn was met at all of so many tries, last with seat `by`
abbrev pub MeetsTurn : ℕ → List Note → ℕ → Type 0
MeetsTurn tries notes by = (met : List ℕ) × (length met + 1 ≡ tries) × (notes ≡ met_turns met ++ MetTurn by ∷ [])

-- the same hood, with what its cells list after the entry
pub record IsHoodAfter (e : Entry) (old new : HoodView) : Type 0 where
  pub centre : new.centre ≡ old.centre
  pub variables : variables_of new.cells ≡ variables_of old.cells
  pub lists : lists_of new.cells ≡ lists_after old.cells e

-- the same hood, with what its cells listed
pub record IsSameHood (old new : HoodView) : Type 0 where
  pub centre : new.centre ≡ old.centre
  pub clauses : centre_clauses new ≡ centre_clauses old
  pub variables : variables_of new.cells ≡ variables_of old.cells
  pub lists : lists_of new.cells ≡ lists_of old.cells

-- the journal refuses every entry, or this one, and why
abbrev pub IsStopAfter : Base → List Post → Entry → Stop → Type 0
IsStopAfter f h e ForRefutation = IsTrue (has_empty (left_by f h).clauses)
IsStopAfter f h e ForBudget = IsFalse (has_empty (left_by f h).clauses) × IsTrue (is_spent f.rules (commits h))
IsStopAfter f h e ForNumbers = IsFalse (has_empty (left_by f h).clauses) × IsFalse (is_spent f.rules (commits h)) × IsTrue (passes_numbers (left_by f h) e)

-- why the book takes no entry, or not this one
abbrev pub IsRefusal : BookView → Entry → CommitAnswer → Type 0
IsRefusal b e (TurnHeld by) = ⊥
IsRefusal b e (Refuted empty) = (least_empty (current b).clauses ≡ Some empty) × IsStopAfter (base_of b) b.posts e ForRefutation
IsRefusal b e (Spent len) = (len ≡ commits b.posts) × IsStopAfter (base_of b) b.posts e ForBudget
IsRefusal b e (Numbers next) = (next ≡ (current b).next) × IsStopAfter (base_of b) b.posts e ForNumbers
IsRefusal b e NoMemory = ⊥

-- the book is prepared for the entry, which has its numbers and is legal, and posts it
pub record IsTaken (b : BookView) (e : Entry) : Type 0 where
  pub prepared : b.prepared ≡ Some e
  pub numbered : e ≡ numbered (current b).next e
  pub legal : IsTrue (is_legal_in (current b).clauses b.rules e)
  pub answer : answer_to b e ≡ Posted (length b.posts)

-- what a commit of the entry comes to, by its answer: its notes, the seat's new posts, and the hood. Where it got the turn, the hood was current.
-- A refusal keeps the hood and posts nothing
abbrev pub IsCommit : Base → ℕ → ℕ → ℕ → Entry → HoodView → HoodView → List Note → List (ℕ × Post) → Result Receipt CommitAnswer → Type 0
IsCommit f worker round tries e old new notes posts (Ok r) =
    (h : List Post) × GetsTurn tries notes h × IsCurrent f h old × (r.position ≡ length h)
    × (posts ≡ (length h, post_after f h worker round e) ∷ []) × IsHoodAfter (post_after f h worker round e).entry old new
IsCommit f worker round tries e old new notes posts (Err (TurnHeld by)) = MeetsTurn tries notes by × (posts ≡ []) × IsSameHood old new
IsCommit f worker round tries e old new notes posts (Err (Refuted empty)) =
    (h : List Post) × GetsTurn tries notes h × IsCurrent f h old × (least_empty (left_by f h).clauses ≡ Some empty)
    × IsStopAfter f h e ForRefutation × (posts ≡ []) × IsSameHood old new
IsCommit f worker round tries e old new notes posts (Err (Spent len)) =
    (h : List Post) × GetsTurn tries notes h × IsCurrent f h old × (len ≡ commits h) × IsStopAfter f h e ForBudget
    × (posts ≡ []) × IsSameHood old new
IsCommit f worker round tries e old new notes posts (Err (Numbers next)) =
    (h : List Post) × GetsTurn tries notes h × IsCurrent f h old × (next ≡ (left_by f h).next) × IsStopAfter f h e ForNumbers
    × (posts ≡ []) × IsSameHood old new
IsCommit f worker round tries e old new notes posts (Err NoMemory) =
    (h : List Post) × GetsTurn tries notes h × IsCurrent f h old × (posts ≡ []) × IsSameHood old new
