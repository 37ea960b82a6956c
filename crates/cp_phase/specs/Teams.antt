-- Teams: the seats 1, 2, .. of a yard, what they do in a round, and what they did in all rounds until then.
use Rattle.std.specs.Prelude.{◌≡◌, ℕ, ◌+◌, ◌*◌, ◌<◌, ◌≤◌, ◌==◌, true, Some, None, List, [], ◌∷◌, ◌++◌, length, slice_get}
use Rattle.std.specs.List.{All, AllPairs, filter}
use Rattle.std.specs.Option.{ForSome}
use Rattle.cp_logic.specs.Journals.{Post}
use Rattle.cp_yard.specs.Views.{Base, Note, SeatView, joined}
use Rattle.cp_yard.specs.Sitting.{Sitting, YardView}
use Rattle.cp_hood.specs.Hoods.{IsIdle}
use Rattle.cp_hood.specs.Seats.{GoesOn, Continues}
use Rattle.cp_claim.specs.Views.{Counter, share, DrawsOnly, founder}
use Rattle.cp_claim.specs.Views as claims
use Rattle.cp_worker.specs.declared.lists.WorkerShift.{WorkerShift}
use Rattle.cp_worker.specs.Candidates.{candidates_of}
use Rattle.cp_worker.specs.Shifts.{IsShift}
use Rattle.cp_phase.specs.declared.team.Member.{Member}
use Rattle.cp_phase.specs.Rounds.{of_round, shift_at, times_taken, once_in, NoneStopped, IsInOrder, all_notes, IsShiftIn}

-- ---- seats

-- seat number i + 1 of the yard, which holds nothing and has taken in no other
pub record IsSeatOf (y : YardView) (i : ℕ) (s : Sitting) : Type 0 where
  pub table : s.table ≡ y.table
  pub base : s.view.base ≡ y.base
  pub number : s.view.number ≡ i + 1
  pub own : s.view.own.number ≡ i + 1
  pub others : s.view.others ≡ []
  pub idle : IsIdle s.view

-- the seats 1, 2, .. of the yard, in order
abbrev pub AreSeats : YardView → List Sitting → Type 0
AreSeats y seats = (i : ℕ) (s : Sitting) → slice_get seats i ≡ Some s → IsSeatOf y i s

-- the seat has posted nothing and met nothing
pub record IsNew (s : Sitting) : Type 0 where
  pub posts : s.view.own.posts ≡ []
  pub notes : s.view.own.notes ≡ []

abbrev pub AreNew : List Sitting → Type 0
AreNew seats = (i : ℕ) (s : Sitting) → slice_get seats i ≡ Some s → IsNew s

-- the seat after it took these in, in order
abbrev pub joined_all : SeatView → List Sitting → SeatView
joined_all v [] = v
joined_all v (s ∷ ss) = joined_all (joined v s.view) ss

-- ---- claims

-- the first seat of claims with this limit, after so many seats were made
abbrev pub founder_of : ℕ → ℕ → claims.View
founder_of limit made = record (founder limit) { made = made }

-- a new seat of them
abbrev pub claim_of : Counter → ℕ → claims.Sitting
claim_of c number = record { counter = c; view = record { lives = true; limit = c.limit; made = 0; drawn = []; mine = share number; others = [] } }

-- the seats with new claim seats, numbered from here on
abbrev pub members_from : Counter → ℕ → List Sitting → List Member
members_from c number [] = []
members_from c number (s ∷ ss) = record { seat = s; claim = claim_of c number; shift = None } ∷ members_from c (number + 1) ss

-- the claim seat after it took in those of the members, in order
abbrev pub claims_joined : claims.View → List Member → claims.View
claims_joined v [] = v
claims_joined v (m ∷ ms) = claims_joined (claims.joined v m.claim.view) ms

-- ---- a round

-- the member may work for the yard with the claims
pub record IsReady (y : YardView) (c : Counter) (m : Member) : Type 0 where
  pub table : m.seat.table ≡ y.table
  pub base : m.seat.view.base ≡ y.base
  pub counter : m.claim.counter ≡ c
  pub idle : IsIdle m.seat.view

-- the shift is what the seat did in the round, with this limit of a neighbourhood
pub record IsWork (workers limit in_round : ℕ) (v w : SeatView) (s : WorkerShift) : Type 0 where
  pub noted : List Note
  pub posted : List (ℕ × Post)
  pub drawn : List ℕ
  pub goes : GoesOn v w noted posted
  pub shift : IsShift v.base v.number in_round workers limit (length v.own.posts) noted posted drawn s

-- the shift, beside so many workers, took what the claim seat drew, and if it didn't stop the claim seat has ended
pub record IsTaken (workers variables : ℕ) (v w : claims.View) (s : WorkerShift) : Type 0 where
  pub drawn : List ℕ
  pub claims : w.drawn ≡ v.drawn ++ drawn
  pub taken : s.taken.items ≡ candidates_of workers variables drawn
  pub ended : s.stopped ≡ None → (word : ℕ) × (w.mine.end ≡ Some word)

-- the member has worked in the round; it has no shift where memory ran out
pub record HasWorked (workers limit in_round : ℕ) (old new : Member) : Type 0 where
  pub table : new.seat.table ≡ old.seat.table
  pub counter : new.claim.counter ≡ old.claim.counter
  pub idle : IsIdle new.seat.view
  pub seat : Continues old.seat.view new.seat.view
  pub claim : DrawsOnly old.claim.view new.claim.view
  pub rising : AllPairs (λ a b. a < b) old.claim.view.drawn → AllPairs (λ a b. a < b) new.claim.view.drawn
  pub work : ForSome new.shift (IsWork workers limit in_round old.seat.view new.seat.view)
  pub taken : ForSome new.shift (IsTaken workers old.seat.view.base.formula.variables old.claim.view new.claim.view)

-- the seats before and after a round, with its shifts
pub record IsRound (y : YardView) (workers limit in_round : ℕ) (olds news : List Sitting) (shifts : List WorkerShift) : Type 0 where
  pub team : length news ≡ length olds
  pub seats : AreSeats y news
  pub count : length shifts ≡ length olds
  pub work : (i : ℕ) (v w : Sitting) (s : WorkerShift) → slice_get olds i ≡ Some v → slice_get news i ≡ Some w → slice_get shifts i ≡ Some s → IsWork workers limit in_round v.view w.view s
  pub taken_once : (x : ℕ) → times_taken x shifts ≤ once_in x y.base.formula.variables
  pub taken_all : (x : ℕ) → NoneStopped shifts → 1 ≤ x → x ≤ y.base.formula.variables → times_taken x shifts ≡ 1
  pub in_order : workers ≡ 1 → length olds ≡ 1 → (s : WorkerShift) → slice_get shifts 0 ≡ Some s → IsInOrder s

-- ---- all rounds until then

-- of the posts, those in the round
abbrev pub in_round : ℕ → List (ℕ × Post) → List (ℕ × Post)
in_round r posts = filter (λ q. q.1.round == r) posts

-- the posts and notes of worker i, counted from 0, in so many rounds of so many workers: the posts' rounds don't fall, the notes are those of the
-- rounds, one round after the other, and its shifts are what those of each round come to
pub record AreDone (f : Base) (limit workers i begun : ℕ) (shifts : List WorkerShift) (notes : List Note) (posts : List (ℕ × Post)) : Type 0 where
  pub range : All (λ q. (1 ≤ q.1.round) × (q.1.round ≤ begun)) posts
  pub rising : AllPairs (λ p q. p.1.round ≤ q.1.round) posts
  pub noted : List (List Note)
  pub rounds : length noted ≡ begun
  pub all : notes ≡ all_notes noted
  pub each : (r : ℕ) (s : WorkerShift) → shift_at workers r i shifts ≡ Some s → IsShiftIn f workers limit (i + 1) r noted (in_round (r + 1) posts) s

-- the seats of so many workers after so many rounds, and the shifts of these
pub record ArePlayed (y : YardView) (limit workers begun : ℕ) (seats : List Sitting) (shifts : List WorkerShift) : Type 0 where
  pub team : length seats ≡ workers
  pub are_seats : AreSeats y seats
  pub count : length shifts ≡ begun * workers
  pub each : (i : ℕ) (v : Sitting) → slice_get seats i ≡ Some v → AreDone y.base limit workers i begun shifts v.view.own.notes v.view.own.posts
  pub taken_once : (r x : ℕ) → times_taken x (of_round workers r shifts) ≤ once_in x y.base.formula.variables
  pub taken_all : (r x : ℕ) → r < begun → NoneStopped (of_round workers r shifts) → 1 ≤ x → x ≤ y.base.formula.variables → times_taken x (of_round workers r shifts) ≡ 1
  pub in_order : workers ≡ 1 → (r : ℕ) (s : WorkerShift) → shift_at 1 r 0 shifts ≡ Some s → IsInOrder s
