-- Rounds: shifts of all workers, round by round.
use Rattle.std.specs.Prelude.{◌≡◌, ◌≢◌, ◌⊎◌, ℕ, ◌+◌, ◌*◌, ◌<◌, ◌≤◌, ◌==◌, ◌&&◌, nat_le, if◌then◌else◌, Option, Some, None, List, [], take, drop, length, slice_get}
use Rattle.std.specs.List.{count_by, flat_map, range_with_len, All, Contains}
use Rattle.cp_logic.specs.declared.stop.Stop.{Stop}
use Rattle.cp_logic.specs.Journals.{Post, posts_in_round}
use Rattle.cp_yard.specs.Views.{Base, Note, Share, SeatView}
use Rattle.cp_hood.specs.Hoods.{IsIdle}
use Rattle.cp_worker.specs.declared.lists.WorkerShift.{WorkerShift}
use Rattle.cp_worker.specs.Shifts.{IsShift}

-- the shifts of the round r, counted from 0, of so many workers
abbrev pub of_round : ℕ → ℕ → List WorkerShift → List WorkerShift
of_round workers r shifts = take workers (drop (r * workers) shifts)

-- the shift of worker w in the round r, both counted from 0
abbrev pub shift_at : ℕ → ℕ → ℕ → List WorkerShift → Option WorkerShift
shift_at workers r w shifts = slice_get shifts (r * workers + w)

-- how often the variable was taken as a candidate
abbrev pub times_taken : ℕ → List WorkerShift → ℕ
times_taken x shifts = count_by (λ y. y == x) (flat_map (λ s. s.taken.items) shifts)

-- how often at most a variable is taken in a round of a formula of so many variables, which are counted from 1: once, and no other number
abbrev pub once_in : ℕ → ℕ → ℕ
once_in x variables = if nat_le 1 x && nat_le x variables then 1 else 0

abbrev pub NoneStopped : List WorkerShift → Type 0
NoneStopped shifts = All (λ s. s.stopped ≡ None) shifts

abbrev pub OneStopped : List WorkerShift → Type 0
OneStopped shifts = (w : ℕ) × (s : WorkerShift) × (stop : Stop) × (slice_get shifts w ≡ Some s) × (s.stopped ≡ Some stop)

-- the shift took the variables from 1 upwards
abbrev pub IsInOrder : WorkerShift → Type 0
IsInOrder s = s.taken.items ≡ range_with_len 1 (length s.taken.items)

-- the notes of rounds, one round after the other
abbrev pub all_notes : List (List Note) → List Note
all_notes noted = flat_map (λ ns. ns) noted

-- the shift is what these posts and, of the notes by round, those of round r, counted from 0, come to; before the first round the worker had posted
-- nothing
pub record IsShiftIn (f : Base) (workers limit number r : ℕ) (noted : List (List Note)) (posts : List (ℕ × Post)) (s : WorkerShift) : Type 0 where
  pub notes : List Note
  pub there : slice_get noted r ≡ Some notes
  pub drawn : List ℕ
  pub before : ℕ
  pub first : r ≡ 0 → before ≡ 0
  pub shift : IsShift f number (r + 1) workers limit before notes posts drawn s

-- The shifts of the worker of this number in so many rounds: at r stands that of round r, counted from 0. The notes of the number's share are those
-- of the rounds, one round after the other, and no others; each shift is over its round's notes, and its posts are just the journal's there.
pub record AreShiftsOf (f : Base) (workers limit : ℕ) (h : List Post) (shares : List Share) (number begun : ℕ) (at : ℕ → Option WorkerShift) : Type 0 where
  pub share : Share
  pub there : Contains shares share
  pub whose : share.number ≡ number
  pub noted : List (List Note)
  pub rounds : length noted ≡ begun
  pub notes : share.notes ≡ all_notes noted
  pub each : (r : ℕ) (s : WorkerShift) → at r ≡ Some s → IsShiftIn f workers limit number r noted (posts_in_round h number (r + 1)) s

-- of the rounds asked for all began, unless a shift stopped, after whose round none began
pub record EndsAt (workers rounds begun : ℕ) (shifts : List WorkerShift) : Type 0 where
  pub few : begun ≤ rounds
  pub earlier : (r : ℕ) → r + 1 < begun → NoneStopped (of_round workers r shifts)
  pub last : (begun ≡ rounds) ⊎ ((r : ℕ) × (r + 1 ≡ begun) × OneStopped (of_round workers r shifts))

-- The shifts of so many workers in at most so many rounds, with this limit of a neighbourhood, after which the journal is h, and the shares of the
-- seats are these. They stand by round and then worker. Where no shift of a round stopped, each variable was taken once in it, and else at most once;
-- and nothing else was taken. One worker takes the variables from 1 upwards.
pub record AreShifts (f : Base) (workers rounds limit : ℕ) (h : List Post) (shares : List Share) (shifts : List WorkerShift) : Type 0 where
  pub begun : ℕ
  pub count : length shifts ≡ begun * workers
  pub each : (w : ℕ) → w < workers → AreShiftsOf f workers limit h shares (w + 1) begun (λ r. shift_at workers r w shifts)
  pub ends : EndsAt workers rounds begun shifts
  pub taken_once : (r x : ℕ) → times_taken x (of_round workers r shifts) ≤ once_in x f.formula.variables
  pub taken_all : (r x : ℕ) → r < begun → NoneStopped (of_round workers r shifts) → 1 ≤ x → x ≤ f.formula.variables → times_taken x (of_round workers r shifts) ≡ 1
  pub in_order : workers ≡ 1 → (r : ℕ) (s : WorkerShift) → shift_at 1 r 0 shifts ≡ Some s → IsInOrder s
  -- what a worker posts in an earlier round comes before what it posts in a later one
  pub rising : (r q w : ℕ) (s t : WorkerShift) → r < q → w < workers → shift_at workers r w shifts ≡ Some s → shift_at workers q w shifts ≡ Some t
      → (i j : ℕ) → Contains s.commits.items i → Contains t.commits.items j → i < j
  -- each post is of number 0, or of a worker in one of these rounds
  pub within : All (λ p. p.worker ≢ 0 → (p.worker ≤ workers) × (1 ≤ p.round) × (p.round ≤ begun)) h

-- the first seat of a yard, which made no other and holds nothing
pub record IsFirstSeat (v : SeatView) : Type 0 where
  pub number : v.number ≡ 0
  pub made : v.made ≡ 1
  pub own : v.own.number ≡ 0
  pub others : v.others ≡ []
  pub idle : IsIdle v
