-- A shift: the visits of one worker in one round.
use Rattle.std.specs.Prelude.{◌≡◌, ◌⊎◌, ℕ, ◌+◌, ◌<◌, Option, Some, None, List, [], ◌∷◌, map, length, ◌++◌}
use Rattle.std.specs.List.{flat_map, All, Contains}
use Rattle.cp_logic.specs.declared.named.Named.{Named}
use Rattle.cp_logic.specs.declared.stop.Stop.{Stop}
use Rattle.cp_logic.specs.Formulas.{neighbourhood}
use Rattle.cp_logic.specs.Entries.{Entry}
use Rattle.cp_logic.specs.Legality.{first_in}
use Rattle.cp_logic.specs.Journals.{Post}
use Rattle.cp_yard.specs.Views.{Base, Note, Got, GotTurn, Met, MetTurn}
use Rattle.cp_hood.specs.Seats.{EndWith}
use Rattle.cp_hood.specs.Commits.{IsStopAfter}
use Rattle.cp_worker.specs.declared.answer.AtAnswer.{AtAnswer}
use Rattle.cp_worker.specs.declared.lists.BusyAt.{BusyAt}
use Rattle.cp_worker.specs.declared.lists.LateAt.{LateAt}
use Rattle.cp_worker.specs.declared.lists.WideAt.{WideAt}
use Rattle.cp_worker.specs.declared.lists.WorkerShift.{WorkerShift}
use Rattle.cp_worker.specs.Visits.{positions, clauses_after, IsPostOf, IsVisit}
use Rattle.cp_worker.specs.Listing.{busy_of, late_of, wide_of, stop_of}
use Rattle.cp_worker.specs.Candidates.{candidates_of}

-- x was got with some clauses, and among those, after these posts, the search gives this
abbrev pub Gives : Base → ℕ → List Note → List (ℕ × Post) → Option Entry → Type 0
Gives f x noted posted found =
    (before : List Note) × (cs : List Named) × (n : ℕ) × (more : List Note)
    × (noted ≡ before ++ Got x cs n ∷ more) × (first_in (clauses_after x cs posted) f.rules 1 x ≡ found)

-- and there, after these posts, nothing applies
abbrev pub IsSettled : Base → ℕ → List Note → List (ℕ × Post) → Type 0
IsSettled f x noted posted = Gives f x noted posted None

-- the turn was got last, and the entry that the search gave was refused there, for this reason
abbrev pub EndsStopped : Base → ℕ → List Note → List (ℕ × Post) → Stop → Type 0
EndsStopped f x noted posted stop =
    (h : List Post) × (e : Entry) × EndWith (GotTurn h) noted × Gives f x noted posted (Some e) × IsStopAfter f h e stop

abbrev pub IsBusy : List Note → BusyAt → Type 0
IsBusy noted b = Contains noted (Met b.var b.by)

abbrev pub IsLate : List Note → LateAt → Type 0
IsLate noted l = Contains noted (MetTurn l.by)

abbrev pub IsWide : ℕ → List Note → WideAt → Type 0
IsWide limit noted w = (cs : List Named) × (n : ℕ) × Contains noted (Got w.at cs n) × (w.count ≡ length (neighbourhood cs w.at)) × (limit < w.count)

-- the candidate is in a list, with its cause, or is settled: got, and after some of these posts nothing applied there
abbrev pub IsAccounted : Base → List Note → List (ℕ × Post) → WorkerShift → ℕ → Type 0
IsAccounted f noted posted s x =
    ((b : BusyAt) × Contains s.busy.items b × (b.at ≡ x))
    ⊎ (((l : LateAt) × Contains s.late.items l × (l.at ≡ x))
    ⊎ (((w : WideAt) × Contains s.wide.items w × (w.at ≡ x))
    ⊎ ((before own more : List (ℕ × Post)) × (posted ≡ before ++ (own ++ more)) × IsSettled f x noted own)))

-- x is the last of the candidates
abbrev pub IsLast : ℕ → List ℕ → Type 0
IsLast x taken = (earlier : List ℕ) × (taken ≡ earlier ++ x ∷ [])

-- the visit of the last candidate stopped, for this reason, after some of these posts, which are the last ones
abbrev pub IsStopped : Base → List Note → List (ℕ × Post) → List ℕ → Stop → Type 0
IsStopped f noted posted taken stop =
    (x : ℕ) × IsLast x taken × ((before own : List (ℕ × Post)) × (posted ≡ before ++ own) × EndsStopped f x noted own stop)

-- the visit of a candidate: its answer, and what was noted and posted in it
pub record Visited : Type 0 where
  pub at : ℕ
  pub answer : AtAnswer
  pub noted : List Note
  pub posted : List (ℕ × Post)

-- visits of the worker in the round, one after the other, the first after so many of its posts
abbrev pub AreVisits : Base → ℕ → ℕ → ℕ → ℕ → List Visited → Type 0
AreVisits f number in_round limit before [] = Unit {0}
AreVisits f number in_round limit before (v ∷ vs) =
    IsVisit f number v.at in_round limit before v.noted v.posted v.answer × AreVisits f number in_round limit (before + length v.posted) vs

-- only the last visit may find that the run has stopped, and why
abbrev pub EndsIn : Option Stop → List Visited → Type 0
EndsIn stopped [] = stopped ≡ None
EndsIn stopped (v ∷ []) = stopped ≡ stop_of v.answer
EndsIn stopped (v ∷ w ∷ vs) = (stop_of v.answer ≡ None) × EndsIn stopped (w ∷ vs)

-- What a shift of the worker in the round comes to, with the numbers that it drew, beside so many workers, and after so many posts of its own. It is
-- the visits of their candidates, one after the other: their notes and posts are all that was noted and posted, and the lists are those of their
-- answers, in this order.
pub record IsShift (f : Base) (number in_round workers limit before : ℕ) (noted : List Note) (posted : List (ℕ × Post)) (drawn : List ℕ) (s : WorkerShift) : Type 0 where
  pub worker : s.worker ≡ number
  pub round : s.round ≡ in_round
  pub taken : s.taken.items ≡ candidates_of workers f.formula.variables drawn
  pub visits : List Visited
  pub each : AreVisits f number in_round limit before visits
  pub ends : EndsIn s.stopped visits
  pub visited : s.taken.items ≡ map (λ v. v.at) visits
  pub notes : noted ≡ flat_map (λ v. v.noted) visits
  pub posted_are : posted ≡ flat_map (λ v. v.posted) visits
  pub busy_are : s.busy.items ≡ flat_map (λ v. busy_of v.at v.answer) visits
  pub late_are : s.late.items ≡ flat_map (λ v. late_of v.at v.answer) visits
  pub wide_are : s.wide.items ≡ flat_map (λ v. wide_of v.at v.answer) visits
  pub commits : s.commits.items ≡ positions posted
  pub posts : All (IsPostOf number in_round) posted
  pub busy : All (IsBusy noted) s.busy.items
  pub late : All (IsLate noted) s.late.items
  pub wide : All (IsWide limit noted) s.wide.items
  -- each candidate is accounted for, but the last of a shift that stopped
  pub accounted : (x : ℕ) → Contains s.taken.items x → IsAccounted f noted posted s x ⊎ (IsLast x s.taken.items × ((stop : Stop) × (s.stopped ≡ Some stop)))
  pub stopped : (stop : Stop) → s.stopped ≡ Some stop → IsStopped f noted posted s.taken.items stop
