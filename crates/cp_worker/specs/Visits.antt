-- A visit: all that a worker does at one candidate. It tries the neighbourhood until a try meets no held lock, at most three times, and under
-- its locks posts what the search gives, with at most 64 tries of the turn for each post.
use Rattle.std.specs.Prelude.{◌≡◌, ℕ, ◌+◌, ◌<◌, Some, None, List, [], ◌∷◌, ◌++◌, map, length, IsTrue}
use Rattle.std.specs.List.{flat_map, All}
use Rattle.cp_logic.specs.declared.named.Named.{Named}
use Rattle.cp_logic.specs.Entries.{Entry, is_at, numbered}
use Rattle.cp_logic.specs.Legality.{first_in}
use Rattle.cp_logic.specs.Journals.{Post}
use Rattle.cp_logic.specs.Locality.{after}
use Rattle.cp_yard.specs.Views.{Base, Note}
use Rattle.cp_yard.specs.Rule.{clauses_at}
use Rattle.cp_hood.specs.Hoods.{HoodView, centre_clauses}
use Rattle.cp_hood.specs.Tries.{IsWhole, IsCut, IsTooWide}
use Rattle.cp_hood.specs.Commits.{left_by, IsStopAfter, GetsTurn, MeetsTurn}
use Rattle.cp_worker.specs.declared.answer.AtAnswer.{AtAnswer}
use Rattle.cp_worker.specs.declared.answer.AtAnswer.TheVariants.{Settled, Busy, Wide, TurnHeld, Stopped}

-- how often the neighbourhood is tried, and for each entry the turn
abbrev pub hood_tries : ℕ
hood_tries = 3

abbrev pub turn_tries : ℕ
turn_tries = 64

-- the positions of posts
abbrev pub positions : List (ℕ × Post) → List ℕ
positions posted = map (λ q. q.0) posted

-- the positions that the answer lists
abbrev pub commits_of : AtAnswer → List ℕ
commits_of (Settled commits) = commits.items
commits_of (Busy var by) = []
commits_of (Wide count) = []
commits_of (TurnHeld by commits) = commits.items
commits_of (Stopped stop commits) = commits.items

-- a post of the worker in the round
abbrev pub IsPostOf : ℕ → ℕ → ℕ × Post → Type 0
IsPostOf worker round q = (q.1.worker ≡ worker) × (q.1.round ≡ round)

-- the clauses of x after the posts
abbrev pub clauses_after : ℕ → List Named → List (ℕ × Post) → List Named
clauses_after x cs [] = cs
clauses_after x cs (q ∷ qs) = clauses_after x (after cs x q.1.entry) qs

-- ---- under the locks

-- the post stands at the end of the journal h, after which x has these clauses, and its entry is what the search gives there, numbered from the next
-- number on
pub record IsFound (f : Base) (x : ℕ) (cs : List Named) (h : List Post) (q : ℕ × Post) : Type 0 where
  pub position : q.0 ≡ length h
  pub clauses : cs ≡ clauses_at f h x
  pub found : Entry
  pub first : first_in cs f.rules 1 x ≡ Some found
  pub entry : q.1.entry ≡ numbered (left_by f h).next found

-- each of the posts is what the search gives at x, which had these clauses, after the posts before it: for each the turn was got, with the journal
-- at whose end it stands
abbrev pub AreFound : Base → ℕ → List Named → List (ℕ × Post) → List Note → Type 0
AreFound f x cs [] noted = noted ≡ []
AreFound f x cs (q ∷ qs) noted =
    (h : List Post) × (turn rest : List Note) × (noted ≡ turn ++ rest) × GetsTurn turn_tries turn h × IsFound f x cs h q × AreFound f x (after cs x q.1.entry) qs rest

-- The posts at x, which had these clauses, are what the search gives, one after the other, and why they end: it gives nothing; or for the entry
-- that it gives the turn was held at each try, or was got, with a journal after which x has those clauses, and the entry refused.
abbrev pub HasCause : Base → ℕ → List Named → List Note → List (ℕ × Post) → AtAnswer → Type 0
HasCause f x cs noted posted (Settled commits) = AreFound f x cs posted noted × (first_in (clauses_after x cs posted) f.rules 1 x ≡ None)
HasCause f x cs noted posted (Busy var by) = ⊥
HasCause f x cs noted posted (Wide count) = ⊥
HasCause f x cs noted posted (TurnHeld by commits) =
    (e : Entry) × (turns last : List Note) × (noted ≡ turns ++ last) × AreFound f x cs posted turns × MeetsTurn turn_tries last by
    × (first_in (clauses_after x cs posted) f.rules 1 x ≡ Some e)
HasCause f x cs noted posted (Stopped stop commits) =
    (e : Entry) × (h : List Post) × (turns last : List Note) × (noted ≡ turns ++ last) × AreFound f x cs posted turns × GetsTurn turn_tries last h
    × (clauses_after x cs posted ≡ clauses_at f h x) × (first_in (clauses_after x cs posted) f.rules 1 x ≡ Some e) × IsStopAfter f h e stop

-- the posts under the locks are the worker's, at x, each what the search gives after those before it, and the answer lists them and says why they end
pub record AreCommits (f : Base) (worker x round : ℕ) (cs : List Named) (noted : List Note) (posted : List (ℕ × Post)) (answer : AtAnswer) : Type 0 where
  pub commits : commits_of answer ≡ positions posted
  pub posts : All (IsPostOf worker round) posted
  pub at : All (λ q. IsTrue (is_at x q.1.entry)) posted
  pub cause : HasCause f x cs noted posted answer

-- ---- the whole visit

-- a try of the neighbourhood of x that met a held lock, after so many posts of the worker
abbrev pub IsHeld : ℕ → ℕ → ℕ → List Note → Type 0
IsHeld x limit before notes = (var by : ℕ) × IsCut x limit before notes var by

-- the notes of tries
abbrev pub notes_of : List (List Note) → List Note
notes_of tries = flat_map (λ t. t) tries

-- the whole neighbourhood was got, which is within the limit, after so many posts of the worker, and this was done under its locks
abbrev pub EndsLocked : Base → ℕ → ℕ → ℕ → ℕ → ℕ → List Note → List Note → List (ℕ × Post) → AtAnswer → Type 0
EndsLocked f worker x round limit before last noted posted answer =
    (h : HoodView) × IsWhole x limit before last h × AreCommits f worker x round (centre_clauses h) noted posted answer

-- how a visit ends after so many tries that met a held lock and the last one, and what was noted and posted after it
abbrev pub EndsVisit : Base → ℕ → ℕ → ℕ → ℕ → ℕ → ℕ → List Note → List Note → List (ℕ × Post) → AtAnswer → Type 0
EndsVisit f worker x round limit before held last noted posted (Settled commits) = EndsLocked f worker x round limit before last noted posted (Settled commits)
EndsVisit f worker x round limit before held last noted posted (Busy var by) =
    (held + 1 ≡ hood_tries) × IsCut x limit before last var by × (noted ≡ []) × (posted ≡ [])
EndsVisit f worker x round limit before held last noted posted (Wide count) = IsTooWide x limit before last count × (noted ≡ []) × (posted ≡ [])
EndsVisit f worker x round limit before held last noted posted (TurnHeld by commits) =
    EndsLocked f worker x round limit before last noted posted (TurnHeld by commits)
EndsVisit f worker x round limit before held last noted posted (Stopped stop commits) =
    EndsLocked f worker x round limit before last noted posted (Stopped stop commits)

-- what a visit of x in the round comes to, before which the worker had made so many posts: the tries that met a held lock, the last one, and what came of it
pub record IsVisit (f : Base) (worker x round limit before : ℕ) (noted : List Note) (posted : List (ℕ × Post)) (answer : AtAnswer) : Type 0 where
  pub held : List (List Note)
  pub last : List Note
  pub later : List Note
  pub notes : noted ≡ notes_of held ++ (last ++ later)
  pub few : length held < hood_tries
  pub each : All (IsHeld x limit before) held
  pub ended : EndsVisit f worker x round limit before (length held) last later posted answer
