-- The tries and the posts within a visit.
use Rattle.std.specs.Prelude.{◌≡◌, ℕ, ◌+◌, ◌<◌, Some, Result, Err, List, [], ◌∷◌, ◌++◌, length}
use Rattle.std.specs.List.{All}
use Rattle.cp_logic.specs.declared.named.Named.{Named}
use Rattle.cp_logic.specs.declared.stop.Stop.TheVariants.{Spent as ForBudget, Numbers as ForNumbers, Refuted as ForRefutation}
use Rattle.cp_logic.specs.Entries.{Entry}
use Rattle.cp_logic.specs.Legality.{first_in}
use Rattle.cp_logic.specs.Journals.{Post}
use Rattle.cp_yard.specs.Views.{Base, Note}
use Rattle.cp_yard.specs.Rule.{clauses_at}
use Rattle.cp_hood.specs.declared.answers.CommitAnswer.{CommitAnswer}
use Rattle.cp_hood.specs.declared.answers.CommitAnswer.TheVariants.{TurnHeld, Refuted, Spent, Numbers, NoMemory}
use Rattle.cp_hood.specs.declared.answers.HoodAnswer.{HoodAnswer}
use Rattle.cp_hood.specs.declared.answers.HoodAnswer.TheVariants.{Busy}
use Rattle.cp_hood.specs.Hoods.{HoodView}
use Rattle.cp_hood.specs.Tries.{IsTry}
use Rattle.cp_hood.specs.Commits.{IsHoodAfter, IsStopAfter, IsCurrent, GetsTurn, MeetsTurn, post_after}
use Rattle.cp_worker.specs.declared.answer.AtAnswer.{AtAnswer}
use Rattle.cp_worker.specs.Visits.{hood_tries, turn_tries, clauses_after, AreFound, HasCause, IsHeld, notes_of, IsVisit}

-- the turn was got with some journal, after which the hood's centre has its clauses, the entry was posted after it, the hood's cells followed, and
-- the position is listed at the end
pub record HasPosted (f : Base) (worker round : ℕ) (e : Entry) (old new : HoodView) (listed now : List ℕ) (noted : List Note) (posted : List (ℕ × Post)) : Type 0 where
  pub before : List Post
  pub turn : GetsTurn turn_tries noted before
  pub current : IsCurrent f before old
  pub post : posted ≡ (length before, post_after f before worker round e) ∷ []
  pub hood : IsHoodAfter (post_after f before worker round e).entry old new
  pub position : now ≡ listed ++ length before ∷ []

-- the entry was not posted at x, which has these clauses, and why
abbrev pub IsRefusal : Base → ℕ → List Named → Entry → List Note → CommitAnswer → Type 0
IsRefusal f x cs e noted (TurnHeld by) = MeetsTurn turn_tries noted by
IsRefusal f x cs e noted (Refuted empty) = (h : List Post) × GetsTurn turn_tries noted h × (cs ≡ clauses_at f h x) × IsStopAfter f h e ForRefutation
IsRefusal f x cs e noted (Spent len) = (h : List Post) × GetsTurn turn_tries noted h × (cs ≡ clauses_at f h x) × IsStopAfter f h e ForBudget
IsRefusal f x cs e noted (Numbers next) = (h : List Post) × GetsTurn turn_tries noted h × (cs ≡ clauses_at f h x) × IsStopAfter f h e ForNumbers
IsRefusal f x cs e noted NoMemory = Unit {0}

-- such a refusal of the entry that the search gives at x, after these turns and posts, is the cause of the answer
abbrev pub IsCauseOf : CommitAnswer → AtAnswer → Type 0
IsCauseOf refusal answer =
    (f : Base) (x : ℕ) (cs : List Named) (e : Entry) (turns last : List Note) (posted : List (ℕ × Post)) → AreFound f x cs posted turns
    → first_in (clauses_after x cs posted) f.rules 1 x ≡ Some e → IsRefusal f x (clauses_after x cs posted) e last refusal → HasCause f x cs (turns ++ last) posted answer

-- after so many tries that met a held lock this was the last one: there are few, and it met one only where none was left
abbrev pub IsEnough : ℕ → Result HoodView HoodAnswer → Type 0
IsEnough held result = (held < hood_tries) × ((var by : ℕ) → result ≡ Err (Busy var by) → held + 1 ≡ hood_tries)

-- where the last try of x was refused thus, the visit comes to the answer
abbrev pub IsLeft : HoodAnswer → AtAnswer → Type 0
IsLeft refusal answer =
    (f : Base) (worker x in_round limit before : ℕ) (held : List (List Note)) (last : List Note) → All (IsHeld x limit before) held → IsTry x limit before last (Err refusal)
    → IsEnough (length held) (Err refusal) → IsVisit f worker x in_round limit before (notes_of held ++ last) [] answer
