-- What one worker posts in one round is a function of the input.
use Rattle.std.specs.Prelude.{◌≡◌, ℕ, Option, List}
use Rattle.cp_logic.specs.declared.settings.Rules.{Rules}
use Rattle.cp_logic.specs.Formulas.{Formula}
use Rattle.cp_logic.specs.Journals.{Post}
use Rattle.cp_worker.specs.declared.lists.WorkerShift.{WorkerShift}
use Rattle.cp_yard.specs.Views.{SeatView}
use Rattle.cp_top.specs.Team.{IsTeamwork}

-- whatever two runs do with one worker and one round, at the same formula with the same rules and limit of a neighbourhood, their workers post the same
abbrev pub PostsTheSame : Type 0
PostsTheSame =
    (limit : ℕ) (f : Formula) (rules : Rules) (worked again : List Post) (shifts more : List WorkerShift) (kept left : Option SeatView)
    → IsTeamwork 1 1 limit f rules worked shifts kept → IsTeamwork 1 1 limit f rules again more left → worked ≡ again

-- with one worker and one round these are the posts, whatever else the worker could have done at the formula with the rules and the limit
abbrev pub AreOnly : ℕ → ℕ → ℕ → Formula → Rules → List Post → Type 0
AreOnly workers rounds limit f rules worked =
    workers ≡ 1 → rounds ≡ 1 → (again : List Post) (shifts : List WorkerShift) (kept : Option SeatView) → IsTeamwork 1 1 limit f rules again shifts kept → worked ≡ again
