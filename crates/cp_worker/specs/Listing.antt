-- What a shift lists of one visit.
use Rattle.std.specs.Prelude.{◌≡◌, ℕ, Option, Some, None, List, [], ◌∷◌, ◌++◌}
use Rattle.cp_logic.specs.declared.stop.Stop.{Stop}
use Rattle.cp_worker.specs.declared.answer.AtAnswer.{AtAnswer}
use Rattle.cp_worker.specs.declared.answer.AtAnswer.TheVariants.{Settled, Busy, Wide, TurnHeld, Stopped}
use Rattle.cp_worker.specs.declared.lists.BusyAt.{BusyAt}
use Rattle.cp_worker.specs.declared.lists.LateAt.{LateAt}
use Rattle.cp_worker.specs.declared.lists.WideAt.{WideAt}
use Rattle.cp_worker.specs.declared.lists.WorkerShift.{WorkerShift}
use Rattle.cp_worker.specs.Visits.{commits_of}

-- the candidate in the list of its cause
abbrev pub busy_of : ℕ → AtAnswer → List BusyAt
busy_of x (Settled commits) = []
busy_of x (Busy var by) = record { at = x; var = var; by = by } ∷ []
busy_of x (Wide count) = []
busy_of x (TurnHeld by commits) = []
busy_of x (Stopped stop commits) = []

abbrev pub late_of : ℕ → AtAnswer → List LateAt
late_of x (Settled commits) = []
late_of x (Busy var by) = []
late_of x (Wide count) = []
late_of x (TurnHeld by commits) = record { at = x; by = by } ∷ []
late_of x (Stopped stop commits) = []

abbrev pub wide_of : ℕ → AtAnswer → List WideAt
wide_of x (Settled commits) = []
wide_of x (Busy var by) = []
wide_of x (Wide count) = record { at = x; count = count } ∷ []
wide_of x (TurnHeld by commits) = []
wide_of x (Stopped stop commits) = []

-- why the run stopped, if the visit found that it has
abbrev pub stop_of : AtAnswer → Option Stop
stop_of (Settled commits) = None
stop_of (Busy var by) = None
stop_of (Wide count) = None
stop_of (TurnHeld by commits) = None
stop_of (Stopped stop commits) = Some stop

-- why the run stopped, if the visit found that it has, and else what was known before
abbrev pub stopped_after : AtAnswer → Option Stop → Option Stop
stopped_after (Settled commits) before = before
stopped_after (Busy var by) before = before
stopped_after (Wide count) before = before
stopped_after (TurnHeld by commits) before = before
stopped_after (Stopped stop commits) before = Some stop

-- the visit of the candidate is listed
pub record IsListing (x : ℕ) (answer : AtAnswer) (old new : WorkerShift) : Type 0 where
  pub worker : new.worker ≡ old.worker
  pub round : new.round ≡ old.round
  pub taken : new.taken.items ≡ old.taken.items ++ x ∷ []
  pub commits : new.commits.items ≡ old.commits.items ++ commits_of answer
  pub busy : new.busy.items ≡ old.busy.items ++ busy_of x answer
  pub late : new.late.items ≡ old.late.items ++ late_of x answer
  pub wide : new.wide.items ≡ old.wide.items ++ wide_of x answer
  pub stopped : new.stopped ≡ stopped_after answer old.stopped
