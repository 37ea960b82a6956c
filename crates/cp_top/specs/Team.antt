-- What the workers of a run did before its sweep.
use Rattle.std.specs.Prelude.{◌≡◌, ◌⊎◌, ℕ, ◌+◌, ◌≤◌, Option, Some, None, List, []}
use Rattle.cp_logic.specs.declared.settings.Rules.{Rules}
use Rattle.cp_logic.specs.Formulas.{Formula}
use Rattle.cp_logic.specs.Journals.{Post}
use Rattle.cp_yard.specs.Views.{Base, SeatView, all_shares}
use Rattle.cp_yard.specs.Rule.{Account}
use Rattle.cp_worker.specs.declared.lists.WorkerShift.{WorkerShift}
use Rattle.cp_phase.specs.Rounds.{AreShifts}

abbrev pub base_at : Formula → Rules → Base
base_at f rules = record { formula = f; rules = rules }

-- Without a worker or a round there is no post of a worker, no shift and no record. Else the record accounts for what the workers posted and met,
-- and number 0 did nothing; and the shifts, by round and then worker, are what each worker did by that record, with this limit of a neighbourhood.
pub record IsTeamwork (workers rounds limit : ℕ) (f : Formula) (rules : Rules) (worked : List Post) (shifts : List WorkerShift) (kept : Option SeatView) : Type 0 where
  pub alone : (workers ≡ 0) ⊎ (rounds ≡ 0) → (worked ≡ []) × (shifts ≡ []) × (kept ≡ None)
  pub team : 1 ≤ workers → 1 ≤ rounds → (k : SeatView) × (kept ≡ Some k) × AreShifts (base_at f rules) workers rounds limit worked (all_shares k) shifts
  pub account : 1 ≤ workers → 1 ≤ rounds
      → (k : SeatView) × (kept ≡ Some k) × Account (base_at f rules) worked (all_shares k) (workers + 1) × (k.own.number ≡ 0) × (k.own.posts ≡ []) × (k.own.notes ≡ [])
