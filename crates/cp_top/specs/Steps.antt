-- The steps of a run of `simplify`: its roles are bound and its input is read, the formula is simplified, and the texts are written.
use Rattle.std.specs.Prelude.{◌≡◌, ℕ, List, Result, Ok, Err}
use Rattle.cp_io.specs.declared.role.Role.TheVariants.{Cnf}
use Rattle.cp_io.specs.Port.{Ports, AtRole}
use Rattle.cp_logic.specs.declared.settings.Rules.{Rules}
use Rattle.cp_logic.specs.Formulas.{Formula}
use Rattle.cp_logic.specs.Journals.{Post, folded}
use Rattle.cp_logic.specs.Pairs.{pairs_of}
use Rattle.cp_logic.specs.Slots.{Held}
use Rattle.cp_sweep.specs.declared.turns.Swept.{Swept}
use Rattle.cp_sweep.specs.Swept.{IsSweptAfter, IsUnspent}
use Rattle.cp_summary.specs.declared.sizes.Sizes.{Sizes}
use Rattle.cp_words.specs.Words.{Simplify, simplify_options}
use Rattle.cp_top.specs.declared.outcome.Outcome.{Outcome}
use Rattle.cp_top.specs.declared.outcome.Outcome.TheVariants.{Done, Refused}
use Rattle.cp_roles.specs.declared.refusal.Refusal.{Refusal}
use Rattle.cp_roles.specs.declared.refusal.Refusal.TheVariants.{OpenFault, WriteFault}
use Rattle.cp_top.specs.declared.work.Simplified.{Simplified}
use Rattle.cp_roles.specs.Bindings.{BoundSoFar, FailedToBind}
use Rattle.cp_roles.specs.Texts.{Written, WrittenSoFar, FailedToWrite}
use Rattle.cp_roles.specs.Commands.{simplify_bindings}
use Rattle.cp_top.specs.Commands.{simplify_texts}
use Rattle.cp_roles.specs.Input.{ReadsFormula}
use Rattle.cp_top.specs.Status.{status_of}
use Rattle.cp_top.specs.Team.{IsTeamwork}

-- the roles are bound, and Cnf is read; or a bind failed
abbrev pub Begins : Simplify → Result Held Refusal → Ports → Ports → Type 0
Begins o (Err (OpenFault role)) old new = FailedToBind (simplify_bindings o) role old new
Begins o result old new = (bound : Ports) × BoundSoFar (simplify_bindings o) old bound × AtRole Cnf (ReadsFormula result) bound new

-- the words give these options, the roles are bound, and Cnf reads as this formula
abbrev pub HasBegun : List (List ℕ) → Simplify → Held → Ports → Ports → Type 0
HasBegun words o f old new = (simplify_options words ≡ Ok o) × Begins o (Ok f) old new

-- the result of so many workers in so many rounds, with this limit of a neighbourhood, and of the sweep behind them
pub record IsResult (workers rounds limit : ℕ) (f : Formula) (rules : Rules) (s : Simplified) : Type 0 where
  pub worked : List Post
  pub swept : IsSweptAfter f rules worked s.swept.journal.items s.swept.formula.formula s.swept.stopped
  pub team : IsTeamwork workers rounds limit f rules worked s.shifts.items s.kept
  pub pairs : pairs_of s.swept.stack.pairs ≡ (folded f s.swept.journal.items).pairs
  pub variables : s.swept.stack.vars ≡ f.variables
  pub unspent : IsUnspent f rules s.swept.stopped

-- what is written of the result
abbrev pub texts_of : Simplify → Sizes → Swept → List Written
texts_of o sizes s = simplify_texts o.form s.stack.vars sizes s.journal.items (pairs_of s.stack.pairs) s.formula.formula s.stopped

-- the texts are written, and the outcome hands over the result; or a write failed
abbrev pub Finishes : Simplify → Sizes → Simplified → Outcome → Ports → Ports → Type 0
Finishes o sizes s (Done status journal shifts kept stopped) old new =
    WrittenSoFar (texts_of o sizes s.swept) old new × (status ≡ status_of s.swept.formula.formula) × (journal.items ≡ s.swept.journal.items)
    × (shifts.items ≡ s.shifts.items) × (kept ≡ s.kept) × (stopped ≡ s.swept.stopped)
Finishes o sizes s (Refused (WriteFault role journal)) old new =
    FailedToWrite (texts_of o sizes s.swept) role old new × (journal.items ≡ s.swept.journal.items)
Finishes o sizes s outcome old new = ⊥
