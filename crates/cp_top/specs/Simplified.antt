-- What it means that a journal simplifies a formula: it is one legal run, which a sweep ends, models go back, and nothing is left to do.
use Rattle.std.specs.Prelude.{◌≡◌, ◌≤◌, ◌↔◌, ℕ, Bool, Option, None, List, ◌++◌, length, IsTrue, IsFalse}
use Rattle.cp_logic.specs.declared.settings.Rules.{Rules}
use Rattle.cp_logic.specs.declared.stop.Stop.{Stop}
use Rattle.cp_logic.specs.Assignments.{satisfies_all, completed, IsSatisfiable}
use Rattle.cp_logic.specs.Formulas.{Formula, clauses_of, has_empty}
use Rattle.cp_logic.specs.Rules.{IsRun}
use Rattle.cp_logic.specs.Entries.{Entry, is_at}
use Rattle.cp_logic.specs.Legality.{is_legal}
use Rattle.cp_logic.specs.Journals.{Post, IsLegalJournal, expansion, folded, start_of}
use Rattle.cp_logic.specs.Sweeps.{IsSweep, stop_of}
use Rattle.cp_drat.specs.Checks.{IsAccepted, IsRupLog}
use Rattle.cp_drat.specs.Log.{has_end, log_of}
use Rattle.cp_sweep.specs.Swept.{IsUnspent}

-- no entry of a chosen technique is legal at any variable
abbrev pub NothingApplies : Formula → Rules → Type 0
NothingApplies f rules = (x : ℕ) (e : Entry) → 1 ≤ x → x ≤ f.variables → IsTrue (is_at x e) → IsTrue (is_legal f rules e) → ⊥

pub record IsSimplified (f : Formula) (rules : Rules) (worked posts : List Post) (stopped : Option Stop) : Type 0 where
  -- each entry is legal where it stands, and together they stand for one run of the rules
  pub legal : IsLegalJournal f rules posts
  pub run : IsRun (start_of f) (expansion posts)
  -- the posts after those of the workers are the sweep of what these leave, all of worker 0 in round 0
  pub sweep : (own : List Post) × (posts ≡ worked ++ own) × IsSweep f rules worked 1 own
  -- every assignment that satisfies what is left, completed by the pairs, satisfies the formula
  pub models : (values : List Bool) → length values ≡ f.variables → IsTrue (satisfies_all values (clauses_of (folded f posts).formula.clauses))
      → IsTrue (satisfies_all (completed values (folded f posts).pairs) (clauses_of f.clauses))
  -- what is left is satisfiable exactly if the formula is
  pub satisfiable : IsSatisfiable f.variables (clauses_of f.clauses) ↔ IsSatisfiable f.variables (clauses_of (folded f posts).formula.clauses)
  -- why the run stopped, and that nothing is left to do where it says None
  pub stop : stopped ≡ stop_of f rules posts
  pub fixpoint : stopped ≡ None → NothingApplies (folded f posts).formula rules
  -- a budget of 0, or of so many commits as are enough, isn't spent
  pub unspent : IsUnspent f rules stopped
  -- each lemma of the log is RUP where it stands, so a checker that starts with the formula accepts the log
  pub rup : IsRupLog (clauses_of f.clauses) (log_of posts)
  pub accepted : IsAccepted (clauses_of f.clauses) (log_of posts)
  -- where the posts lead to the empty clause, which the formula didn't have, so does the log
  pub ended : IsFalse (has_empty f.clauses) → IsTrue (has_empty (folded f posts).formula.clauses) → IsTrue (has_end (log_of posts))
