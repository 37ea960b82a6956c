-- The steps of a run of `simplify`: its roles are bound, its input is read, and its texts are written.
use Rattle.std.proofs.Common.{◌≡◌, ℕ, true, false, List, [], ◌∷◌, Option, Some, Result, Ok, refl, sym, ◌∙◌, ap, subst}
use Rattle.std.specs.Prelude.{IfSome}
use Rattle.std.specs.Result.{is_err}
use Rattle.cp_io.specs.declared.desk.Failed.{Failed}
use Rattle.cp_io.specs.declared.role.Role.{Role}
use Rattle.cp_io.specs.declared.role.Role.TheVariants.{Cnf, Reduced, Stack, Proof, Model, Full, Summary, Frozen}
use Rattle.cp_io.specs.declared.role.Way.TheVariants.{Out}
use Rattle.cp_io.specs.Port.{Port, Ports, AtRole, Writes, Rose}
use Rattle.cp_io.proofs.RoleCases.{kept}
use Rattle.cp_logic.specs.declared.settings.Form.{Form}
use Rattle.cp_logic.specs.declared.stop.Stop.{Stop}
use Rattle.cp_logic.specs.Assignments.{Pair}
use Rattle.cp_logic.specs.Formulas.{Formula}
use Rattle.cp_logic.specs.Journals.{Post, folded}
use Rattle.cp_logic.specs.Pairs.{pairs_of}
use Rattle.cp_logic.specs.Slots.{Held}
use Rattle.cp_dimacs.specs.Cnf.{cnf_text}
use Rattle.cp_drat.specs.Log.{log_of}
use Rattle.cp_drat.specs.Text.{log_text}
use Rattle.cp_stack.specs.Text.{stack_text}
use Rattle.cp_summary.specs.declared.sizes.Sizes.{Sizes}
use Rattle.cp_summary.specs.Text.{sizes_of}
use Rattle.cp_words.specs.Words.{Simplify, simplify_options}
use Rattle.cp_top.specs.declared.outcome.Outcome.{Outcome}
use Rattle.cp_top.specs.declared.outcome.Outcome.TheVariants.{Done, Extended, Generated, Refused}
use Rattle.cp_roles.specs.declared.refusal.Refusal.{Refusal}
use Rattle.cp_roles.specs.declared.refusal.Refusal.TheVariants.{Usage, OpenFault, ReadFault, TooLarge, BadInput, BadStack, BadModel, NoModel, WriteFault, NoMemory}
use Rattle.cp_top.specs.declared.work.Simplified.{Simplified}
use Rattle.cp_top.specs.Status.{status_of}
use Rattle.cp_roles.specs.Bindings.{binding_of, way_of, JustBound, BoundSoFar}
use Rattle.cp_roles.specs.Texts.{Written, write, is_written, NothingGrew, HaveGrown, HaveStopped, OnlyWrites, WrittenSoFar, FailedToWrite}
use Rattle.cp_roles.specs.Commands.{simplify_bindings}
use Rattle.cp_top.specs.Commands.{simplify_texts, summary_of}
use Rattle.cp_roles.specs.Input.{FormulaReads, ReadsFormula}
use Rattle.cp_top.specs.Run.{HasCause, IsWritten, AreBound, SimplifiesInput, PrintsResult, PrintsFront, WriteFailed, texts_after}
use Rattle.cp_top.specs.Steps.{Begins, Finishes, IsResult, texts_of}
use Rattle.cp_roles.proofs.lemmas.TextsWritten.{none-written, written-on, written-off, grown-since, stopped-since}
use Rattle.cp_top.proofs.OneWorker.{only_posts}
use Rattle.cp_top.proofs.Simplifying.{swept-simplified}

-- the texts, one after the other
module _ (form : Form) (variables : ℕ) (sizes : Sizes) (posts : List Post) (pairs : List Pair) (left : Formula) (stopped : Option Stop) where
  abbrev pub log-text : List ℕ
  log-text = log_text form (log_of posts)

  abbrev pub stack-text' : List ℕ
  stack-text' = stack_text variables pairs

  abbrev pub left-text : List ℕ
  left-text = cnf_text left

  abbrev pub counts-text : List ℕ
  counts-text = summary_of sizes posts pairs left stopped

  abbrev pub texts : List Written
  texts = simplify_texts form variables sizes posts pairs left stopped

  module _ (old p1 : Ports) (r1 : Result (Unit {0}) Failed) (w1 : AtRole Proof (Writes log-text r1) old p1) where
    pub proof-off : is_err r1 ≡ true → FailedToWrite texts Proof old p1
    proof-off failed = written-off [] Proof log-text old old p1 (none-written old) refl r1 failed w1 (write Stack stack-text' ∷ (write Reduced left-text ∷ (write Summary counts-text ∷ [])))

    module _ (ok1 : is_err r1 ≡ false) (p2 : Ports) (r2 : Result (Unit {0}) Failed) (w2 : AtRole Stack (Writes stack-text' r2) p1 p2) where
      first : WrittenSoFar (write Proof log-text ∷ []) old p1
      first = written-on [] Proof log-text old old p1 (none-written old) refl r1 ok1 w1

      pub stack-off : is_err r2 ≡ true → FailedToWrite texts Stack old p2
      stack-off failed = written-off (write Proof log-text ∷ []) Stack stack-text' old p1 p2 first refl r2 failed w2 (write Reduced left-text ∷ (write Summary counts-text ∷ []))

      module _ (ok2 : is_err r2 ≡ false) (p3 : Ports) (r3 : Result (Unit {0}) Failed) (w3 : AtRole Reduced (Writes left-text r3) p2 p3) where
        second : WrittenSoFar (write Proof log-text ∷ (write Stack stack-text' ∷ [])) old p2
        second = written-on (write Proof log-text ∷ []) Stack stack-text' old p1 p2 first refl r2 ok2 w2

        pub reduced-off : is_err r3 ≡ true → FailedToWrite texts Reduced old p3
        reduced-off failed = written-off (write Proof log-text ∷ (write Stack stack-text' ∷ [])) Reduced left-text old p2 p3 second refl r3 failed w3 (write Summary counts-text ∷ [])

        module _ (ok3 : is_err r3 ≡ false) (new : Ports) (r4 : Result (Unit {0}) Failed) (w4 : AtRole Summary (Writes counts-text r4) p3 new) where
          third : WrittenSoFar (write Proof log-text ∷ (write Stack stack-text' ∷ (write Reduced left-text ∷ []))) old p3
          third = written-on (write Proof log-text ∷ (write Stack stack-text' ∷ [])) Reduced left-text old p2 p3 second refl r3 ok3 w3

          pub summary-off : is_err r4 ≡ true → FailedToWrite texts Summary old new
          summary-off failed = written-off (write Proof log-text ∷ (write Stack stack-text' ∷ (write Reduced left-text ∷ []))) Summary counts-text old p3 new third refl r4 failed w4 []

          pub all-written : is_err r4 ≡ false → WrittenSoFar texts old new
          all-written ok4 = written-on (write Proof log-text ∷ (write Stack stack-text' ∷ (write Reduced left-text ∷ []))) Summary counts-text old p3 new third refl r4 ok4 w4

-- what is written is bound to be written
written-out : (o : Simplify) (sizes : Sizes) (s : Simplified) (role : Role) → is_written (texts_of o sizes s.swept) role ≡ true → way_of (simplify_bindings o) role ≡ Some Out
written-out o sizes s Cnf e = cc
written-out o sizes s Reduced e = refl
written-out o sizes s Stack e = refl
written-out o sizes s Proof e = refl
written-out o sizes s Model e = cc
written-out o sizes s Full e = cc
written-out o sizes s Summary e = refl
written-out o sizes s Frozen e = cc

-- the roles are bound, and Cnf is read, whatever it says
module _ (o : Simplify) (old bound p : Ports) (answer : Result Held Refusal) (b : BoundSoFar (simplify_bindings o) old bound) (r : AtRole Cnf (ReadsFormula answer) bound p) where
  pub still-bound : JustBound (simplify_bindings o) p
  still-bound = record {
    ways = λ role. kept (λ (q : Port). q.way) (ReadsFormula answer) r (λ h. ap (λ (q : Port). q.way) h.only.rest) role ∙ b.bound.ways role;
    names = λ role. subst (λ n. IfSome n (λ told. IfSome (binding_of (simplify_bindings o) role) (λ b'. told ≡ b'.name)))
        (sym (kept (λ (q : Port). q.name) (ReadsFormula answer) r (λ h. ap (λ (q : Port). q.name) h.only.rest) role)) (b.bound.names role);
  }

  pub nothing-grew : NothingGrew old p
  nothing-grew role = kept (λ (q : Port). q.held) (ReadsFormula answer) r (λ h. ap (λ (q : Port). q.held) h.only.rest) role ∙ b.rest.held role

  pub same-faults : (role : Role) → (p role).write_faults ≡ (old role).write_faults
  same-faults role = kept (λ (q : Port). q.write_faults) (ReadsFormula answer) r (λ h. ap (λ (q : Port). q.write_faults) h.only.rest) role ∙ b.rest.write_faults role

-- From the words to the texts: the words give options, the roles are bound, Cnf reads as a formula, and this is the result.
module _ (workers : Simplify → ℕ) (words : List (List ℕ)) (old p new : Ports) (o : Simplify) (taken : simplify_options words ≡ Ok o)
    (f : Held) (begun : Begins o (Ok f) old p) (sizes : Sizes) (same_sizes : sizes ≡ sizes_of f.formula)
    (s : Simplified) (is : IsResult (workers o) o.opts.rounds o.opts.hood f.formula o.opts.rules s) where
  abbrev pub posts : List Post
  posts = s.swept.journal.items

  read : AtRole Cnf (ReadsFormula (Ok f)) begun.0 p
  read = begun.2

  simplifies : SimplifiesInput workers words old posts s.shifts.items s.kept s.swept.stopped
  simplifies = record {
    options = o;
    taken = taken;
    formula = f.formula;
    input = subst (λ (left : Option (List ℕ)). FormulaReads left (Ok f.formula)) (begun.1.rest.left Cnf) read.here.answer.says;
    valid = read.here.answer.valid;
    worked = is.worked;
    simplified = swept-simplified f.formula o.opts.rules is.worked posts s.swept.formula.formula s.swept.stopped read.here.answer.valid is.swept is.unspent;
    team = is.team;
    only = only_posts (workers o) o.opts.rounds o.opts.hood f.formula o.opts.rules is.worked s.shifts.items s.kept is.team;
  }

  texts_are : texts_of o sizes s.swept ≡ texts_after o.form f.formula posts s.swept.stopped
  texts_are =
      ap (λ n. simplify_texts o.form n sizes posts (pairs_of s.swept.stack.pairs) s.swept.formula.formula s.swept.stopped) is.variables
      ∙ ap (λ z. simplify_texts o.form f.formula.variables z posts (pairs_of s.swept.stack.pairs) s.swept.formula.formula s.swept.stopped) same_sizes
      ∙ ap (λ ps. simplify_texts o.form f.formula.variables (sizes_of f.formula) posts ps s.swept.formula.formula s.swept.stopped) is.pairs
      ∙ ap (λ left. simplify_texts o.form f.formula.variables (sizes_of f.formula) posts (folded f.formula posts).pairs left s.swept.stopped) is.swept.folded

  held_before : NothingGrew old p
  held_before = nothing-grew o old begun.0 p (Ok f) begun.1 read

  prints-result : WrittenSoFar (texts_of o sizes s.swept) p new → PrintsResult workers words old new (status_of s.swept.formula.formula) posts s.shifts.items s.kept s.swept.stopped
  unfolding simplifies
  prints-result w = record {
    run = simplifies;
    texts = grown-since (texts_after o.form f.formula posts s.swept.stopped) old p new held_before (subst (λ ws. HaveGrown ws p new) texts_are w.grown);
    status_is = ap status_of is.swept.folded;
  }

  prints-front : (role : Role) → FailedToWrite (texts_of o sizes s.swept) role p new → PrintsFront workers words old new role posts
  unfolding simplifies
  prints-front role w = record {
    shifts = s.shifts.items;
    kept = s.kept;
    stopped = s.swept.stopped;
    run = simplifies;
    texts = stopped-since (texts_after o.form f.formula posts s.swept.stopped) role old p new held_before (subst (λ ws. HaveStopped ws role p new) texts_are w.stopped);
  }

  pub finished-written : (outcome : Outcome) → Finishes o sizes s outcome p new → IsWritten workers words old new outcome
  finished-written (Done status journal shifts record' stopped) h =
      rw (h.1, h.2, h.3, h.4, h.5) (prints-result h.0)
  finished-written (Refused (WriteFault role journal)) h = rw h.1 (prints-front role h.0)
  finished-written Extended h = absurd h
  finished-written (Generated journal stopped) h = absurd h
  finished-written (Refused (Usage kind)) h = absurd h
  finished-written (Refused (OpenFault role)) h = absurd h
  finished-written (Refused (ReadFault role)) h = absurd h
  finished-written (Refused (TooLarge role limit offset)) h = absurd h
  finished-written (Refused (BadInput offset kind)) h = absurd h
  finished-written (Refused (BadStack offset kind)) h = absurd h
  finished-written (Refused (BadModel offset kind)) h = absurd h
  finished-written (Refused NoModel) h = absurd h
  finished-written (Refused NoMemory) h = absurd h

  write-cause : (role : Role) → FailedToWrite (texts_of o sizes s.swept) role p new → WriteFailed (simplify_bindings o) role old new
  write-cause role w = (
    written-out o sizes s role w.listed,
    subst (λ n. Rose n (new role).write_faults) (same-faults o old begun.0 p (Ok f) begun.1 read role) w.rose,
  )

  pub finished-cause : (outcome : Outcome) → Finishes o sizes s outcome p new → HasCause words old new outcome
  finished-cause (Done status journal shifts record' stopped) h = rw taken refl
  finished-cause (Refused (WriteFault role journal)) h = (o, taken, write-cause role h.0)
  finished-cause Extended h = absurd h
  finished-cause (Generated journal stopped) h = absurd h
  finished-cause (Refused (Usage kind)) h = absurd h
  finished-cause (Refused (OpenFault role)) h = absurd h
  finished-cause (Refused (ReadFault role)) h = absurd h
  finished-cause (Refused (TooLarge role limit offset)) h = absurd h
  finished-cause (Refused (BadInput offset kind)) h = absurd h
  finished-cause (Refused (BadStack offset kind)) h = absurd h
  finished-cause (Refused (BadModel offset kind)) h = absurd h
  finished-cause (Refused NoModel) h = absurd h
  finished-cause (Refused NoMemory) h = absurd h

  -- what was written leaves the roles bound
  module _ (w : OnlyWrites p new) where
    bound-after : JustBound (simplify_bindings o) new
    bound-after =
        let b = still-bound o old begun.0 p (Ok f) begun.1 read in
        record {
          ways = λ role. w.way role ∙ b.ways role;
          names = λ role. subst (λ n. IfSome n (λ told. IfSome (binding_of (simplify_bindings o) role) (λ b'. told ≡ b'.name))) (sym (w.name role)) (b.names role);
        }

  pub finished-bound : (outcome : Outcome) → Finishes o sizes s outcome p new → AreBound (simplify_options words) simplify_bindings new outcome
  finished-bound (Done status journal shifts record' stopped) h = (o, taken, bound-after h.0.rest)
  finished-bound (Refused (WriteFault role journal)) h = (o, taken, bound-after h.0.rest)
  finished-bound Extended h = absurd h
  finished-bound (Generated journal stopped) h = absurd h
  finished-bound (Refused (Usage kind)) h = absurd h
  finished-bound (Refused (OpenFault role)) h = absurd h
  finished-bound (Refused (ReadFault role)) h = absurd h
  finished-bound (Refused (TooLarge role limit offset)) h = absurd h
  finished-bound (Refused (BadInput offset kind)) h = absurd h
  finished-bound (Refused (BadStack offset kind)) h = absurd h
  finished-bound (Refused (BadModel offset kind)) h = absurd h
  finished-bound (Refused NoModel) h = absurd h
  finished-bound (Refused NoMemory) h = absurd h
