-- The steps of a run of `generate`: its formula is simplified, and the summary of that is written.
use Rattle.std.proofs.Common.{◌≡◌, ◌≤◌, ℕ, true, false, List, [], Result, Ok, refl, ap, subst, arith}
use Rattle.std.specs.Result.{is_err}
use Rattle.cp_io.specs.declared.desk.Failed.{Failed}
use Rattle.cp_io.specs.declared.role.Role.TheVariants.{Summary}
use Rattle.cp_io.specs.Port.{Ports, AtRole, Writes}
use Rattle.cp_logic.specs.Formulas.{Formula, IsFormula}
use Rattle.cp_logic.specs.Journals.{folded, number_limit}
use Rattle.cp_logic.specs.Pairs.{pairs_of}
use Rattle.cp_gen.specs.Generated.{generated}
use Rattle.cp_summary.specs.declared.sizes.Sizes.{Sizes}
use Rattle.cp_summary.specs.Text.{sizes_of}
use Rattle.cp_sweep.specs.declared.turns.Swept.{Swept}
use Rattle.cp_sweep.specs.Swept.{IsSwept, IsUnspent}
use Rattle.cp_words.specs.Words.{Generate, generate_options}
use Rattle.cp_roles.specs.Bindings.{BoundSoFar}
use Rattle.cp_roles.specs.Texts.{HaveGrown, HaveStopped}
use Rattle.cp_roles.specs.Commands.{generate_bindings}
use Rattle.cp_top.specs.Commands.{generate_texts, summary_of}
use Rattle.cp_top.specs.Simplified.{IsSimplified}
use Rattle.cp_top.specs.Generation.{all_rules, formula_for, summary_after, SimplifiesGenerated, PrintsSummary, PrintsSummaryFront}
use Rattle.cp_roles.proofs.lemmas.TextsWritten.{none-written, written-on, written-off, grown-since, stopped-since}
use Rattle.cp_top.proofs.Simplifying.{swept-simplified, swept-after}

-- the numbers of a formula that is made are in range
pub numbers-left : (f : Formula) (seed variables clauses : ℕ) → f ≡ generated seed variables clauses → clauses ≤ 8000000 → f.next ≤ number_limit
numbers-left f seed variables clauses is few = rw is (omega arith)

module _ (words : List (List ℕ)) (old p new : Ports) (o : Generate) (taken : generate_options words ≡ Ok o) (bound : BoundSoFar (generate_bindings o) old p)
    (f : Formula) (is : f ≡ formula_for o) (valid : IsFormula f) (sizes : Sizes) (same_sizes : sizes ≡ sizes_of f) (s : Swept)
    (swept : IsSwept f all_rules s.journal.items s.formula.formula s.stopped) (same_pairs : pairs_of s.stack.pairs ≡ (folded f s.journal.items).pairs) (unspent : IsUnspent f all_rules s.stopped)
    (r : Result (Unit {0}) Failed) (w : AtRole Summary (Writes (summary_of sizes s.journal.items (pairs_of s.stack.pairs) s.formula.formula s.stopped) r) p new) where
  simplifies : SimplifiesGenerated words s.journal.items s.stopped
  simplifies = record {
    options = o;
    taken = taken;
    simplified = subst (λ (g : Formula). IsSimplified g all_rules [] s.journal.items s.stopped) is
        (swept-simplified f all_rules [] s.journal.items s.formula.formula s.stopped valid (swept-after f all_rules s.journal.items s.formula.formula s.stopped swept) unspent);
  }

  texts_are : generate_texts sizes s.journal.items (pairs_of s.stack.pairs) s.formula.formula s.stopped ≡ summary_after (formula_for o) s.journal.items s.stopped
  texts_are = rw (same_pairs, swept.folded, same_sizes) (ap (λ (g : Formula). summary_after g s.journal.items s.stopped) is)

  abbrev pub counts : List ℕ
  counts = summary_of sizes s.journal.items (pairs_of s.stack.pairs) s.formula.formula s.stopped

  pub prints-summary : is_err r ≡ false → PrintsSummary words old new s.journal.items s.stopped
  unfolding simplifies
  prints-summary ok = record {
    run = simplifies;
    texts = grown-since (summary_after (formula_for o) s.journal.items s.stopped) old p new bound.rest.held
        (subst (λ ws. HaveGrown ws p new) texts_are (written-on [] Summary counts p p new (none-written p) refl r ok w).grown);
  }

  pub prints-summary-front : is_err r ≡ true → PrintsSummaryFront words old new Summary s.journal.items
  unfolding simplifies
  prints-summary-front failed = record {
    stopped = s.stopped;
    run = simplifies;
    texts = stopped-since (summary_after (formula_for o) s.journal.items s.stopped) Summary old p new bound.rest.held
        (subst (λ ws. HaveStopped ws Summary p new) texts_are (written-off [] Summary counts p p new (none-written p) refl r failed w []).stopped);
  }
