-- A journal that is the sweep's from a formula simplifies it.
use Rattle.std.proofs.Common.{◌≡◌, ℕ, ◌≤◌, Bool, true, false, cond, Option, Some, None, is_some, List, [], refl, sym, ◌∙◌, arith}
use Rattle.std.specs.List.{list_any, range_with_len}
use Rattle.std.proofs.lemmas.Bool.{and_parts}
use Rattle.cp_logic.specs.declared.settings.Rules.{Rules}
use Rattle.cp_logic.specs.declared.stop.Stop.{Stop}
use Rattle.cp_logic.specs.declared.stop.Stop.TheVariants.{Spent, Numbers, Refuted}
use Rattle.cp_logic.specs.Formulas.{Formula, IsFormula, has_empty}
use Rattle.cp_logic.specs.Entries.{Entry, Taut, Subsume, Strengthen, Block, Eliminate, Look, is_at}
use Rattle.cp_logic.specs.Legality.{applies, first, first_in, is_legal, is_legal_in}
use Rattle.cp_logic.specs.Journals.{Post, commits, folded}
use Rattle.cp_logic.specs.Sweeps.{is_applicable, is_spent, stop_of}
use Rattle.cp_logic.proofs.Members.{any_from}
use Rattle.cp_logic.proofs.Totals.{in_range}
use Rattle.cp_logic.proofs.Complete.{nothing-missed}
use Rattle.cp_logic.proofs.JournalRuns.{journal-run, journal-satisfiable, journal-completed}
use Rattle.cp_top.specs.Simplified.{IsSimplified, NothingApplies}
use Rattle.cp_sweep.specs.Swept.{IsSwept, IsSweptAfter, IsUnspent}
use Rattle.cp_drat.proofs.Accepted.{lemmas-rup, log-accepted}
use Rattle.cp_drat.proofs.Ends.{log-end}

-- the three tests of a stop, where it says None
tests_of_none : (empty spent applicable : Bool)
    → cond empty (Some Refuted) (cond spent (Some Spent) (cond applicable (Some Numbers) None)) ≡ None → (empty ≡ false) × (applicable ≡ false)
tests_of_none true spent applicable h = cc
tests_of_none false true applicable h = cc
tests_of_none false false true h = cc
tests_of_none false false false h = (refl, refl)

-- an entry at a variable that is legal applies
legal-applies : (f : Formula) (rules : Rules) (x : ℕ) (e : Entry) → is_at x e ≡ true → is_legal f rules e ≡ true → applies f.clauses rules e ≡ true
unfolding is_legal is_legal_in
legal-applies f rules x (Taut gone) at h = (and_parts _ _ h).1
legal-applies f rules x (Subsume by gone) at h = (and_parts _ _ h).1
legal-applies f rules x (Strengthen by on l new) at h = (and_parts _ _ h).1
legal-applies f rules x (Block gone l) at h = (and_parts _ _ h).1
legal-applies f rules x (Eliminate y pos neg new) at h = (and_parts _ _ h).1
legal-applies f rules x (Look y) at h = cc

none_at : (o : Option Entry) → is_some o ≡ false → o ≡ None
none_at None h = refl
none_at (Some e) h = cc

first-none : (f : Formula) (rules : Rules) (x : ℕ) → has_empty f.clauses ≡ false → first f rules x ≡ None → first_in f.clauses rules f.next x ≡ None
unfolding first
first-none f rules x h e = rw h at e

not_applicable : (f : Formula) (rules : Rules) (x : ℕ) → list_any (is_applicable f rules) (range_with_len 1 f.variables) ≡ false → 1 ≤ x → x ≤ f.variables → is_applicable f rules x ≡ false
not_applicable f rules x none low high = go (is_applicable f rules x) refl
  where
    go : (b : Bool) → is_applicable f rules x ≡ b → is_applicable f rules x ≡ false
    go false e = e
    go true e = let found = any_from (is_applicable f rules) (range_with_len 1 f.variables) x (in_range f.variables 1 x low (omega arith)) e in cc

-- where no variable is applicable, nothing applies
nothing-applies : (f : Formula) (rules : Rules) → has_empty f.clauses ≡ false → list_any (is_applicable f rules) (range_with_len 1 f.variables) ≡ false → NothingApplies f rules
nothing-applies f rules full none x e low high at legal =
    let nothing = none_at (first f rules x) (not_applicable f rules x none low high) in
    (nothing-missed f.clauses rules f.next x).1 (first-none f rules x full nothing) e at (legal-applies f rules x e at legal)

-- where the stop is None, nothing is left to do
pub stop-fixpoint : (f : Formula) (rules : Rules) (posts : List Post) → stop_of f rules posts ≡ None → NothingApplies (folded f posts).formula rules
stop-fixpoint f rules posts h =
    let now = (folded f posts).formula in
    let tests = tests_of_none (has_empty now.clauses) (is_spent rules (commits posts)) (list_any (is_applicable now rules) (range_with_len 1 now.variables)) h in
    nothing-applies now rules tests.0 tests.1

-- a journal that ends with the sweep of what the first posts leave
pub swept-simplified : (f : Formula) (rules : Rules) (worked posts : List Post) (left : Formula) (stopped : Option Stop) → IsFormula f → IsSweptAfter f rules worked posts left stopped → IsUnspent f rules stopped
    → IsSimplified f rules worked posts stopped
swept-simplified f rules worked posts left stopped v s unspent = record {
  legal = s.legal;
  run = journal-run f rules posts v s.legal;
  sweep = s.swept;
  models = λ values n m. journal-completed f rules posts values v s.legal (omega (arith, n)) m;
  satisfiable = journal-satisfiable f rules posts v s.legal;
  stop = s.stop;
  fixpoint = λ none. stop-fixpoint f rules posts (sym s.stop ∙ none);
  unspent = unspent;
  rup = lemmas-rup f rules posts v s.legal;
  accepted = log-accepted f rules posts v s.legal;
  ended = log-end f posts;
}

-- the sweep from the start is the sweep after no posts
pub swept-after : (f : Formula) (rules : Rules) (posts : List Post) (left : Formula) (stopped : Option Stop) → IsSwept f rules posts left stopped → IsSweptAfter f rules [] posts left stopped
swept-after f rules posts left stopped s = record { legal = s.legal; swept = (posts, refl, s.swept); stop = s.stop; folded = s.folded }
