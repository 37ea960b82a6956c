-- The log of a legal journal is accepted.
use Rattle.std.proofs.Common.{ℕ, Bool, true, false, cond, List, [], ◌∷◌, ◌++◌, map, sym, subst, inl, inr, arith}
use Rattle.std.proofs.lemmas.List.{map-append}
use Rattle.std.proofs.lemmas.List.Elements.{Contains-append_cases}
use Rattle.cp_logic.specs.declared.named.Named.{Named}
use Rattle.cp_logic.specs.Clauses.{IsAscending}
use Rattle.cp_logic.specs.Formulas.{IsFormula, clauses_of}
use Rattle.cp_logic.specs.Rules.{Rule, Add, Drop, Weaken, State, applied, IsRun}
use Rattle.cp_logic.specs.Journals.{expansion, start_of}
use Rattle.cp_logic.proofs.Members.{none_in, of_map, in_cases}
use Rattle.cp_logic.proofs.FormulaFacts.{IsFormula-applied}
use Rattle.cp_logic.proofs.Expansions.{ascending_at}
use Rattle.cp_logic.proofs.Eliminations.{rup-larger}
use Rattle.cp_logic.proofs.JournalRuns.{journal-run}
use Rattle.cp_drat.specs.Log.{Item, Lemma, Deletion, item_of, is_end, cut, log_of}
use Rattle.cp_drat.specs.Checks.{without_one, clauses_after, IsRupLog, IsAccepted, LemmasAreRup, LogIsAccepted}
use Rattle.cp_drat.proofs.Counts.{Covers, AreAscending, covers-in, Covers-push, Covers-without, of_without_one}
use Rattle.cp_drat.proofs.RupAdditions.{AdditionsAreRup, journal-rup}

AreAscending-push : (cs : List (List ℕ)) (c : List ℕ) → AreAscending cs → IsAscending c → AreAscending (cs ++ c ∷ [])
AreAscending-push cs c a b d i = elim (Contains-append_cases cs (c ∷ []) d i) [
  | inl j ↦ a d j
  | inr j ↦ elim (in_cases d c [] j) [
    | inl e ↦ subst IsAscending e b
    | inr k ↦ absurd (none_in d k)
  ]
]

-- the log of a run whose additions are RUP, by a checker that holds at least the clauses of the run
run-rup : (s : State) (rs : List Rule) (cs : List (List ℕ)) → IsFormula s.formula → IsRun s rs → AdditionsAreRup s rs → AreAscending cs → Covers (clauses_of s.formula.clauses) cs
    → IsRupLog cs (map item_of rs)
run-rup s [] cs v run rup a h = tt
run-rup s (Add c ∷ rs) cs v run rup a h = (
  rup-larger (clauses_of s.formula.clauses) cs c.clause (covers-in (clauses_of s.formula.clauses) cs h) rup.0,
  run-rup (applied s (Add c)) rs (cs ++ c.clause ∷ []) (IsFormula-applied s (Add c) v run.0) run.1 rup.1 (AreAscending-push cs c.clause a run.0.1)
      (subst (λ ks. Covers ks (cs ++ c.clause ∷ [])) (sym (map-append (λ (d : Named). d.clause) s.formula.clauses (c ∷ []))) (Covers-push (clauses_of s.formula.clauses) cs c.clause h)),
)
run-rup s (Drop c ∷ rs) cs v run rup a h = (
  tt,
  run-rup (applied s (Drop c)) rs (without_one cs c.clause) (IsFormula-applied s (Drop c) v run.0) run.1 rup.1 (λ d i. a d (of_without_one cs c.clause d i))
      (Covers-without s.formula.clauses cs c run.0.0 (ascending_at s.formula c v run.0.0) a h),
)
run-rup s (Weaken c l ∷ rs) cs v run rup a h = (
  tt,
  run-rup (applied s (Weaken c l)) rs (without_one cs c.clause) (IsFormula-applied s (Weaken c l) v run.0) run.1 rup.1 (λ d i. a d (of_without_one cs c.clause d i))
      (Covers-without s.formula.clauses cs c run.0.0 (ascending_at s.formula c v run.0.0) a h),
)

-- what stands before the end of a log
cut-rup : (cs : List (List ℕ)) (is : List Item) → IsRupLog cs is → IsRupLog cs (cut is)
cut-rup cs [] h = tt
cut-rup cs (i ∷ is) h = (h.0, go (is_end i) (cut-rup (clauses_after cs i) is h.1))
  where
    go : (b : Bool) → IsRupLog (clauses_after cs i) (cut is) → IsRupLog (clauses_after cs i) (cond b [] (cut is))
    go true k = tt
    go false k = k

pub lemmas-rup : LemmasAreRup
lemmas-rup f rules posts v legal =
    cut-rup (clauses_of f.clauses) (map item_of (expansion posts))
    (run-rup (start_of f) (expansion posts) (clauses_of f.clauses) v (journal-run f rules posts v legal) (journal-rup f rules posts v legal)
    (λ c i. let d = of_map (λ (k : Named). k.clause) f.clauses c i in subst IsAscending d.2 (ascending_at f d.0 v d.1)) (λ d. omega arith))

rup-accepted : (cs : List (List ℕ)) (is : List Item) → IsRupLog cs is → IsAccepted cs is
rup-accepted cs [] h = tt
rup-accepted cs (Lemma c ∷ is) h = (inl h.0, rup-accepted (cs ++ c ∷ []) is h.1)
rup-accepted cs (Deletion c ∷ is) h = (tt, rup-accepted (without_one cs c) is h.1)

pub log-accepted : LogIsAccepted
log-accepted f rules posts v legal = rup-accepted (clauses_of f.clauses) (log_of posts) (lemmas-rup f rules posts v legal)
