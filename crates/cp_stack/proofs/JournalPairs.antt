-- The pairs of a legal journal have the form that a stack's text keeps.
use Rattle.std.proofs.Common.{zero, suc, List, [], ◌∷◌, subst, sym, arith}
use Rattle.std.specs.List.{All}
use Rattle.std.proofs.lemmas.List.Elements.{All-contains, All-append}
use Rattle.cp_logic.specs.declared.named.Named.{Named}
use Rattle.cp_logic.specs.Clauses.{IsAscending}
use Rattle.cp_logic.specs.Formulas.{IsFormula}
use Rattle.cp_logic.specs.Rules.{Rule, Add, Drop, Weaken, State, applied, state_after, IsAllowed, IsRun}
use Rattle.cp_logic.specs.Journals.{folded, start_of, expansion}
use Rattle.cp_logic.proofs.Expansions.{within_at}
use Rattle.cp_logic.proofs.FormulaFacts.{IsFormula-applied}
use Rattle.cp_logic.proofs.Runs.{variables-applied}
use Rattle.cp_logic.proofs.JournalRuns.{journal-run}
use Rattle.cp_stack.specs.Laws.{IsPair, JournalMakesPairs, ReadsJournalStack}
use Rattle.cp_stack.proofs.PrintedReads.{stack-read}

-- a rule adds such pairs alone
pairs-step : (s : State) (r : Rule) → IsFormula s.formula → IsAllowed s.formula r → All (IsPair s.formula.variables) s.pairs → All (IsPair s.formula.variables) (applied s r).pairs
pairs-step s (Add c) v h are = are
pairs-step s (Drop c) v h are = are
pairs-step s (Weaken c l) v h are = All-append (IsPair s.formula.variables) s.pairs (record { literal = l; clause = c.clause } ∷ []) are one
  where
    new : IsPair s.formula.variables (record { literal = l; clause = c.clause })
    new = record { literal = h.1.has; ascending = All-contains (λ (d : Named). IsAscending d.clause) s.formula.clauses c v.sets h.0; within = within_at s.formula c v h.0 }

    one : All (IsPair s.formula.variables) (record { literal = l; clause = c.clause } ∷ [])
    one zero d low = new
    one (suc k) d low = absurd (omega arith)

pairs-run : (s : State) (rs : List Rule) → IsFormula s.formula → IsRun s rs → All (IsPair s.formula.variables) s.pairs → All (IsPair s.formula.variables) (state_after s rs).pairs
pairs-run s [] v h are = are
pairs-run s (r ∷ rs) v h are =
    subst (λ n. All (IsPair n) (state_after (applied s r) rs).pairs) (variables-applied s r)
    (pairs-run (applied s r) rs (IsFormula-applied s r v h.0) h.1 (subst (λ n. All (IsPair n) (applied s r).pairs) (sym (variables-applied s r)) (pairs-step s r v h.0 are)))

pub journal-pairs : JournalMakesPairs
unfolding folded
journal-pairs f rules posts v legal = pairs-run (start_of f) (expansion posts) v (journal-run f rules posts v legal) (λ k d low. absurd (omega arith))

pub journal_stack-read : ReadsJournalStack
journal_stack-read limits f rules posts small bytes v legal within short =
    stack-read limits f.variables (folded f posts).pairs small bytes (journal-pairs f rules posts v legal) within short
