use Rattle.std.proofs.Common.{◌≤◌, ◌+◌, ◌++◌, [], ◌∷◌, ◌∙◌, take, drop, sym, ap, subst}
use Rattle.cp_logic.specs.Clauses.{is_tautology, IsAscending}
use Rattle.cp_logic.proofs.Tautologies.{Apart, Apart-push, tautology-at}
use Rattle.cp_logic.proofs.Merges.{take-read, take-below, split-read}
use Rattle.cp_logic.proofs.clauses.Clause.is_tautology.Goals as goal

pub returns-then-var-last : goal.returns-then-var-last
returns-then-var-last c =
    sym (tautology-at (take c.loop-lit.lit-index c.lits-lit-items.result.now) (drop (c.loop-lit.lit-index + 1) c.lits-lit-items.result.now) c.loop-lit.last c.lit-item.result c.loop-lit.invariant
    (take-below c.lits-lit-items.result.now c.loop-lit.lit-index c.lit-item.result (subst IsAscending (sym c.lits-lit-items.ensures.value) c.lits-lit-items.ensures.ascending) c.loop-lit-test.true c.lit-item.is)
    (subst (λ v. 1 ≤ v) c.var-var.ensures.value c.var-var.ensures.low) (sym c.var-var.ensures.value ∙ c.if-var-last.true))
    ∙ ap is_tautology (split-read c.lits-lit-items.result.now c.loop-lit.lit-index c.lit-item.result c.loop-lit-test.true c.lit-item.is ∙ c.lits-lit-items.ensures.value)

pub loop-lit-preserved : goal.loop-lit-preserved
loop-lit-preserved c =
    let next = Apart-push (take c.loop-lit.lit-index c.lits-lit-items.result.now) c.loop-lit.last c.lit-item.result c.loop-lit.invariant
    (take-below c.lits-lit-items.result.now c.loop-lit.lit-index c.lit-item.result (subst IsAscending (sym c.lits-lit-items.ensures.value) c.lits-lit-items.ensures.ascending) c.loop-lit-test.true c.lit-item.is)
    (λ e. c.if-var-last.false (c.var-var.ensures.value ∙ e)) in
    subst (λ xs. Apart xs c.var-var.result) (sym (take-read c.lits-lit-items.result.now c.loop-lit.lit-index c.lit-item.result c.loop-lit-test.true c.lit-item.is))
    (subst (Apart (take c.loop-lit.lit-index c.lits-lit-items.result.now ++ c.lit-item.result ∷ [])) (sym c.var-var.ensures.value) next)
