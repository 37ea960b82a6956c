use Rattle.std.proofs.Common.{◌+◌, ◌∙◌, sym, subst, take}
use Rattle.std.proofs.lemmas.Bool.{false≢true, ltb-true}
use Rattle.cp_logic.proofs.Merges.{Rises, Rises-read}
use Rattle.cp_logic.proofs.clauses.rises.Goals as goal
use Rattle.cp_logic.proofs.clauses.rises.Goals.{then-rises, else-rises}

pub loop-lit-preserved : goal.loop-lit-preserved
loop-lit-preserved c =
    elim c.if-rises.branch [
      | then-rises w ↦
          subst (Rises (take (c.loop-lit.lit-index + 1) c.args.lits.now) c.if-rises.rises) (sym w.last-is)
          (Rises-read c.args.lits.now c.loop-lit.lit-index c.lit-item.result c.code-code.result c.loop-lit.last c.loop-lit.rises c.if-rises.rises c.loop-lit.invariant c.loop-lit-test.true c.lit-item.is
          (c.code-code.ensures.low, c.code-code.ensures.high) c.code-code.ensures.value
          (λ e. (w.if-rises.true, ltb-true c.loop-lit.last c.code-code.result (sym w.rises-is ∙ e))))
      | else-rises w ↦
          subst (Rises (take (c.loop-lit.lit-index + 1) c.args.lits.now) c.if-rises.rises) (sym w.last-is)
          (Rises-read c.args.lits.now c.loop-lit.lit-index c.lit-item.result c.code-code.result c.loop-lit.last c.loop-lit.rises c.if-rises.rises c.loop-lit.invariant c.loop-lit-test.true c.lit-item.is
          (c.code-code.ensures.low, c.code-code.ensures.high) c.code-code.ensures.value
          (λ e. absurd (false≢true (sym w.if-rises.false ∙ sym w.rises-is ∙ e))))
    ]
