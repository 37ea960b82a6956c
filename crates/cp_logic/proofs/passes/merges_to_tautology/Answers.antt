use Rattle.std.proofs.Common.{◌∙◌, sym, inl, inr, arith}
use Rattle.cp_logic.proofs.Clashes.{least-of, unclashed-next, unclashed-found, unclashed-all}
use Rattle.cp_logic.proofs.passes.merges_to_tautology.Goals as goal
use Rattle.cp_logic.proofs.passes.merges_to_tautology.Goals.{then-i-left, else-i-left+then-j-right, then-other-one, else-other-one}

pub returns-then-least-last : goal.returns-then-least-last
returns-then-least-last c =
    sym (unclashed-found c.args.pivot c.args.left.now c.args.right.now c.loop-i.i c.loop-i.j c.loop-i.last 4000002 c.code_at-one.result c.code_at-other.result c.if-other-one.least
    c.requires.left c.requires.right c.loop-i.invariant c.code_at-one.ensures.value c.code_at-other.ensures.value
    (λ e. c.if-one-positive.false (e ∙ sym c.code-positive.ensures.value))
    (λ e. c.if-other-negative.false (e ∙ sym c.negated.ensures ∙ sym c.code-negative.ensures.value))
    (least-of c.code_at-one.result c.code_at-other.result 4000002 c.if-other-one.least
    (elim c.if-other-one.branch [ then-other-one w ↦ inl (w.if-other-one.true, w.least-is) | else-other-one w ↦ inr (omega (arith, w.if-other-one.false), w.least-is) ])
    (elim c.if-i-left.branch [ then-i-left w ↦ inl (c.code_at-one.ensures.low w.if-i-left.true) | else-i-left+then-j-right w ↦ inr (c.code_at-other.ensures.low w.if-j-right.true) ]))
    c.code_at-one.ensures.literal c.code_at-other.ensures.literal c.if-least-last.true)

pub loop-i-preserved : goal.loop-i-preserved
loop-i-preserved c =
    rw (c.from-i.ensures, c.from-j.ensures)
    (unclashed-next c.args.pivot c.args.left.now c.args.right.now c.loop-i.i c.loop-i.j c.loop-i.last 4000002 c.code_at-one.result c.code_at-other.result c.if-other-one.least
    c.requires.left c.requires.right c.loop-i.invariant c.code_at-one.ensures.value c.code_at-other.ensures.value
    (λ e. c.if-one-positive.false (e ∙ sym c.code-positive.ensures.value))
    (λ e. c.if-other-negative.false (e ∙ sym c.negated.ensures ∙ sym c.code-negative.ensures.value))
    (least-of c.code_at-one.result c.code_at-other.result 4000002 c.if-other-one.least
    (elim c.if-other-one.branch [ then-other-one w ↦ inl (w.if-other-one.true, w.least-is) | else-other-one w ↦ inr (omega (arith, w.if-other-one.false), w.least-is) ])
    (elim c.if-i-left.branch [ then-i-left w ↦ inl (c.code_at-one.ensures.low w.if-i-left.true) | else-i-left+then-j-right w ↦ inr (c.code_at-other.ensures.low w.if-j-right.true) ]))
    c.if-least-last.false)

pub returns : goal.returns
returns c = sym (unclashed-all c.args.pivot c.args.left.now c.args.right.now c.loop-i.i c.loop-i.j c.loop-i.last c.loop-i.invariant (omega arith) (omega arith))
