use Rattle.std.proofs.Common.{◌≡◌, ◌∙◌, sym, inl, inr, arith}
use Rattle.cp_logic.specs.Literals.{variable_of}
use Rattle.cp_logic.proofs.Meeting.{met, ahead-next, ahead-none}
use Rattle.cp_logic.proofs.passes.meets_negation.Goals as goal
use Rattle.cp_logic.proofs.passes.meets_negation.Goals.{else-one-other-via-then-one-other+then-one-other-2+else-one-positive, else-one-other-via-then-one-other+else-one-other-2, else-one-other-via-else-one-other}

pub returns-then-one-positive : goal.returns-then-one-positive
returns-then-one-positive c =
    let same : variable_of c.index-left-i.result ≡ variable_of c.index-right-j.result = omega (arith, c.if-one-other.true, c.code-one.ensures.value, c.code-other.ensures.value) in
    sym (met c.args.pivot c.args.left.now c.args.right.now c.loop-i.i c.loop-i.j c.index-left-i.result c.index-right-j.result c.requires.left c.requires.right
    c.loop-i-test.true c.if-j-right.true c.index-left-i.is c.index-right-j.is same
    (λ e. c.if-one-other-2.true (c.code-one.ensures.value ∙ e ∙ sym c.code-other.ensures.value))
    (λ e. c.if-one-positive.true (c.code-one.ensures.value ∙ e ∙ sym c.code-positive.ensures.value)))

pub loop-i-preserved : goal.loop-i-preserved
loop-i-preserved c =
    rw (c.from-i.ensures, c.from-j.ensures, c.code-one.ensures.value, c.code-other.ensures.value)
    (ahead-next c.args.pivot c.args.left.now c.args.right.now c.loop-i.i c.loop-i.j c.index-left-i.result c.index-right-j.result c.requires.left c.requires.right
    c.loop-i-test.true c.if-j-right.true c.index-left-i.is c.index-right-j.is c.requires.left_proper c.requires.right_proper
    (λ v n. elim c.else-one-other.branch [
      | else-one-other-via-then-one-other+then-one-other-2+else-one-positive w ↦ sym c.code-one.ensures.value ∙ w.if-one-positive.false ∙ c.code-positive.ensures.value
      | else-one-other-via-then-one-other+else-one-other-2 w ↦ absurd (n (sym c.code-one.ensures.value ∙ w.if-one-other-2.false ∙ c.code-other.ensures.value))
      | else-one-other-via-else-one-other w ↦ absurd (w.if-one-other.false (omega (arith, v, c.code-one.ensures.value, c.code-other.ensures.value)))
    ])
    c.loop-i.invariant)

pub returns-else-j-right : goal.returns-else-j-right
returns-else-j-right c =
    sym (ahead-none c.args.pivot c.args.left.now c.args.right.now c.loop-i.i c.loop-i.j c.requires.left_proper c.requires.right_proper c.loop-i.invariant (inr (omega (arith, c.if-j-right.false))))

pub returns-after-loop-i : goal.returns-after-loop-i
returns-after-loop-i c =
    sym (ahead-none c.args.pivot c.args.left.now c.args.right.now c.loop-i.i c.loop-i.j c.requires.left_proper c.requires.right_proper c.loop-i.invariant (inl (omega (arith, c.loop-i-test.false))))
