use Rattle.std.proofs.Common.{◌≡◌, ◌<◌, sym, ◌∙◌, inl, inr, get_or, arith}
use Rattle.std.proofs.lemmas.Bool.{cases_lt}
use Rattle.cp_logic.proofs.Matching.{match-left, match-right, match-both, match-other, match-all}
use Rattle.cp_logic.proofs.passes.is_merge.Goals as goal
use Rattle.cp_logic.proofs.passes.is_merge.Goals.{then-i-left, else-i-left+then-j-right, then-one-other, else-one-other}

pub returns-then-code_at-min : goal.returns-then-code_at-min
returns-then-code_at-min c =
    let low : c.min.result < 4000002 =
    elim c.if-i-left.branch [
      | then-i-left w ↦ omega (arith, c.code_at-one.ensures.low w.if-i-left.true, c.min.ensures)
      | else-i-left+then-j-right w ↦ omega (arith, c.code_at-other.ensures.low w.if-j-right.true, c.min.ensures)
    ] in
    match-other c.args.clause.now c.args.pivot c.args.left.now c.args.right.now c.loop-i.i c.loop-i.j c.loop-i.k 4000002 c.code_at-one.result c.code_at-other.result c.min.result
    c.requires.left c.requires.right c.loop-i.invariant c.code_at-one.ensures.value c.code_at-other.ensures.value
    (λ e. c.if-one-positive.false (e ∙ sym c.code-positive.ensures.value))
    (λ e. c.if-other-negative.false (e ∙ sym c.negated.ensures ∙ sym c.code-negative.ensures.value)) low
    (omega (arith, c.min.ensures)) (omega (arith, c.min.ensures))
    (elim (cases_lt c.code_at-one.result c.code_at-other.result) [ inl l ↦ inl (omega (arith, c.min.ensures)) | inr l ↦ inr (omega (arith, c.min.ensures)) ])
    (λ e. c.if-code_at-min.true (c.code_at.ensures.value ∙ e))

pub loop-i-preserved-then-other-one : goal.loop-i-preserved-then-other-one
loop-i-preserved-then-other-one c =
    let low : c.min.result < 4000002 =
    elim c.if-i-left.branch [
      | then-i-left w ↦ omega (arith, c.code_at-one.ensures.low w.if-i-left.true, c.min.ensures)
      | else-i-left+then-j-right w ↦ omega (arith, c.code_at-other.ensures.low w.if-j-right.true, c.min.ensures)
    ] in
    let here : get_or c.args.clause.now c.loop-i.k 4000002 ≡ c.min.result = sym c.code_at.ensures.value ∙ c.if-code_at-min.false in
    elim c.if-one-other.branch [
      | then-one-other w ↦
          rw w.i-is
          (match-both c.args.clause.now c.args.pivot c.args.left.now c.args.right.now c.loop-i.i c.loop-i.j c.loop-i.k 4000002 c.code_at-one.result c.code_at-other.result c.min.result
          c.requires.left c.requires.right c.loop-i.invariant c.code_at-one.ensures.value c.code_at-other.ensures.value
          (λ e. c.if-one-positive.false (e ∙ sym c.code-positive.ensures.value))
          (λ e. c.if-other-negative.false (e ∙ sym c.negated.ensures ∙ sym c.code-negative.ensures.value)) low
          (omega (arith, c.min.ensures)) (omega arith) here)
      | else-one-other w ↦
          rw w.i-is
          (match-right c.args.clause.now c.args.pivot c.args.left.now c.args.right.now c.loop-i.i c.loop-i.j c.loop-i.k 4000002 c.code_at-one.result c.code_at-other.result c.min.result
          c.requires.left c.requires.right c.loop-i.invariant c.code_at-one.ensures.value c.code_at-other.ensures.value
          (λ e. c.if-one-positive.false (e ∙ sym c.code-positive.ensures.value))
          (λ e. c.if-other-negative.false (e ∙ sym c.negated.ensures ∙ sym c.code-negative.ensures.value)) low
          (omega (arith, c.min.ensures)) (omega arith) here)
    ]

pub loop-i-preserved : goal.loop-i-preserved
loop-i-preserved c =
    let low : c.min.result < 4000002 =
    elim c.if-i-left.branch [
      | then-i-left w ↦ omega (arith, c.code_at-one.ensures.low w.if-i-left.true, c.min.ensures)
      | else-i-left+then-j-right w ↦ omega (arith, c.code_at-other.ensures.low w.if-j-right.true, c.min.ensures)
    ] in
    let here : get_or c.args.clause.now c.loop-i.k 4000002 ≡ c.min.result = sym c.code_at.ensures.value ∙ c.if-code_at-min.false in
    elim c.if-one-other.branch [
      | then-one-other w ↦
          rw w.i-is
          (match-left c.args.clause.now c.args.pivot c.args.left.now c.args.right.now c.loop-i.i c.loop-i.j c.loop-i.k 4000002 c.code_at-one.result c.code_at-other.result c.min.result
          c.requires.left c.requires.right c.loop-i.invariant c.code_at-one.ensures.value c.code_at-other.ensures.value
          (λ e. c.if-one-positive.false (e ∙ sym c.code-positive.ensures.value))
          (λ e. c.if-other-negative.false (e ∙ sym c.negated.ensures ∙ sym c.code-negative.ensures.value)) low
          (omega (arith, c.min.ensures)) (omega arith) here)
      | else-one-other w ↦ absurd (omega arith)
    ]

pub returns : goal.returns
returns c =
    match-all c.args.clause.now c.args.pivot c.args.left.now c.args.right.now c.loop-i.i c.loop-i.j c.loop-i.k c.loop-i.invariant
    (omega arith) (omega arith)
