use Rattle.std.proofs.Common.{◌∙◌, refl, sym, ap, arith}
use Rattle.cp_logic.specs.Clauses.{contains}
use Rattle.std.specs.Prelude.{◌==◌}
use Rattle.cp_logic.proofs.Merges.{contains-at, contains-on, drop-past}
use Rattle.cp_logic.proofs.searches.is_met.Goals as goal

pub loop-other-init : goal.loop-other-init
loop-other-init c = refl

pub returns-then-code : goal.returns-then-code
returns-then-code c =
    ap (λ x. x == c.code-code.result) c.code-then-code.ensures.value ∙ ap (λ l. c.other-item.result == l) c.code-code.ensures.value
    ∙ contains-at c.args.others.now c.args.lit c.loop-other.other-index c.other-item.result
    c.requires c.loop-other-test.true c.other-item.is c.loop-other.invariant
    (omega (arith, c.if-code.true, c.code.ensures.value, c.code-code.ensures.value))

pub loop-other-preserved : goal.loop-other-preserved
loop-other-preserved c =
    contains-on c.args.others.now c.args.lit c.loop-other.other-index c.other-item.result
    c.requires c.loop-other-test.true c.other-item.is c.loop-other.invariant
    (omega (arith, c.if-code.false, c.code.ensures.value, c.code-code.ensures.value))

pub returns : goal.returns
returns c =
    sym (ap (λ xs. contains xs c.args.lit) (drop-past c.args.others.now c.loop-other.other-index (omega arith)))
    ∙ c.loop-other.invariant
