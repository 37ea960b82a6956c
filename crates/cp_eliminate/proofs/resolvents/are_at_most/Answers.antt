use Rattle.std.proofs.Common.{refl, ◌≡◌, ◌+◌, ◌<◌, ◌∙◌, drop, length, sym, ap, arith}
use Rattle.std.specs.Prelude.{nat_le}
use Rattle.cp_logic.specs.Literals.{positive}
use Rattle.cp_logic.specs.Legality.{resolvents}
use Rattle.cp_logic.proofs.ListFacts.{drop-at}
use Rattle.cp_logic.specs.Resolvents.{resolvents_by}
use Rattle.cp_eliminate.proofs.Pairs.{by-same, count-rest, count-above}
use Rattle.cp_eliminate.proofs.resolvents.are_at_most.Goals as goal

pub returns-in_default : goal.returns-in_default
returns-in_default c =
    let x = c.args.var in let neg = c.args.neg.now in
    let above : c.loop-first.left < length (resolvents_by (positive x) c.first-item.result.clause neg) =
    omega (arith, c.in_default.ensures.none, ap length (by-same c.new-lit.result (positive x) c.first-item.result.clause c.first-item.result.clause neg c.new-lit.ensures refl)) in
    sym (count-above x c.first-item.result (drop (c.loop-first.first-index + 1) c.args.pos.now) neg c.loop-first.left above)
    ∙ ap (λ ds. nat_le (length (resolvents x ds neg)) c.loop-first.left) (sym (drop-at c.args.pos.now c.loop-first.first-index c.first-item.result c.loop-first-test.true c.first-item.is))
    ∙ c.loop-first.invariant

pub loop-first-preserved : goal.loop-first-preserved
loop-first-preserved c =
    let x = c.args.var in let neg = c.args.neg.now in
    let taken : c.in-Some.rest + length (resolvents_by (positive x) c.first-item.result.clause neg) ≡ c.loop-first.left =
    omega (arith, c.in-Some.ensures.some, ap length (by-same c.new-lit.result (positive x) c.first-item.result.clause c.first-item.result.clause neg c.new-lit.ensures refl)) in
    count-rest x c.first-item.result (drop (c.loop-first.first-index + 1) c.args.pos.now) neg c.loop-first.left c.in-Some.rest taken
    ∙ ap (λ ds. nat_le (length (resolvents x ds neg)) c.loop-first.left) (sym (drop-at c.args.pos.now c.loop-first.first-index c.first-item.result c.loop-first-test.true c.first-item.is))
    ∙ c.loop-first.invariant
