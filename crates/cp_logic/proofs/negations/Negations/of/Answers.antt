use Rattle.std.proofs.Common.{◌∙◌, ap}
use Rattle.cp_logic.specs.Marks.{place_of}
use Rattle.cp_logic.proofs.Marked.{AreMarked-step, AreMarked-all}
use Rattle.cp_logic.proofs.negations.Negations.of.Goals as goal

pub loop-lit-preserved : goal.loop-lit-preserved
loop-lit-preserved c =
    AreMarked-step c.loop-lit.words c.set.new.words c.args.lits.now c.loop-lit.lit-index c.lit-item.result c.place_of.result c.loop-lit-test.true c.lit-item.is
    (c.place_of.ensures.value ∙ ap place_of c.negated.ensures) c.loop-lit.invariant c.set.ensures.set c.set.ensures.others

pub invariant_of-result : goal.invariant_of-result
invariant_of-result c = (c.requires, AreMarked-all c.loop-lit.words c.args.lits.now c.loop-lit.lit-index c.loop-lit-test.false c.loop-lit.invariant)
