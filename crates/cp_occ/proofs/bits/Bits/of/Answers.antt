use Rattle.cp_occ.proofs.SharedBits.{SoFar-start, SoFar-step, SoFar-all}
use Rattle.cp_occ.proofs.bits.Bits.of.Goals as goal

pub loop-lit-init : goal.loop-lit-init
loop-lit-init c = SoFar-start c.args.lits.now

pub loop-lit-preserved : goal.loop-lit-preserved
loop-lit-preserved c = SoFar-step c.args.lits.now c.loop-lit.lit-index c.loop-lit.once c.loop-lit.twice c.bit_of-bit.result c.lit-item.result c.loop-lit-test.true c.lit-item.is c.bit_of-bit.ensures c.loop-lit.invariant

pub returns : goal.returns
returns c = SoFar-all c.args.lits.now c.loop-lit.lit-index c.loop-lit.once c.loop-lit.twice c.loop-lit-test.false c.loop-lit.invariant
