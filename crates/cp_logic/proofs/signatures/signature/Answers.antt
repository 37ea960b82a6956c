use Rattle.std.proofs.Common.{sym, subst}
use Rattle.std.specs.Prelude.{◌≡◌, bit_and}
use Rattle.cp_logic.specs.Signatures.{signature}
use Rattle.cp_logic.proofs.SignatureFacts.{signature-step, signature-whole, signature-subset}
use Rattle.cp_logic.proofs.signatures.signature.Goals as goal

pub loop-lit-preserved : goal.loop-lit-preserved
loop-lit-preserved c =
    signature-step c.loop-lit.bits c.bit_of.result c.loop-lit.lit-index c.args.lits.now c.lit-item.result c.loop-lit-test.true c.lit-item.is c.bit_of.ensures.value c.bit_of.ensures.within c.loop-lit.invariant

pub returns-clause-value : goal.returns-clause-value
returns-clause-value c = signature-whole c.loop-lit.bits c.loop-lit.lit-index c.args.lits.now c.loop-lit-test.false c.loop-lit.invariant

pub returns-clause-subset : goal.returns-clause-subset
returns-clause-subset c clause h =
    subst (λ z. bit_and (signature clause) z ≡ signature clause) (sym (signature-whole c.loop-lit.bits c.loop-lit.lit-index c.args.lits.now c.loop-lit-test.false c.loop-lit.invariant))
    (signature-subset clause c.args.lits.now h)
