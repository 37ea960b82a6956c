use Rattle.std.proofs.Common.{◌^◌, ◌∙◌, ap}
use Rattle.cp_logic.specs.Signatures.{signature, bit_of}
use Rattle.cp_logic.proofs.SignatureFacts.{or_zero}
use Rattle.cp_occ.proofs.bits.bit_of.Goals as goal

pub returns : goal.returns
unfolding signature
returns c = c.signature.ensures.value ∙ ap signature c.as_slice.ensures ∙ or_zero (2 ^ bit_of c.args.lit)
