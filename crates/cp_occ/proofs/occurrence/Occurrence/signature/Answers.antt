use Rattle.std.proofs.Common.{◌^◌, ◌∙◌, ap, bit_or}
use Rattle.cp_logic.specs.declared.named.Named.{Named}
use Rattle.cp_logic.specs.Signatures.{bit_of, signature}
use Rattle.cp_occ.proofs.Pairs.{signature-whole}
use Rattle.cp_occ.proofs.occurrence.Occurrence.signature.Goals as goal

pub returns : goal.returns
returns c =
    ap (bit_or c.self.inside.bits) c.bit_of.ensures ∙ ap (λ z. bit_or z (2 ^ bit_of c.self.inside.literal)) c.self.invariant.bits
    ∙ signature-whole c.self.inside.clause c.self.inside.literal c.self.invariant.has ∙ ap (λ (n : Named). signature n.clause) c.self.view_is
