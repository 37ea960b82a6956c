use Rattle.std.proofs.Common.{◌≡◌, ◌∙◌, sym, ap, true, bit_and}
use Rattle.std.proofs.lemmas.Bool.{eqb-true}
use Rattle.cp_logic.specs.declared.named.Named.{Named}
use Rattle.cp_logic.specs.Clauses.{is_subset, without}
use Rattle.cp_logic.specs.Signatures.{signature}
use Rattle.cp_logic.proofs.SignatureFacts.{signature-subset}
use Rattle.cp_occ.proofs.occurrence.Occurrence.bits_besides.Goals as goal

pub returns-then-eq : goal.returns-then-eq
returns-then-eq c other h =
    let same : c.self.inside.literal ≡ c.args.lit = eqb-true c.self.inside.literal c.args.lit (sym c.eq.ensures ∙ c.if-eq.true) in
    let within : is_subset (without c.self.inside.clause c.self.inside.literal) other ≡ true =
    ap (λ l. is_subset (without c.self.inside.clause l) other) same ∙ ap (λ (n : Named). is_subset (without n.clause c.args.lit) other) c.self.view_is ∙ h in
    ap (λ z. bit_and z (signature other)) c.self.invariant.bits ∙ signature-subset (without c.self.inside.clause c.self.inside.literal) other within ∙ sym c.self.invariant.bits
