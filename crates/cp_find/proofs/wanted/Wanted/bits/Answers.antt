use Rattle.std.proofs.Common.{◌≡◌, ◌∙◌, ℕ, List, map, true, bit_and, sym, ap}
use Rattle.cp_logic.specs.Clauses.{is_subset, without}
use Rattle.cp_logic.specs.Signatures.{signature}
use Rattle.cp_logic.proofs.SignatureFacts.{signature-subset}
use Rattle.cp_find.specs.Finds.{turned}
use Rattle.cp_find.specs.Lookups.{WantedView, with_taken}
use Rattle.cp_find.proofs.Turned.{has-negation, turned-bits}
use Rattle.cp_find.proofs.wanted.Wanted.bits.Goals as goal

pub returns-in-None : goal.returns-in-None
returns-in-None c clause h =
    let by : List ℕ = c.self.inside.by.now.clause in
    let within : is_subset by clause ≡ true =
    ap (λ o. is_subset (with_taken o by) clause) (sym c.in-None.is) ∙ ap (λ (w : WantedView). is_subset w.sought.clause clause) c.self.view_is ∙ h in
    ap (λ z. bit_and z (signature clause)) c.signature.ensures ∙ signature-subset by clause within ∙ sym c.signature.ensures

pub returns-in-Some : goal.returns-in-Some
returns-in-Some c clause h =
    let by : List ℕ = c.self.inside.by.now.clause in let lit : ℕ = c.in-Some.lit in
    let within : is_subset (map (turned lit) by) clause ≡ true =
    ap (λ o. is_subset (with_taken o by) clause) (sym c.in-Some.is) ∙ ap (λ (w : WantedView). is_subset w.sought.clause clause) c.self.view_is ∙ h in
    turned-bits by clause lit c.bits_besides.result c.signature-in-Some.result (has-negation c.self.inside.var c.self.inside.taken by lit c.self.invariant c.in-Some.is)
    (λ ls t. c.bits_besides.ensures ls (ap (λ m. is_subset (without by m) ls) c.negated.ensures ∙ t))
    (c.signature-in-Some.ensures.value ∙ ap signature c.as_slice.ensures) within
