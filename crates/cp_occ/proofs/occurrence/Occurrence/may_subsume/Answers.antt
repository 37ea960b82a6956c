use Rattle.std.proofs.Common.{◌≡◌, ◌∙◌, sym, ap, true, bit_and, eq-eqb, inl, inr}
use Rattle.std.proofs.lemmas.Bool.{eqb-true, cases_Bool, not-false}
use Rattle.cp_logic.specs.declared.named.Named.{Named}
use Rattle.cp_logic.specs.Literals.{negated}
use Rattle.cp_logic.specs.Clauses.{is_subset, without}
use Rattle.cp_logic.specs.Signatures.{signature}
use Rattle.cp_occ.proofs.Pairs.{both-without, subset-opposite}
use Rattle.cp_occ.proofs.occurrence.Occurrence.may_subsume.Goals as goal

pub returns-then-eq : goal.returns-then-eq
returns-then-eq c h =
    let same : c.self.inside.literal ≡ c.other.inside.literal = eqb-true c.self.inside.literal c.other.inside.literal (sym c.eq.ensures ∙ c.if-eq.true) in
    let within : is_subset c.self.inside.clause c.other.inside.clause ≡ true =
    ap (λ (n : Named). is_subset n.clause c.other.inside.clause) c.self.view_is ∙ ap (λ (n : Named). is_subset c.args.self.now.clause n.clause) c.other.view_is ∙ h in
    eq-eqb (bit_and c.self.inside.bits c.other.inside.bits) c.self.inside.bits
    (ap (λ z. bit_and z c.other.inside.bits) c.self.invariant.bits ∙ ap (bit_and (signature (without c.self.inside.clause c.self.inside.literal))) c.other.invariant.bits
    ∙ ap (λ l. bit_and (signature (without c.self.inside.clause c.self.inside.literal)) (signature (without c.other.inside.clause l))) (sym same)
    ∙ both-without c.self.inside.clause c.other.inside.clause c.self.inside.literal within ∙ sym c.self.invariant.bits)

pub returns-else-other : goal.returns-else-other
returns-else-other c h = elim (cases_Bool c.ne.result) [
  | inl t ↦ t
  | inr f ↦
      let same : c.self.inside.literal ≡ negated c.other.inside.literal =
      eqb-true c.self.inside.literal c.negated.result (not-false _ (sym c.ne.ensures ∙ f)) ∙ c.negated.ensures in
      let within : is_subset c.self.inside.clause c.other.inside.clause ≡ true =
      ap (λ (n : Named). is_subset n.clause c.other.inside.clause) c.self.view_is ∙ ap (λ (n : Named). is_subset c.args.self.now.clause n.clause) c.other.view_is ∙ h in
      absurd (subset-opposite c.self.inside.clause c.other.inside.clause c.self.inside.literal c.other.inside.literal c.self.invariant.has c.other.invariant.has
      (sym c.other.invariant.told ∙ c.if-other.false) same within)
]
