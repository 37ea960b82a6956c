use Rattle.std.proofs.Common.{◌≡◌, ◌∙◌, sym, ap, subst, true, false, bit_and, eq-eqb, inl, inr}
use Rattle.std.proofs.lemmas.Bool.{eqb-true, cases_Bool, not-false, false≢true}
use Rattle.cp_logic.specs.declared.named.Named.{Named}
use Rattle.cp_logic.specs.Literals.{negated}
use Rattle.cp_logic.specs.Clauses.{contains, is_subset, without}
use Rattle.cp_logic.specs.Signatures.{signature}
use Rattle.cp_logic.proofs.Members.{contains-in}
use Rattle.cp_logic.proofs.SetFacts.{tautology-from}
use Rattle.cp_occ.proofs.Pairs.{other-without}
use Rattle.cp_occ.proofs.occurrence.Occurrence.may_strengthen.Goals as goal

pub returns-then-eq : goal.returns-then-eq
returns-then-eq c had h =
    let l = c.self.inside.literal in
    let own : l ≡ c.args.lit = eqb-true l c.args.lit (not-false _ (sym c.ne.ensures ∙ c.if-ne.false)) in
    let other : c.other.inside.literal ≡ negated l = eqb-true c.other.inside.literal c.negated.result (sym c.eq.ensures ∙ c.if-eq.true) ∙ c.negated.ensures ∙ ap negated (sym own) in
    let within : is_subset (without c.self.inside.clause l) c.other.inside.clause ≡ true =
    ap (λ m. is_subset (without c.self.inside.clause m) c.other.inside.clause) own ∙ ap (λ (n : Named). is_subset (without n.clause c.args.lit) c.other.inside.clause) c.self.view_is
    ∙ ap (λ (n : Named). is_subset (without c.args.self.now.clause c.args.lit) n.clause) c.other.view_is ∙ h in
    eq-eqb (bit_and c.self.inside.bits c.other.inside.bits) c.self.inside.bits
    (ap (λ z. bit_and z c.other.inside.bits) c.self.invariant.bits ∙ ap (bit_and (signature (without c.self.inside.clause l))) c.other.invariant.bits
    ∙ other-without c.self.inside.clause c.other.inside.clause l c.other.inside.literal c.self.invariant.has (sym c.self.invariant.told ∙ c.if-self.false) other within
    ∙ sym c.self.invariant.bits)

pub returns : goal.returns
returns c had h = elim (cases_Bool c.ne-2.result) [
  | inl t ↦ t
  | inr f ↦
      let same : c.other.inside.literal ≡ c.args.lit = eqb-true c.other.inside.literal c.args.lit (not-false _ (sym c.ne-2.ensures ∙ f)) in
      let has : contains c.other.inside.clause (negated c.args.lit) ≡ true = ap (λ (n : Named). contains n.clause (negated c.args.lit)) c.other.view_is ∙ had in
      let kept : contains c.other.inside.clause c.args.lit ≡ true = subst (λ m. contains c.other.inside.clause m ≡ true) same c.other.invariant.has in
      absurd (false≢true (sym (sym c.other.invariant.told ∙ c.if-other.false)
      ∙ tautology-from c.other.inside.clause c.args.lit (contains-in c.other.inside.clause c.args.lit kept) (contains-in c.other.inside.clause (negated c.args.lit) has)))
]
