use Rattle.std.proofs.Common.{◌≡◌, false, sym, ap, ◌∙◌}
use Rattle.std.proofs.lemmas.Bool.{eqb-true}
use Rattle.cp_logic.specs.declared.named.Named.{Named}
use Rattle.cp_logic.specs.Literals.{negated}
use Rattle.cp_logic.specs.Clauses.{contains}
use Rattle.cp_occ.proofs.Sided.{not-other}
use Rattle.cp_occ.proofs.occurrence.Occurrence.has.Goals as goal

pub returns-then-eq-2 : goal.returns-then-eq-2
returns-then-eq-2 c =
    let plain : c.self.inside.tautology ≡ false = c.if-not-self.true in
    let other : c.self.inside.literal ≡ negated c.args.lit = eqb-true c.self.inside.literal c.negated.result (sym c.eq-then-not-self.ensures ∙ c.if-eq-2.true) ∙ c.negated.ensures in
    sym (not-other c.self.inside.clause c.self.inside.literal c.args.lit c.self.invariant.has (sym c.self.invariant.told ∙ plain) other)
    ∙ ap (λ (n : Named). contains n.clause c.args.lit) c.self.view_is
