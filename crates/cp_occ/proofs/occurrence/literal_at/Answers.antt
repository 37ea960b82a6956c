use Rattle.std.proofs.Common.{◌≡◌, ℕ, List, true, false, sym, subst, ap, ◌∙◌}
use Rattle.cp_logic.specs.Literals.{positive, negated}
use Rattle.cp_logic.specs.Clauses.{contains}
use Rattle.cp_occ.proofs.Sided.{either-sign}
use Rattle.cp_occ.proofs.occurrence.literal_at.Goals as goal

pub returns : goal.returns
returns c =
    let plus : c.new-positive.result ≡ positive c.args.var = c.new-positive.ensures in
    let none : contains c.args.clause.now (positive c.args.var) ≡ false =
    ap (contains c.args.clause.now) (sym plus) ∙ ap (λ (ls : List ℕ). contains ls c.new-positive.result) (sym c.lits.ensures.value) ∙ sym c.has.ensures ∙ c.if-has.false in
    subst (λ (l : ℕ). contains c.args.clause.now l ≡ true) (sym (c.negated.ensures ∙ ap negated plus)) (either-sign c.args.var c.args.clause.now c.requires.has none)
