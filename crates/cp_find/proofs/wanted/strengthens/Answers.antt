use Rattle.std.proofs.Common.{◌∙◌, sym, ap}
use Rattle.std.proofs.lemmas.Bool.{false≢true, false_from_ne_true}
use Rattle.cp_logic.specs.Literals.{negated}
use Rattle.cp_logic.specs.Clauses.{contains, is_subset, without}
use Rattle.cp_find.specs.Finds.{strengthens}
use Rattle.cp_find.proofs.Turned.{strengthened-has}
use Rattle.cp_find.proofs.wanted.strengthens.Goals as goal

pub returns-then-not-may_strengthen : goal.returns-then-not-may_strengthen
returns-then-not-may_strengthen c =
    let by = c.args.by.now in let on = c.args.on.now in
    sym (false_from_ne_true (strengthens c.args.lit by on) (λ t.
    let p = strengthened-has by on c.args.lit c.requires t in
    false≢true (sym c.if-not-may_strengthen.true
    ∙ c.may_strengthen.ensures (ap (λ m. contains on.clause (negated m)) c.negated.ensures ∙ p.0) (ap (λ m. is_subset (without by.clause m) on.clause) c.negated.ensures ∙ p.1))))
