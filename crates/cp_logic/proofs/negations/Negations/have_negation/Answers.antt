use Rattle.std.proofs.Common.{◌∙◌, sym, ap}
use Rattle.cp_logic.specs.Literals.{negated}
use Rattle.cp_logic.specs.Clauses.{contains}
use Rattle.cp_logic.proofs.Marked.{unmarked}
use Rattle.cp_logic.proofs.negations.Negations.have_negation.Goals as goal

pub returns-else-is_set : goal.returns-else-is_set
returns-else-is_set c =
    c.if-is_set.false
    ∙ unmarked c.self.inside.words c.self.inside.lits.now c.args.lit c.place_of.result c.self.invariant.1 c.place_of.ensures.value (sym c.is_set.ensures ∙ c.if-is_set.false)
    ∙ ap (λ lits. contains lits (negated c.args.lit)) c.self.view_is
