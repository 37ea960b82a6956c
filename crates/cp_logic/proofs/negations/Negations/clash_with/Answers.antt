use Rattle.std.proofs.Common.{◌∙◌, ap}
use Rattle.cp_logic.specs.Clauses.{has_negation}
use Rattle.cp_logic.proofs.Clashing.{negation-right}
use Rattle.cp_logic.proofs.negations.Negations.clash_with.Goals as goal

pub returns : goal.returns
returns c =
    c.meet.ensures ∙ ap (λ l. has_negation c.args.other.now l c.args.self.now) c.negated.ensures
    ∙ negation-right c.args.pivot c.args.self.now c.args.other.now c.requires.proper c.requires.other_proper
