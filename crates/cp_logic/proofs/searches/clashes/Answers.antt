use Rattle.std.proofs.Common.{◌∙◌, ap}
use Rattle.cp_logic.specs.Clauses.{has_negation}
use Rattle.cp_logic.proofs.Clashing.{negation-left, negation-right}
use Rattle.cp_logic.proofs.searches.clashes.Goals as goal

pub returns-then-right-left : goal.returns-then-right-left
returns-then-right-left c =
    c.has_negation.ensures ∙ negation-left c.args.pivot c.args.left.now c.args.right.now c.requires.left_proper c.requires.right_proper

pub returns-then-left-right : goal.returns-then-left-right
returns-then-left-right c =
    c.has_negation-then-left-right.ensures ∙ ap (λ l. has_negation c.args.right.now l c.args.left.now) c.negated.ensures
    ∙ negation-right c.args.pivot c.args.left.now c.args.right.now c.requires.left_proper c.requires.right_proper
