use Rattle.std.proofs.Common.{sym, ◌∙◌}
use Rattle.cp_blocked.proofs.Firsts.{literal_at-negative}
use Rattle.cp_blocked.proofs.blocking.literal_at.Goals as goal

pub returns-else-has : goal.returns-else-has
returns-else-has c =
    c.negated.ensures ∙ literal_at-negative c.args.var c.args.clause.now.clause c.new-positive.result c.new-positive.ensures (sym c.has.ensures ∙ c.if-has.false)
