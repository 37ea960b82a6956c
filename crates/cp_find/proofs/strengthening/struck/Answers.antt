use Rattle.std.proofs.Common.{true, false, sym, ◌∙◌}
use Rattle.cp_find.proofs.Firsts.{struck-cases}
use Rattle.cp_find.proofs.strengthening.struck.Goals as goal

pub returns-then-has-2 : goal.returns-then-has-2
returns-then-has-2 c = sym (struck-cases c.args.var c.args.by.now.clause c.new-positive.result c.negated-negative.result true true c.new-positive.ensures c.negated-negative.ensures
    (sym c.has.ensures ∙ c.if-has.true) (sym c.has-then-has.ensures ∙ c.if-has-2.true))

pub returns-then-has : goal.returns-then-has
returns-then-has c = sym (struck-cases c.args.var c.args.by.now.clause c.new-positive.result c.negated-negative.result true false c.new-positive.ensures c.negated-negative.ensures
    (sym c.has.ensures ∙ c.if-has.true) (sym c.has-then-has.ensures ∙ c.if-has-2.false))

pub returns-then-has-3 : goal.returns-then-has-3
returns-then-has-3 c = sym (struck-cases c.args.var c.args.by.now.clause c.new-positive.result c.negated-negative.result false true c.new-positive.ensures c.negated-negative.ensures
    (sym c.has.ensures ∙ c.if-has.false) (sym c.has-2.ensures ∙ c.if-has-3.true))

pub returns : goal.returns
returns c = sym (struck-cases c.args.var c.args.by.now.clause c.new-positive.result c.negated-negative.result false false c.new-positive.ensures c.negated-negative.ensures
    (sym c.has.ensures ∙ c.if-has.false) (sym c.has-2.ensures ∙ c.if-has-3.false))
