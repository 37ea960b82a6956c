use Rattle.std.proofs.Common.{sym, ◌∙◌}
use Rattle.cp_logic.specs.Pairs.{pairs_of}
use Rattle.cp_top.proofs.Simplify.{proof-off, stack-off, reduced-off, summary-off, all-written}
use Rattle.cp_top.proofs.output.write_result.Goals as goal

pub returns-then-is_err : goal.returns-then-is_err
returns-then-is_err g c =
    proof-off
    c.args.options.now.form c.args.swept.now.stack.vars c.args.sizes c.args.swept.now.journal.items (pairs_of c.args.swept.now.stack.pairs) c.args.swept.now.formula.formula c.args.swept.now.stopped
    (g.D.Desk.port c.args.desk.now) (g.D.Desk.port c.print_log.new.desk) c.print_log.result
    c.print_log.ensures (sym c.is_err.ensures.value ∙ c.if-is_err.true)

pub returns-then-is_err-2 : goal.returns-then-is_err-2
returns-then-is_err-2 g c =
    stack-off
    c.args.options.now.form c.args.swept.now.stack.vars c.args.sizes c.args.swept.now.journal.items (pairs_of c.args.swept.now.stack.pairs) c.args.swept.now.formula.formula c.args.swept.now.stopped
    (g.D.Desk.port c.args.desk.now) (g.D.Desk.port c.print_log.new.desk) c.print_log.result
    c.print_log.ensures (sym c.is_err.ensures.value ∙ c.if-is_err.false)
    (g.D.Desk.port c.print_stack.new.desk) c.print_stack.result c.print_stack.ensures (sym c.is_err-2.ensures.value ∙ c.if-is_err-2.true)

pub returns-then-is_err-3 : goal.returns-then-is_err-3
returns-then-is_err-3 g c =
    reduced-off
    c.args.options.now.form c.args.swept.now.stack.vars c.args.sizes c.args.swept.now.journal.items (pairs_of c.args.swept.now.stack.pairs) c.args.swept.now.formula.formula c.args.swept.now.stopped
    (g.D.Desk.port c.args.desk.now) (g.D.Desk.port c.print_log.new.desk) c.print_log.result
    c.print_log.ensures (sym c.is_err.ensures.value ∙ c.if-is_err.false)
    (g.D.Desk.port c.print_stack.new.desk) c.print_stack.result c.print_stack.ensures (sym c.is_err-2.ensures.value ∙ c.if-is_err-2.false)
    (g.D.Desk.port c.print_cnf.new.desk) c.print_cnf.result c.print_cnf.ensures (sym c.is_err-3.ensures.value ∙ c.if-is_err-3.true)

pub returns-then-is_err-4 : goal.returns-then-is_err-4
returns-then-is_err-4 g c =
    summary-off
    c.args.options.now.form c.args.swept.now.stack.vars c.args.sizes c.args.swept.now.journal.items (pairs_of c.args.swept.now.stack.pairs) c.args.swept.now.formula.formula c.args.swept.now.stopped
    (g.D.Desk.port c.args.desk.now) (g.D.Desk.port c.print_log.new.desk) c.print_log.result
    c.print_log.ensures (sym c.is_err.ensures.value ∙ c.if-is_err.false)
    (g.D.Desk.port c.print_stack.new.desk) c.print_stack.result c.print_stack.ensures (sym c.is_err-2.ensures.value ∙ c.if-is_err-2.false)
    (g.D.Desk.port c.print_cnf.new.desk) c.print_cnf.result c.print_cnf.ensures (sym c.is_err-3.ensures.value ∙ c.if-is_err-3.false)
    (g.D.Desk.port c.print_counts.new.desk) c.print_counts.result c.print_counts.ensures (sym c.is_err-4.ensures.value ∙ c.if-is_err-4.true)

pub returns : goal.returns
returns g c =
    all-written
    c.args.options.now.form c.args.swept.now.stack.vars c.args.sizes c.args.swept.now.journal.items (pairs_of c.args.swept.now.stack.pairs) c.args.swept.now.formula.formula c.args.swept.now.stopped
    (g.D.Desk.port c.args.desk.now) (g.D.Desk.port c.print_log.new.desk) c.print_log.result
    c.print_log.ensures (sym c.is_err.ensures.value ∙ c.if-is_err.false)
    (g.D.Desk.port c.print_stack.new.desk) c.print_stack.result c.print_stack.ensures (sym c.is_err-2.ensures.value ∙ c.if-is_err-2.false)
    (g.D.Desk.port c.print_cnf.new.desk) c.print_cnf.result c.print_cnf.ensures (sym c.is_err-3.ensures.value ∙ c.if-is_err-3.false)
    (g.D.Desk.port c.print_counts.new.desk) c.print_counts.result c.print_counts.ensures (sym c.is_err-4.ensures.value ∙ c.if-is_err-4.false)
