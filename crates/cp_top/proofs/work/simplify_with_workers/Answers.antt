use Rattle.cp_top.proofs.Working.{fresh-cells}
use Rattle.cp_top.proofs.work.simplify_with_workers.Goals as goal

pub new-requires-2-clause-cells : goal.new-requires-2-clause-cells
new-requires-2-clause-cells g c =
    fresh-cells c.args.formula.formula c.args.opts.now.rules c.in_ok-book.book c.in_ok-cells.cells.items c.in_ok-book.ensures
    (record { variables = c.in_ok-cells.ensures.variables; lists = c.in_ok-cells.ensures.clauses })
