use Rattle.cp_find.proofs.strengthening.first_strengthened.Goals as goal

pub next_strengthened-requires-clause-past : goal.next_strengthened-requires-clause-past
next_strengthened-requires-clause-past c = c.start.ensures c.args.cell.now.variable c.args.cell.now.clauses
