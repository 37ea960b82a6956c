use Rattle.cp_find.proofs.subsumption.first_subsumed.Goals as goal

pub next_subsumed-requires : goal.next_subsumed-requires
next_subsumed-requires c = c.start.ensures c.args.cell.now.variable c.args.cell.now.clauses
