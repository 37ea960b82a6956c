use Rattle.cp_find.proofs.tautology.first_taut.Goals as goal

pub next_taut-requires : goal.next_taut-requires
next_taut-requires c = c.start.ensures c.args.cell.now.variable c.args.cell.now.clauses
