use Rattle.std.proofs.Common.{◌++◌}
use Rattle.cp_logic.specs.Views.{entry_of}
use Rattle.cp_occ.proofs.Changed.{changed-cells}
use Rattle.cp_occ.proofs.cells.Cells.apply.Goals as goal

pub returns-clause-variables : goal.returns-clause-variables
returns-clause-variables c =
    rw (← c.self.view_is)
    (changed-cells (entry_of c.args.entry.now) (c.gone_clauses.result.0.now ++ c.gone_clauses.result.1.now) c.new_clauses.result.now c.self.inside.cells.len c.self.inside.cells.items c.as_mut_slice.result.now
    c.change.new.cells c.gone_clauses.ensures c.new_clauses.ensures c.as_mut_slice.ensures.value c.as_mut_slice.ensures.len c.change.ensures).0

pub returns-clause-lists : goal.returns-clause-lists
returns-clause-lists c =
    rw (← c.self.view_is)
    (changed-cells (entry_of c.args.entry.now) (c.gone_clauses.result.0.now ++ c.gone_clauses.result.1.now) c.new_clauses.result.now c.self.inside.cells.len c.self.inside.cells.items c.as_mut_slice.result.now
    c.change.new.cells c.gone_clauses.ensures c.new_clauses.ensures c.as_mut_slice.ensures.value c.as_mut_slice.ensures.len c.change.ensures).1
