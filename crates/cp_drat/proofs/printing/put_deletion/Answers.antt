use Rattle.cp_io.proofs.Printing.{Prints-then}
use Rattle.cp_drat.proofs.printing.put_deletion.Goals as goal

pub returns-clause-prints : goal.returns-clause-prints
returns-clause-prints g c =
    let clause = rw c.lits.ensures.value at c.put_clause.ensures.prints in
    let mark = rw c.deletion_mark.ensures at c.put.ensures.prints in
    Prints-then mark clause
