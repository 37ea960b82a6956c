use Rattle.cp_io.proofs.Printing.{Prints-then}
use Rattle.cp_drat.proofs.printing.put_lemma.Goals as goal

pub returns-clause-prints : goal.returns-clause-prints
returns-clause-prints g c =
    let clause = rw c.lits-lits.ensures.value at c.put_clause.ensures.prints in
    let mark = rw c.lemma_mark.ensures at c.put.ensures.prints in
    Prints-then mark clause
