use Rattle.cp_io.proofs.Printing.{Prints-then}
use Rattle.cp_summary.proofs.printing.put_counts.Goals as goal

pub returns-clause-prints : goal.returns-clause-prints
returns-clause-prints g c =
    let tautologies = rw c.count.ensures at c.put_number.ensures.prints in
    let subsumed = rw c.count-2.ensures at c.put_number-2.ensures.prints in
    let strengthened = rw c.count-3.ensures at c.put_number-3.ensures.prints in
    let blocked = rw c.count-4.ensures at c.put_number-4.ensures.prints in
    let eliminated = rw c.count-5.ensures at c.put_number-5.ensures.prints in
    Prints-then tautologies (Prints-then subsumed (Prints-then strengthened (Prints-then blocked eliminated)))
