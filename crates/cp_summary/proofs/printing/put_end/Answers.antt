use Rattle.cp_io.proofs.Printing.{Prints-then}
use Rattle.cp_summary.proofs.printing.put_end.Goals as goal

pub returns-clause-prints : goal.returns-clause-prints
returns-clause-prints g c =
    let word = rw c.stop_word.ensures at c.put_line.ensures.prints in
    Prints-then c.put_number.ensures.prints (Prints-then word c.put_number-2.ensures.prints)
