use Rattle.cp_io.proofs.Printing.{Prints-then}
use Rattle.cp_summary.proofs.printing.put_input.Goals as goal

pub returns-clause-prints : goal.returns-clause-prints
returns-clause-prints g c = Prints-then c.put_number.ensures.prints (Prints-then c.put_number-2.ensures.prints c.put_number-3.ensures.prints)
