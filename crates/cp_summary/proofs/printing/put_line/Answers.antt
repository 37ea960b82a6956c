use Rattle.cp_io.proofs.Printing.{Prints-then}
use Rattle.cp_summary.proofs.printing.put_line.Goals as goal

pub returns-clause-prints : goal.returns-clause-prints
returns-clause-prints g c = Prints-then c.put.ensures.prints (Prints-then c.put-2.ensures.prints (Prints-then c.put-3.ensures.prints c.put-4.ensures.prints))
