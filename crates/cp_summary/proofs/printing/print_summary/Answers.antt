use Rattle.cp_io.proofs.Printing.{Prints-then, Prints-finish}
use Rattle.cp_summary.proofs.printing.print_summary.Goals as goal

pub returns : goal.returns
returns g c =
    let input = rw c.new-buffer.ensures at c.put_input.ensures.prints in
    let reduced = rw c.of_text.ensures at c.put_reduced.ensures.prints in
    Prints-finish (Prints-then input (Prints-then reduced (Prints-then c.put_counts.ensures.prints c.put_end.ensures.prints))) c.finish.ensures
