use Rattle.std.proofs.Common.{◌∙◌}
use Rattle.cp_io.proofs.Printing.{Prints-then}
use Rattle.cp_stack.proofs.printing.put_header.Goals as goal

pub returns-clause-prints : goal.returns-clause-prints
returns-clause-prints g c =
    let vars = rw (c.as_bytes.ensures.value ∙ c.format.ensures.text) at c.put-2.ensures.prints in
    let pairs = rw (c.as_bytes-2.ensures.value ∙ c.format-2.ensures.text) at c.put-4.ensures.prints in
    Prints-then c.put.ensures.prints (Prints-then vars (Prints-then c.put-3.ensures.prints (Prints-then pairs c.put-5.ensures.prints)))
