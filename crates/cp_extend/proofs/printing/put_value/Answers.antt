use Rattle.std.proofs.Common.{◌∙◌}
use Rattle.cp_io.proofs.Printing.{Prints-then}
use Rattle.cp_extend.proofs.printing.put_value.Goals as goal

pub returns-clause-prints : goal.returns-clause-prints
returns-clause-prints g c =
    let sign = rw c.sign.ensures at c.put.ensures.prints in
    let var = rw (c.as_bytes.ensures.value ∙ c.format.ensures.text) at c.put-2.ensures.prints in
    Prints-then sign var
