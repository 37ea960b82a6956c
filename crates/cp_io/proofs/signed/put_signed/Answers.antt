use Rattle.std.proofs.Common.{◌∙◌}
use Rattle.cp_io.proofs.Printing.{Prints-then}
use Rattle.cp_io.proofs.signed.put_signed.Goals as goal

pub returns-clause-prints : goal.returns-clause-prints
returns-clause-prints g c =
    let sign = rw c.sign.ensures at c.put.ensures.prints in
    let number = rw (c.as_bytes.ensures.value ∙ c.format.ensures.text) at c.put-2.ensures.prints in
    Prints-then sign (Prints-then number c.put_byte.ensures.prints)
