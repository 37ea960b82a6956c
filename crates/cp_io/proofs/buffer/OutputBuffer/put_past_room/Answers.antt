use Rattle.std.proofs.Common.{[], sym, ◌∙◌, ap}
use Rattle.cp_io.proofs.Printing.{Prints-long, Prints-lost}
use Rattle.cp_io.proofs.buffer.OutputBuffer.put_past_room.Goals as goal

pub returns-then-is_err-2-clause-prints : goal.returns-then-is_err-2-clause-prints
returns-then-is_err-2-clause-prints g c =
    rw (← c.self.view_is) (Prints-lost c.args.text.now _ _ c.write_whole.result c.write_whole-2.result c.if-self.false (sym c.is_err.ensures.value ∙ c.if-is_err.false) (sym c.is_err-2.ensures.value ∙ c.if-is_err-2.true) c.give_up-then-is_err-2.ensures
    c.write_whole.ensures c.write_whole-2.ensures)

pub returns-else-is_err-2-clause-prints : goal.returns-else-is_err-2-clause-prints
returns-else-is_err-2-clause-prints g c =
    rw (← c.self.view_is) (Prints-long c.args.text.now _ _ c.write_whole.result c.write_whole-2.result c.if-self.false (sym c.is_err.ensures.value ∙ c.if-is_err.false) (sym c.is_err-2.ensures.value ∙ c.if-is_err-2.false) (ap (λ f. record { bytes = []; failed = f }) c.if-self.false)
    c.write_whole.ensures c.write_whole-2.ensures)
