use Rattle.cp_stack.proofs.printing.put_literal.Goals as goal

pub returns-clause-prints : goal.returns-clause-prints
returns-clause-prints g c = rw (c.is_positive.ensures, c.var.ensures.value) at c.put_signed.ensures.prints
