use Rattle.std.proofs.Common.{sym, ◌∙◌}
use Rattle.cp_hood.proofs.Examples.{IsLegalFor-two}
use Rattle.cp_hood.proofs.tests.elimination_of_two.Goals as goal

pub returns : goal.returns
returns c =
    let b = c.in-Some in
    IsLegalFor-two c.args.cell.now b.n b.clause.now c.in_ok-one.field-0.items c.new.result.items c.new-2.result.items
    (sym c.var.ensures.value ∙ c.if-var-ne2.false) (sym c.len.ensures ∙ c.if-len-ne1.false) (sym b.ensures) (c.is_pair.ensures c.if-not-is_pair.false)
    c.in_ok-one.ensures c.new.ensures c.new-2.ensures
