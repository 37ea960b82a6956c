use Rattle.std.proofs.Common.{◌∙◌, length, set, true, ap, arith}
use Rattle.cp_sweep.proofs.Bits.{length-marks, mark-put, filled-put}
use Rattle.cp_sweep.proofs.marks.Marks.insert.Goals as goal

pub set-requires : goal.set-requires
set-requires c = omega (arith, c.requires, ap length c.self.view_is, length-marks c.self.inside.bits)

pub invariant_of-self : goal.invariant_of-self
invariant_of-self c =
    filled-put c.self.inside.bits c.self.inside.filled c.set.new.self c.set-2.new.self c.args.i c.self.invariant c.set.ensures.len c.set-2.ensures.len
    c.set.ensures.bits c.set.ensures.others c.set-2.ensures.bits

pub returns : goal.returns
returns c =
    mark-put c.self.inside.bits c.set.new.self c.args.i (omega (arith, c.requires, ap length c.self.view_is)) c.set.ensures.len c.set.ensures.bits
    ∙ ap (λ ms. set ms c.args.i true) c.self.view_is
