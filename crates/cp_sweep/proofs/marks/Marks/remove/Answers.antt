use Rattle.std.proofs.Common.{◌∙◌, length, set, false, ap, arith}
use Rattle.cp_sweep.proofs.Bits.{length-marks, mark-taken}
use Rattle.cp_sweep.proofs.marks.Marks.remove.Goals as goal

pub clear-requires : goal.clear-requires
clear-requires c = omega (arith, c.requires, ap length c.self.view_is, length-marks c.self.inside.bits)

pub clear-requires-then-is_zero : goal.clear-requires-then-is_zero
clear-requires-then-is_zero c = omega (arith, c.requires, ap length c.self.view_is, length-marks c.self.inside.bits, c.self.invariant.room)

pub returns-then-is_zero : goal.returns-then-is_zero
returns-then-is_zero c =
    mark-taken c.self.inside.bits c.clear.new.self c.args.i (omega (arith, c.requires, ap length c.self.view_is)) c.clear.ensures.len c.clear.ensures.bits
    ∙ ap (λ ms. set ms c.args.i false) c.self.view_is

pub returns-else-is_zero : goal.returns-else-is_zero
returns-else-is_zero c =
    mark-taken c.self.inside.bits c.clear.new.self c.args.i (omega (arith, c.requires, ap length c.self.view_is)) c.clear.ensures.len c.clear.ensures.bits
    ∙ ap (λ ms. set ms c.args.i false) c.self.view_is
