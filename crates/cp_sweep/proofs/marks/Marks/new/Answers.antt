use Rattle.std.proofs.Common.{◌≡◌, ◌+◌, ◌/◌, length, ap, ◌∙◌, arith}
use Rattle.std.proofs.lemmas.List.{length-replicate}
use Rattle.cp_sweep.proofs.Bits.{length-marks, no-marks}
use Rattle.cp_sweep.proofs.marks.Marks.new.Goals as goal

pub returns-clause-room : goal.returns-clause-room
returns-clause-room c =
    let long : length c.in_ok-new.field-0 ≡ c.args.last / 64 + 1 = ap length c.in_ok-new.ensures ∙ length-replicate (c.args.last / 64 + 1) 0 in
    omega (arith, length-marks c.in_ok-new.field-0)

pub returns-clause-none : goal.returns-clause-none
returns-clause-none c = λ i. no-marks (c.args.last / 64 + 1) i c.in_ok-new.field-0 c.in_ok-new.ensures
