use Rattle.std.proofs.Common.{arith}
use Rattle.cp_io.specs.Port.{Binds}
use Rattle.cp_io.proofs.DeskParts.{SlotCall, AtRole-std_slot}
use Rattle.cp_io.proofs.standard.StdDeskDesk.bind.Goals as goal

pub returns-clause-binds : goal.returns-clause-binds
returns-clause-binds c =
    let call : SlotCall c.args.self.now.slots c.args.role c.index.result = record { at = c.index.ensures.index; within = omega arith } in
    AtRole-std_slot (Binds c.args.way c.args.name.now c.bind.result) call _ c.bind.new.self (c.bind.ensures.binds c.args.name.now)
