use Rattle.std.proofs.Common.{arith}
use Rattle.cp_io.specs.Port.{WritesSome}
use Rattle.cp_io.proofs.DeskParts.{SlotCall, AtRole-std_slot}
use Rattle.cp_io.proofs.standard.StdDeskDesk.write.Goals as goal

pub returns : goal.returns
returns c =
    let call : SlotCall c.args.self.now.slots c.args.role c.index.result = record { at = c.index.ensures.index; within = omega arith } in
    AtRole-std_slot (WritesSome c.args.bytes.now c.write.result) call _ c.write.new.self c.write.ensures.writes
