use Rattle.std.proofs.Common.{arith}
use Rattle.cp_io.specs.Port.{Reads}
use Rattle.cp_io.proofs.DeskParts.{SlotCall, AtRole-std_slot}
use Rattle.cp_io.proofs.standard.StdDeskDesk.read.Goals as goal

pub returns : goal.returns
returns c =
    let call : SlotCall c.args.self.now.slots c.args.role c.index.result = record { at = c.index.ensures.index; within = omega arith } in
    AtRole-std_slot (Reads c.read.result c.read.new.into) call _ c.read.new.self c.read.ensures.reads
