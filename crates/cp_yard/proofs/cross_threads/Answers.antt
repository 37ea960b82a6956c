use denote.Param.Send.{sendable}
use Rattle.cp_yard.proofs.Crossing.{seat_send, yard_sync}
use Rattle.cp_yard.proofs.cross_threads.Goals as goal

pub may_move-requires-send-T : goal.may_move-requires-send-T
may_move-requires-send-T c κs = search (sendable, seat_send)

pub may_be_shared-requires-sync-T : goal.may_be_shared-requires-sync-T
may_be_shared-requires-sync-T c κs = search (sendable, yard_sync)
