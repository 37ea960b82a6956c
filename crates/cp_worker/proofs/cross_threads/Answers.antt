use denote.Param.Send.{sendable}
use Rattle.cp_worker.proofs.Crossing.{shift_send}
use Rattle.cp_worker.proofs.cross_threads.Goals as goal

pub may_move-requires-send-T : goal.may_move-requires-send-T
may_move-requires-send-T c κs = search (sendable, shift_send)
