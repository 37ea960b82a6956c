use denote.Param.Send.{sendable}
use Rattle.std.proofs.Crossing.{crosses}
use Rattle.cp_yard.proofs.Crossing.{yard_sync}
use Rattle.cp_phase.proofs.Crossing.{member_send, task_sync}
use Rattle.cp_phase.proofs.round.work_all.Goals as goal

pub for_each_mut-requires-send-T : goal.for_each_mut-requires-send-T
for_each_mut-requires-send-T g c κs within = search (sendable, crosses, member_send) depth 20

pub for_each_mut-requires-sync-F : goal.for_each_mut-requires-sync-F
for_each_mut-requires-sync-F g c κs within = search (sendable, crosses, yard_sync, task_sync) depth 20
