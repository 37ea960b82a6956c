-- What a worker did may be moved between threads.
use denote.Param.Send.{IsSend, sendable}
use Rattle.std.proofs.Crossing.{crosses}
use Rattle.cp_worker.specs.contracts.lists.WorkerShift as shifts

pub shift_send : IsSend shifts.the_row
shift_send = search (sendable, crosses) depth 40
