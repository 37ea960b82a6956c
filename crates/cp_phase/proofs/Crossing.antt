-- Members may be moved between threads, and a task may be shared by them.
use denote.Param.Send.{IsSend, IsSync, sendable}
use Rattle.std.proofs.Crossing.{crosses}
use Rattle.cp_yard.proofs.Crossing.{seat_send}
use Rattle.cp_claim.proofs.Crossing.{claims_sync, seat_send as claim_send}
use Rattle.cp_phase.specs.contracts.team.Member as members
use Rattle.cp_phase.specs.contracts.team.Task as tasks

pub member_send : IsSend members.the_row
member_send = search (sendable, crosses, seat_send, claim_send) depth 40

pub task_sync : IsSync tasks.the_row
task_sync = search (sendable, crosses, claims_sync) depth 40
