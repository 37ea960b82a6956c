-- Seats may cross to other threads, and threads may share the claims.
use denote.Param.Send.{IsSend, IsSync, sendable}
use Rattle.std.proofs.Crossing.{crosses, frees, send as heap_send}
use Rattle.atomic_table.proofs.shared.Seat.TheSendSync.{the_send as seat_of}
use Rattle.atomic_table.proofs.shared.Shared.TheSendSync.{the_sync as shared_of}
use Rattle.atomic_table.proofs.send_lease.SendLease.TheSendSync.{the_sync as any_lease}
use Rattle.cp_claim.specs.contracts.seat.ClaimSeat as seats
use Rattle.cp_claim.specs.contracts.claims.Claims as claims

pub seat_send : IsSend seats.the_row
seat_send = search (sendable, crosses, seat_of) depth 20

pub claims_sync : IsSync claims.the_row
claims_sync = search (sendable, crosses, shared_of, any_lease, heap_send, frees) depth 20
