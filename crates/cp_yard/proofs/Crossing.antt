-- Seats may be moved between threads, and yards may be shared by them.
use denote.Param.Send.{IsSend, IsSync, sendable}
use Rattle.std.proofs.Crossing.{crosses}
use Rattle.std.proofs.Crossing.{frees, send as heap_send}
use Rattle.atomic_table.proofs.shared.Seat.TheSendSync.{the_send as seat_of}
use Rattle.atomic_table.proofs.shared.Shared.TheSendSync.{the_sync as shared_of}
use Rattle.atomic_table.proofs.send_lease.SendLease.TheSendSync.{the_sync as any_lease}
use Rattle.cp_logic.specs.contracts.clauses.Clause as clauses
use Rattle.cp_logic.specs.contracts.formulas.Formula as formulas
use Rattle.cp_logic.specs.contracts.journals.Journal as journals
use Rattle.cp_book.specs.contracts.book.Book as books
use Rattle.cp_occ.specs.contracts.cell.Cell as a_cell
use Rattle.cp_occ.specs.contracts.cells.Cells as many_cells
use Rattle.cp_yard.specs.contracts.item.Item as items
use Rattle.cp_yard.specs.contracts.seat.Seat as seats
use Rattle.cp_yard.specs.contracts.yard.Yard as yards

clause_send : IsSend clauses.the_row
clause_send = search (sendable, crosses) depth 60 fits 20000

clause_sync : IsSync clauses.the_row
clause_sync = search (sendable, crosses) depth 60 fits 20000

cell_send : IsSend a_cell.the_row
cell_send = search (sendable, crosses, clause_send) depth 40

cells_sync : IsSync many_cells.the_row
cells_sync = search (sendable, crosses, clause_sync) depth 40

formula_send : IsSend formulas.the_row
formula_send = search (sendable, crosses, clause_send) depth 40

journal_send : IsSend journals.the_row
journal_send = search (sendable, crosses, clause_send) depth 60 fits 20000

book_send : IsSend books.the_row
book_send = search (sendable, crosses, clause_send, formula_send, journal_send) depth 40

item_send : IsSend items.the_row
item_send = search (sendable, crosses, cell_send, book_send) depth 40

pub seat_send : IsSend seats.the_row
seat_send = search (sendable, crosses, item_send, seat_of) depth 40

pub yard_sync : IsSync yards.the_row
yard_sync = search (sendable, crosses, item_send, cells_sync, shared_of, any_lease, heap_send, frees) depth 40
