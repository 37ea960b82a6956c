use Rattle.std.proofs.Common.{◌≡◌, ℕ, ◌+◌, ◌<◌, ◌≤◌, false}
use Rattle.std.specs.Prelude.{IsTrue, slice_index_or}
use Rattle.std.specs.Slots.{slots_items, slots_filled, slots_len}
use Rattle.cp_yard.proofs.Closing.{AreAfter}
use Rattle.cp_yard.proofs.yard.Yard.close.Given as goal

abbrev pub invariant-loop-x : goal.invariant-loop-x
invariant-loop-x l = record {
  items : slots_items l.closed.slots ≡ slots_items l.initial.closed.slots;
  len : slots_len l.closed.slots ≡ slots_len l.initial.closed.slots;
  room : l.cells.spare + l.x ≡ l.initial.cells.spare;
  cells : AreAfter l.fn.self.base l.book.posts l.x l.cells.items;
  full : (k : ℕ) → l.x < k → k < slots_len l.closed.slots → IsTrue (slice_index_or (slots_filled l.closed.slots) k false);
  gone : (k : ℕ) → k ≤ l.x → slice_index_or (slots_filled l.closed.slots) k false ≡ false;
}
