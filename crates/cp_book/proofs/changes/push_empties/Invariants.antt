use Rattle.std.proofs.Common.{◌≡◌, ◌≤◌, ◌++◌, drop, length}
use Rattle.cp_book.specs.Empties.{empty_numbers}
use Rattle.cp_book.proofs.changes.push_empties.Given as goal

-- those so far and those of the clauses that are left, for which there is room
abbrev pub invariant-loop-named : goal.invariant-loop-named
invariant-loop-named l = record {
  items : l.numbers.items ++ empty_numbers (drop l.named-index l.named-items) ≡ l.initial.numbers.items ++ empty_numbers l.named-items;
  room : length (drop l.named-index l.named-items) ≤ l.numbers.spare;
}
