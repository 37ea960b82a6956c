use Rattle.std.proofs.Common.{◌≡◌, ◌+◌, ◌++◌, take, drop, length}
use Rattle.cp_logic.specs.Entries.{renumbered}
use Rattle.cp_logic.proofs.entries.renumbered.Given as goal

-- the first have their numbers, and the others are to get theirs
abbrev pub invariant-loop-i : goal.invariant-loop-i
invariant-loop-i l = record {
  length : l.i-end ≡ length l.list-inside.items.items;
  rest : take l.i l.list-inside.items.items ++ renumbered (l.next + l.i) (drop l.i l.list-inside.items.items) ≡ renumbered l.next l.fn.list.items;
}
