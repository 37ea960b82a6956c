use Rattle.std.proofs.Common.{◌≡◌, ◌++◌, take}
use Rattle.cp_worker.proofs.lists.append.Given as goal

abbrev pub invariant-loop-position : goal.invariant-loop-position
invariant-loop-position l = l.list.items ≡ l.fn.list.items ++ take l.position-index l.position-items
