use Rattle.std.proofs.Common.{◌≡◌, take}
use Rattle.cp_hood.proofs.prepared.second_list.Given as goal

-- the clauses so far
abbrev pub invariant-loop-named : goal.invariant-loop-named
invariant-loop-named l = l.second.items ≡ take l.named-index l.list
