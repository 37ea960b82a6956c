use Rattle.std.proofs.Common.{◌≡◌}
use Rattle.std.specs.List.{find}
use Rattle.cp_find.specs.Finds.{subsumes}
use Rattle.cp_find.proofs.wanted.first_subsumed.Given as goal

-- the first clause that passes is the first of those that are left
abbrev pub invariant-loop-other : goal.invariant-loop-other
invariant-loop-other l = find (subsumes l.by) l.other-iterator ≡ find (subsumes l.by) l.fn.others
