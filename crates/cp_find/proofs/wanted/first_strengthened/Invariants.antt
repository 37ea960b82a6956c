use Rattle.std.proofs.Common.{◌≡◌}
use Rattle.std.specs.List.{find}
use Rattle.cp_find.specs.Finds.{strengthens}
use Rattle.cp_find.proofs.wanted.first_strengthened.Given as goal

-- the first clause that passes is the first of those that are left
abbrev pub invariant-loop-other : goal.invariant-loop-other
invariant-loop-other l = find (strengthens l.lit l.by) l.other-iterator ≡ find (strengthens l.lit l.by) l.fn.others
