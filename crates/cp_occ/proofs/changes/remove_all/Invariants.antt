use Rattle.std.proofs.Common.{take}
use Rattle.cp_occ.specs.Changes.{IsWithout, Each}
use Rattle.cp_occ.proofs.changes.remove_all.Given as goal

-- the clauses so far are gone
abbrev pub invariant-loop-named : goal.invariant-loop-named
invariant-loop-named l = Each (IsWithout (take l.named-index l.gone)) l.fn.cells l.cells
