use Rattle.std.proofs.Common.{[], ◌∷◌}
use Rattle.cp_occ.specs.Changes.{IsWithout}
use Rattle.cp_occ.proofs.Changed.{Going}
use Rattle.cp_occ.proofs.changes.remove_everywhere.Given as goal

-- the cells of the variables that are left still have the clause
abbrev pub invariant-loop-var : goal.invariant-loop-var
invariant-loop-var l = Going (IsWithout (l.fn.gone ∷ [])) l.fn.gone.clause l.fn.cells l.cells l.var-iterator
