use Rattle.std.proofs.Common.{◌≡◌, [], ◌∷◌, map}
use Rattle.cp_occ.specs.Changes.{IsWith}
use Rattle.cp_occ.proofs.Changed.{Going}
use Rattle.cp_occ.proofs.changes.insert_everywhere.Given as goal

-- the cells of the variables that are left still wait for the clause, and there is a place for each
abbrev pub invariant-loop-var : goal.invariant-loop-var
invariant-loop-var l = record {
  going : Going (IsWith (l.fn.added ∷ [])) l.fn.added.clause l.fn.cells l.cells l.var-iterator;
  places : l.left.items ≡ map (λ v. l.fn.added.clause) l.var-iterator;
}
