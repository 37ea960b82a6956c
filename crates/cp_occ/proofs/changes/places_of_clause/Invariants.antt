use Rattle.std.proofs.Common.{◌≡◌, ◌++◌, map}
use Rattle.cp_occ.specs.Cells.{variables_after}
use Rattle.cp_occ.proofs.changes.places_of_clause.Given as goal

-- with a place for each variable that is left they would be all
abbrev pub invariant-loop-var : goal.invariant-loop-var
invariant-loop-var l = l.places.items ++ map (λ v. l.fn.clause) l._var-iterator ≡ map (λ v. l.fn.clause) (variables_after 0 l.fn.clause)
