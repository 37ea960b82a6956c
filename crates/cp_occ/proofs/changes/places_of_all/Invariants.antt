use Rattle.std.proofs.Common.{◌≡◌, ℕ, map, take}
use Rattle.cp_logic.specs.declared.named.Named.{Named}
use Rattle.cp_occ.specs.Cells.{variables_after}
use Rattle.cp_occ.proofs.changes.places_of_all.Given as goal

-- the places of the clauses so far
abbrev pub invariant-loop-named : goal.invariant-loop-named
invariant-loop-named l = l.all.items ≡ map (λ (c : Named). map (λ (v : ℕ). c.clause) (variables_after 0 c.clause)) (take l.named-index l.added)
