use Rattle.std.proofs.Common.{◌≡◌, ℕ, length, map, take, drop}
use Rattle.std.specs.Vec.Iter.{into_iter_items, into_iter_len}
use Rattle.cp_logic.specs.declared.named.Named.{Named}
use Rattle.cp_occ.specs.Cells.{variables_after}
use Rattle.cp_occ.specs.Changes.{IsWith, Each}
use Rattle.cp_occ.proofs.changes.insert_all.Given as goal

-- the clauses so far have come, and what is left are the places of the others
abbrev pub invariant-loop-named : goal.invariant-loop-named
invariant-loop-named l = record {
  each : Each (IsWith (take l.named-index l.added)) l.fn.cells l.cells;
  places : into_iter_items l.left ≡ map (λ (c : Named). map (λ (v : ℕ). c.clause) (variables_after 0 c.clause)) (drop l.named-index l.added);
  many : into_iter_len l.left ≡ length (drop l.named-index l.added);
}
