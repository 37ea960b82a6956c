use Rattle.std.proofs.Common.{ℕ, map, sym}
use Rattle.cp_logic.specs.declared.named.Named.{Named}
use Rattle.cp_occ.specs.Cells.{variables_after}
use Rattle.cp_occ.proofs.Changed.{places-more}
use Rattle.cp_occ.proofs.changes.places_of_all.Goals as goal

pub loop-named-preserved : goal.loop-named-preserved
loop-named-preserved c =
    places-more (λ (n : Named). map (λ (v : ℕ). n.clause) (variables_after 0 n.clause)) c.args.added.now c.loop-named.named-index c.named-item.result c.loop-named.all.items c.push.new.self.items c.in_ok-places_of_clause.field-0
    c.loop-named-test.true (sym c.named-item.is) c.loop-named.invariant c.in_ok-places_of_clause.ensures c.in_ok-push.ensures.items
