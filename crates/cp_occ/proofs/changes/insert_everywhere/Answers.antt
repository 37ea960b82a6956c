use Rattle.std.proofs.Common.{◌≡◌, ◌<◌, [], ◌∷◌, map, get_or, sym, ap, ◌∙◌, subst}
use Rattle.std.specs.List.{All}
use Rattle.cp_logic.specs.declared.named.Named.{Named}
use Rattle.cp_occ.specs.Cells.{CellView}
use Rattle.cp_occ.specs.Changes.{IsWith}
use Rattle.cp_occ.proofs.Changed.{Going, Going-start, Going-next, Going-step, next-ascending, next-over, next-old, next-same, next-has_cell, same-with, one-with, last-place}
use Rattle.cp_occ.proofs.changes.insert_everywhere.Goals as goal

pub loop-var-init : goal.loop-var-init
loop-var-init c =
    let items = c.into_iter-var-iterator.ensures.into_iter_gives ∙ c.of-var-items.ensures.value in
    record {
      going = subst (Going (IsWith (c.args.added.now ∷ [])) c.args.added.now.clause c.args.cells.now c.args.cells.now) (sym items)
          (Going-start (IsWith (c.args.added.now ∷ [])) c.args.added.now.clause c.args.cells.now c.requires.ascending c.of-var-items.ensures.ascending c.of-var-items.ensures.literals c.requires.within
          (λ k d h f. same-with c.args.added.now (get_or c.args.cells.now k d) f));
      places = c.places.view_is ∙ c.requires.places ∙ ap (map (λ v. c.args.added.now.clause)) (sym items);
    }

pub index_of-index-requires-clause-ascending : goal.index_of-index-requires-clause-ascending
index_of-index-requires-clause-ascending c = next-ascending _ _ _ _ _ _ (Going-next _ _ _ _ _ _ _ c.loop-var.invariant.going c.in-Some.ensures.steps)

pub index_of-index-requires-clause-has : goal.index_of-index-requires-clause-has
index_of-index-requires-clause-has c = next-over _ _ _ _ _ _ (Going-next _ _ _ _ _ _ _ c.loop-var.invariant.going c.in-Some.ensures.steps)

-- the place is of the clause, and the others are of the other variables
module _ (c : goal.After-index-cells-index) where
  going : Going (IsWith (c.args.added.now ∷ [])) c.args.added.now.clause c.args.cells.now c.loop-var.cells (c.in-Some.var ∷ c.next.new.self)
  going = Going-next _ _ _ _ _ _ _ c.loop-var.invariant.going c.in-Some.ensures.steps

  was : (d : CellView) → get_or c.loop-var.cells c.index_of-index.result d ≡ get_or c.args.cells.now c.index_of-index.result d
  was = next-same _ _ _ _ _ _ going c.index_of-index.result c.index_of-index.ensures.bound c.index_of-index.ensures.variable

  place-is : c.in-Some-pop.place ≡ c.args.added.now.clause
  place-is = (last-place c.args.added.now.clause c.in-Some.var c.next.new.self c.pop.new.self.items c.in-Some-pop.place
      (sym (c.loop-var.invariant.places ∙ ap (map (λ v. c.args.added.now.clause)) c.in-Some.ensures.steps) ∙ c.in-Some-pop.ensures.items)).0

pub insert-requires-clause-room : goal.insert-requires-clause-room
insert-requires-clause-room c =
    rw (was c c.index-cells-index.result)
    (c.requires.room c.index_of-index.result c.index-cells-index.result (next-old _ _ _ _ _ _ (going c) c.index_of-index.result c.index_of-index.ensures.bound c.index_of-index.ensures.variable)
    (rw (← was c c.index-cells-index.result) (next-has_cell _ _ _ _ _ _ (going c) c.index_of-index.result c.index_of-index.ensures.bound c.index_of-index.ensures.variable c.index-cells-index.result)))

pub insert-requires-clause-above : goal.insert-requires-clause-above
insert-requires-clause-above c =
    subst (λ (x : CellView). All (λ (n : Named). n.number < c.args.added.now.number) x.clauses) (sym (was c c.index-cells-index.result))
    (c.requires.above c.index_of-index.result c.index-cells-index.result (next-old _ _ _ _ _ _ (going c) c.index_of-index.result c.index_of-index.ensures.bound c.index_of-index.ensures.variable))

pub insert-requires-clause-has : goal.insert-requires-clause-has
insert-requires-clause-has c = rw (place-is c) (next-has_cell _ _ _ _ _ _ (going c) c.index_of-index.result c.index_of-index.ensures.bound c.index_of-index.ensures.variable c.index-cells-index.result)

pub loop-var-preserved : goal.loop-var-preserved
loop-var-preserved c =
    let s : Going (IsWith (c.args.added.now ∷ [])) c.args.added.now.clause c.args.cells.now c.loop-var.cells (c.in-Some.var ∷ c.next.new.self) = Going-next _ _ _ _ _ _ _ c.loop-var.invariant.going c.in-Some.ensures.steps in
    let place = last-place c.args.added.now.clause c.in-Some.var c.next.new.self c.pop.new.self.items c.in-Some-pop.place
    (sym (c.loop-var.invariant.places ∙ ap (map (λ v. c.args.added.now.clause)) c.in-Some.ensures.steps) ∙ c.in-Some-pop.ensures.items) in
    record {
      going = Going-step (IsWith (c.args.added.now ∷ [])) c.args.added.now.clause c.args.cells.now c.loop-var.cells c.in-Some.var c.next.new.self s
          c.index_of-index.result c.index_of-index.ensures.bound c.index_of-index.ensures.variable c.index-cells-index.result c.insert.new.self c.insert.ensures.variable
          (one-with c.args.added.now (get_or c.loop-var.cells c.index_of-index.result c.index-cells-index.result) c.insert.new.self c.in-Some-pop.place
          (next-has_cell _ _ _ _ _ _ s c.index_of-index.result c.index_of-index.ensures.bound c.index_of-index.ensures.variable c.index-cells-index.result) place.0 c.insert.ensures.variable c.insert.ensures.clauses c.insert.ensures.spare);
      places = place.1;
    }
