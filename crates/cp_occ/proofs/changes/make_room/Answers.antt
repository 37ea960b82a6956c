use Rattle.std.proofs.Common.{[], ◌∷◌, get_or, refl, sym, ◌∙◌, subst}
use Rattle.std.proofs.Math.Seq.{map-set_same}
use Rattle.cp_occ.specs.Cells.{CellView}
use Rattle.cp_occ.specs.Changes.{IsRoomier}
use Rattle.cp_occ.proofs.Changed.{Going, Going-start, Going-next, Going-step, next-ascending, next-over, same-room}
use Rattle.cp_occ.proofs.changes.make_room.Goals as goal

pub loop-var-init : goal.loop-var-init
loop-var-init c =
    record {
      going = subst (Going (IsRoomier c.args.n (c.args.added.now ∷ [])) c.args.added.now.clause c.args.cells.now c.args.cells.now) (sym (c.into_iter-var-iterator.ensures.into_iter_gives ∙ c.of-var-items.ensures.value))
          (Going-start (IsRoomier c.args.n (c.args.added.now ∷ [])) c.args.added.now.clause c.args.cells.now c.requires.ascending c.of-var-items.ensures.ascending c.of-var-items.ensures.literals c.requires.within
          (λ k d h f. same-room c.args.n c.args.added.now (get_or c.args.cells.now k d) f));
      lists = refl;
    }

pub index_of-index-requires-clause-ascending : goal.index_of-index-requires-clause-ascending
index_of-index-requires-clause-ascending c = next-ascending _ _ _ _ _ _ (Going-next _ _ _ _ _ _ _ c.loop-var.invariant.going c.in-Some.ensures.steps)

pub index_of-index-requires-clause-has : goal.index_of-index-requires-clause-has
index_of-index-requires-clause-has c = next-over _ _ _ _ _ _ (Going-next _ _ _ _ _ _ _ c.loop-var.invariant.going c.in-Some.ensures.steps)

pub loop-var-preserved : goal.loop-var-preserved
loop-var-preserved c =
    record {
      going = Going-step (IsRoomier c.args.n (c.args.added.now ∷ [])) c.args.added.now.clause c.args.cells.now c.loop-var.cells c.in-Some.var c.next.new.self
          (Going-next _ _ _ _ _ _ _ c.loop-var.invariant.going c.in-Some.ensures.steps) c.index_of-index.result c.index_of-index.ensures.bound c.index_of-index.ensures.variable
          c.index-cells-index.result c.reserve.new.self c.in_ok-reserve.ensures.variable
          (record { variable = c.in_ok-reserve.ensures.variable; clauses = c.in_ok-reserve.ensures.clauses; more = c.in_ok-reserve.ensures.more; room = λ d i t. c.in_ok-reserve.ensures.ok });
      lists = map-set_same (λ (x : CellView). x.clauses) c.loop-var.cells c.index_of-index.result c.reserve.new.self c.index-cells-index.result c.in_ok-reserve.ensures.clauses ∙ c.loop-var.invariant.lists;
    }

pub returns-in_err-reserve-clause-variables : goal.returns-in_err-reserve-clause-variables
returns-in_err-reserve-clause-variables c =
    map-set_same (λ (x : CellView). x.variable) c.loop-var.cells c.index_of-index.result c.reserve.new.self c.index-cells-index.result c.in_err-reserve.ensures.variable ∙ c.loop-var.invariant.going.variables

pub returns-in_err-reserve-clause-lists : goal.returns-in_err-reserve-clause-lists
returns-in_err-reserve-clause-lists c =
    map-set_same (λ (x : CellView). x.clauses) c.loop-var.cells c.index_of-index.result c.reserve.new.self c.index-cells-index.result c.in_err-reserve.ensures.clauses ∙ c.loop-var.invariant.lists
