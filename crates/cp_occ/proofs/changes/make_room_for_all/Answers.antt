use Rattle.std.proofs.Common.{length, sym, ◌∙◌, subst, arith}
use Rattle.cp_logic.specs.declared.named.Named.{Named}
use Rattle.cp_occ.specs.Cells.{variables_of}
use Rattle.cp_occ.specs.Changes.{AreOver, IsRoomier}
use Rattle.cp_occ.proofs.Changed.{Each-more, roomier-then, Each-all, room-for_all}
use Rattle.cp_occ.proofs.changes.make_room_for_all.Goals as goal

pub returns-clause-room : goal.returns-clause-room
returns-clause-room c =
    room-for_all c.args.added.now c.args.cells.now c.loop-named.cells
    (Each-all (IsRoomier (length c.args.added.now)) c.args.added.now c.loop-named.named-index c.args.cells.now c.loop-named.cells (omega (arith, c.loop-named-test.false)) c.loop-named.invariant.each)

pub make_room-requires-clause-ascending : goal.make_room-requires-clause-ascending
make_room-requires-clause-ascending c = rw c.loop-named.invariant.variables c.requires.ascending

pub make_room-requires-clause-within : goal.make_room-requires-clause-within
make_room-requires-clause-within c =
    rw c.loop-named.invariant.variables
    (subst (λ (z : Named). AreOver (variables_of c.args.cells.now) z.clause) (sym c.named-item.is) (c.requires.within c.loop-named.named-index c.named-item.result c.loop-named-test.true))

pub loop-named-preserved : goal.loop-named-preserved
loop-named-preserved c = record {
  each = Each-more (IsRoomier (length c.args.added.now)) (roomier-then (length c.args.added.now)) c.args.added.now c.loop-named.named-index c.named-item.result c.args.cells.now c.loop-named.cells c.make_room.new.cells
      c.loop-named-test.true (sym c.named-item.is) c.loop-named.invariant.each c.in_ok-make_room.ensures.room;
  variables = c.in_ok-make_room.ensures.variables ∙ c.loop-named.invariant.variables;
  lists = c.in_ok-make_room.ensures.lists ∙ c.loop-named.invariant.lists;
}
