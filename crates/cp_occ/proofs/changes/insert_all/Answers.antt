use Rattle.std.proofs.Common.{take, sym, subst}
use Rattle.cp_logic.specs.declared.named.Named.{Named}
use Rattle.cp_occ.specs.Cells.{variables_of}
use Rattle.cp_occ.specs.Changes.{AreOver, IsWith}
use Rattle.cp_occ.proofs.Changed.{ascending-kept, over-kept, above-kept, room-left}
use Rattle.cp_occ.proofs.changes.insert_all.Goals as goal

pub insert_everywhere-requires-clause-above : goal.insert_everywhere-requires-clause-above
insert_everywhere-requires-clause-above c =
    above-kept c.args.added.now c.loop-named.named-index c.named-item.result c.args.cells.now c.loop-named.cells c.loop-named-test.true (sym c.named-item.is) c.loop-named.invariant.each c.requires.rising c.requires.above

pub insert_everywhere-requires-clause-room : goal.insert_everywhere-requires-clause-room
insert_everywhere-requires-clause-room c =
    room-left c.args.added.now c.loop-named.named-index c.named-item.result c.args.cells.now c.loop-named.cells c.loop-named-test.true (sym c.named-item.is) c.loop-named.invariant.each c.requires.room

pub insert_everywhere-requires-clause-ascending : goal.insert_everywhere-requires-clause-ascending
insert_everywhere-requires-clause-ascending c = ascending-kept (IsWith (take c.loop-named.named-index c.args.added.now)) c.args.cells.now c.loop-named.cells (λ a b w. w.variable) c.loop-named.invariant.each c.requires.ascending

pub insert_everywhere-requires-clause-within : goal.insert_everywhere-requires-clause-within
insert_everywhere-requires-clause-within c =
    subst (λ (z : Named). AreOver (variables_of c.loop-named.cells) z.clause) (sym c.named-item.is)
    (over-kept (IsWith (take c.loop-named.named-index c.args.added.now)) c.args.cells.now c.loop-named.cells (λ a b w. w.variable) c.loop-named.invariant.each c.args.added.now c.requires.within
    c.loop-named.named-index c.named-item.result c.loop-named-test.true)
