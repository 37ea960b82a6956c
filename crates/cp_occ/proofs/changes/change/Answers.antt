use Rattle.cp_occ.specs.Changes.{IsWithout}
use Rattle.cp_occ.proofs.Changed.{ascending-kept, over-kept, within-second, named-second, above-second, changed-all}
use Rattle.cp_occ.proofs.changes.change.Goals as goal

pub remove_all-requires-2-clause-ascending : goal.remove_all-requires-2-clause-ascending
remove_all-requires-2-clause-ascending c = ascending-kept (IsWithout c.args.first.now) c.args.cells.now c.remove_all.new.cells (λ a b w. w.variable) c.remove_all.ensures c.requires.ascending

pub remove_all-requires-2-clause-within : goal.remove_all-requires-2-clause-within
remove_all-requires-2-clause-within c = within-second c.args.first.now c.args.second.now c.args.cells.now c.remove_all.new.cells c.remove_all.ensures c.requires.gone_within

pub remove_all-requires-2-clause-named : goal.remove_all-requires-2-clause-named
remove_all-requires-2-clause-named c = named-second c.args.first.now c.args.second.now c.args.cells.now c.remove_all.new.cells c.remove_all.ensures c.requires.named

pub insert_all-requires-clause-ascending : goal.insert_all-requires-clause-ascending
insert_all-requires-clause-ascending c =
    ascending-kept (IsWithout c.args.second.now) c.remove_all.new.cells c.remove_all-2.new.cells (λ a b w. w.variable) c.remove_all-2.ensures
    (ascending-kept (IsWithout c.args.first.now) c.args.cells.now c.remove_all.new.cells (λ a b w. w.variable) c.remove_all.ensures c.requires.ascending)

pub insert_all-requires-clause-within : goal.insert_all-requires-clause-within
insert_all-requires-clause-within c =
    over-kept (IsWithout c.args.second.now) c.remove_all.new.cells c.remove_all-2.new.cells (λ a b w. w.variable) c.remove_all-2.ensures c.args.added.now
    (over-kept (IsWithout c.args.first.now) c.args.cells.now c.remove_all.new.cells (λ a b w. w.variable) c.remove_all.ensures c.args.added.now c.requires.within)

pub insert_all-requires-clause-above : goal.insert_all-requires-clause-above
insert_all-requires-clause-above c =
    above-second c.args.first.now c.args.second.now c.args.added.now c.args.cells.now c.remove_all.new.cells c.remove_all-2.new.cells c.remove_all.ensures c.remove_all-2.ensures c.requires.above

pub returns : goal.returns
returns c =
    changed-all c.args.first.now c.args.second.now c.args.added.now c.args.cells.now c.remove_all.new.cells c.remove_all-2.new.cells c.insert_all.new.cells c.remove_all.ensures c.remove_all-2.ensures
    c.insert_all.ensures
