use Rattle.std.proofs.Common.{arith}
use Rattle.cp_find.proofs.Lookups.{put-keeps, put-has}
use Rattle.cp_find.proofs.lookup.enter_at.Goals as goal

pub returns-clause-kept : goal.returns-clause-kept
returns-clause-kept c =
    put-keeps c.args.buckets.now.items c.place.result c.index_mut.result.now c.put.new.self (omega (arith, c.place.ensures.within, c.requires.within)) c.index_mut.ensures.value c.in_ok-put.ensures.kept

pub returns-clause-entered : goal.returns-clause-entered
returns-clause-entered c = λ n.
    put-has c.args.buckets.now.items c.place.result _ c.put.new.self c.args.entry (omega (arith, c.place.ensures.within, c.requires.within)) c.place.ensures.value c.in_ok-put.ensures.has
