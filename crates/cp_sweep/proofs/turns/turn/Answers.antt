use Rattle.std.proofs.Common.{arith}
use Rattle.cp_logic.proofs.JournalRuns.{journal-formula}
use Rattle.cp_sweep.proofs.turns.turn.Goals as goal

pub search_at-requires-clause-high : goal.search_at-requires-clause-high
search_at-requires-clause-high c =
    let b = c.args.state.now.book in
    let same = (journal-formula b.first b.rules b.posts c.is_legal.ensures.first c.is_legal.ensures.journal).1 in
    omega (arith, c.requires.ready.high, same)

pub settle_at-requires-clause-high : goal.settle_at-requires-clause-high
settle_at-requires-clause-high c =
    let b = c.args.state.now.book in
    let same = (journal-formula b.first b.rules b.posts c.is_legal.ensures.first c.is_legal.ensures.journal).1 in
    omega (arith, c.requires.ready.high, same)

pub post_found-requires-clause-room : goal.post_found-requires-clause-room
post_found-requires-clause-room c =
    let b = c.args.state.now.book in
    let same = (journal-formula b.first b.rules b.posts c.is_legal.ensures.first c.is_legal.ensures.journal).1 in
    omega (arith, c.requires.ready.room, same)
