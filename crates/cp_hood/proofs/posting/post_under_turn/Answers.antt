use Rattle.std.proofs.Common.{length, refl, sym, subst}
use Rattle.cp_logic.specs.Entries.{Entry}
use Rattle.cp_logic.specs.Journals.{Post}
use Rattle.cp_logic.specs.Views.{entry_of}
use Rattle.cp_book.specs.Answers.{answer_to}
use Rattle.cp_book.specs.Views.{current}
use Rattle.cp_occ.specs.Changes.{IsChange}
use Rattle.cp_hood.proofs.Following.{legal-change, HoldsAll-hood}
use Rattle.cp_book.proofs.Choices.{posted-ok}
use Rattle.cp_hood.proofs.Outcomes.{on-ok, posts-made}
use Rattle.cp_hood.proofs.posting.post_under_turn.Goals as goal

pub follow-requires-clause-change : goal.follow-requires-clause-change
follow-requires-clause-change c =
    let b = c.args.book in let h = c.args.hood.now in
    subst (λ (e : Entry). IsChange h.cells e) (sym c.requires.ready.second)
    (legal-change (current b) b.rules (entry_of c.args.entry) h c.is_hood.ensures c.requires.clauses c.requires.at c.requires.taken.legal c.is_legal.ensures.now c.requires.taken.numbered)

pub end_turn_with-receipt-requires-clause-post : goal.end_turn_with-receipt-requires-clause-post
end_turn_with-receipt-requires-clause-post c =
    let b = c.args.book in let e = entry_of c.args.entry in
    let p : Post = record { worker = c.args.seat.now.view.number; round = c.args.round; entry = e } in
    let ok = on-ok c.post.result (posted-ok c.post.result (answer_to b e) (length b.posts) c.post.ensures.answer c.requires.taken.answer) c.post.ensures.ok in (
      b.posts,
      p,
      c.requires.turn,
      posts-made b c.post.new.self e c.args.seat.now.view.number c.number.result c.args.round ok c.number.ensures c.requires.taken.numbered,
      refl,
      HoldsAll-hood (current b) b.rules e c.args.hood.now c.is_hood.ensures c.requires.clauses c.requires.at c.requires.taken.legal c.args.seat.now.view.held c.requires.held,
    )

pub returns-clause-position : goal.returns-clause-position
returns-clause-position c =
    let b = c.args.book in let e = entry_of c.args.entry in
    let p : Post = record { worker = c.args.seat.now.view.number; round = c.args.round; entry = e } in
    let ok = on-ok c.post.result (posted-ok c.post.result (answer_to b e) (length b.posts) c.post.ensures.answer c.requires.taken.answer) c.post.ensures.ok in
    c.end_turn_with-receipt.ensures.position b.posts p c.requires.turn
    (posts-made b c.post.new.self e c.args.seat.now.view.number c.number.result c.args.round ok c.number.ensures c.requires.taken.numbered)

pub returns-clause-seat : goal.returns-clause-seat
returns-clause-seat c =
    let b = c.args.book in let e = entry_of c.args.entry in
    let p : Post = record { worker = c.args.seat.now.view.number; round = c.args.round; entry = e } in
    let ok = on-ok c.post.result (posted-ok c.post.result (answer_to b e) (length b.posts) c.post.ensures.answer c.requires.taken.answer) c.post.ensures.ok in
    c.end_turn_with-receipt.ensures.seat b.posts p c.requires.turn
    (posts-made b c.post.new.self e c.args.seat.now.view.number c.number.result c.args.round ok c.number.ensures c.requires.taken.numbered)
