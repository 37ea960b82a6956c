use Rattle.std.proofs.Common.{◌≡◌, sym, ap, ◌∙◌, subst}
use Rattle.cp_logic.specs.Entries.{is_at, numbered}
use Rattle.cp_logic.specs.Views.{entry_of}
use Rattle.cp_logic.proofs.Complete.{is_at-numbered}
use Rattle.cp_book.specs.Views.{BookView, current}
use Rattle.cp_occ.specs.Changes.{HasRoom}
use Rattle.cp_occ.proofs.Posted.{HasRoom-numbered}
use Rattle.cp_yard.specs.Views.{Base}
use Rattle.cp_hood.specs.Hoods.{AreOccurrences}
use Rattle.cp_hood.proofs.Following.{AreOccurrences-held}
use Rattle.cp_hood.proofs.Outcomes.{on-ok, is-current, held-commit, held-holds, ended-holds, refused-commit, lacking-commit, posted-holds, posted-commit, taken}
use Rattle.cp_hood.proofs.Readying.{ready-numbered}
use Rattle.cp_hood.proofs.posting.commit.Goals as goal

pub returns-in-Err-clause-commit : goal.returns-in-Err-clause-commit
returns-in-Err-clause-commit c =
    let g = c.in-Err.ensures.met in
    held-commit c.args.seat.now.view c.take_turn.new.seat.view (entry_of c.args.entry) c.args.hood.now c.args.round c.args.tries c.in-Err.met.by g.0 g.1 g.2

pub returns-in-Err-clause-holds : goal.returns-in-Err-clause-holds
returns-in-Err-clause-holds c =
    let g = c.in-Err.ensures.met in
    held-holds c.args.seat.now.view c.take_turn.new.seat.view (entry_of c.args.entry) c.args.hood.now c.args.round c.args.tries c.in-Err.met.by g.0 g.1 g.2 c.requires.holds

pub returns-in-Some-clause-commit : goal.returns-in-Some-clause-commit
returns-in-Some-clause-commit c =
    let g = c.in-Ok.ensures.got in
    refused-commit c.args.seat.now.view c.take_turn.new.seat.view c.in-Ok.book c.args.tries g.0 g.1 g.2 c.in-Ok.ensures.base
    c.end_turn.new.seat.view c.end_turn.ensures.seat (entry_of c.args.entry) c.args.hood.now c.args.round
    (is-current c.args.seat.now.view c.in-Ok.book c.args.hood.now c.is_hood.ensures c.requires.holds c.in-Ok.ensures.held) c.in-Some.answer c.in-Some.ensures.some

pub returns-in-Some-clause-holds : goal.returns-in-Some-clause-holds
returns-in-Some-clause-holds c =
    let g = c.in-Ok.ensures.got in
    ended-holds c.args.seat.now.view c.take_turn.new.seat.view c.in-Ok.book c.args.tries g.0 g.1 g.2 c.in-Ok.ensures.base
    c.end_turn.new.seat.view c.end_turn.ensures.seat (entry_of c.args.entry) c.args.hood.now c.args.round c.requires.holds

pub returns-then-is_err-clause-commit : goal.returns-then-is_err-clause-commit
returns-then-is_err-clause-commit c =
    let g = c.in-Ok.ensures.got in
    lacking-commit c.args.seat.now.view c.take_turn.new.seat.view c.in-Ok.book c.args.tries g.0 g.1 g.2 c.in-Ok.ensures.base
    c.end_turn-then-is_err.new.seat.view c.end_turn-then-is_err.ensures.seat (entry_of c.args.entry) c.args.hood.now c.args.round
    (is-current c.args.seat.now.view c.in-Ok.book c.args.hood.now c.is_hood.ensures c.requires.holds c.in-Ok.ensures.held)

pub returns-then-is_err-clause-holds : goal.returns-then-is_err-clause-holds
returns-then-is_err-clause-holds c =
    let g = c.in-Ok.ensures.got in
    ended-holds c.args.seat.now.view c.take_turn.new.seat.view c.in-Ok.book c.args.tries g.0 g.1 g.2 c.in-Ok.ensures.base
    c.end_turn-then-is_err.new.seat.view c.end_turn-then-is_err.ensures.seat (entry_of c.args.entry) c.args.hood.now c.args.round c.requires.holds

pub post_under_turn-requires-clause-clauses : goal.post_under_turn-requires-clause-clauses
post_under_turn-requires-clause-clauses c =
    let b = c.in-Ok.book in let v = c.args.seat.now.view in let cells = c.args.hood.now.cells in
    subst (λ (z : BookView). AreOccurrences (current z).clauses cells) (sym c.prepare.ensures.same)
    (AreOccurrences-held (current b).clauses cells v.held c.is_hood.ensures.ascending c.requires.holds.held c.in-Ok.ensures.held)

pub post_under_turn-requires-clause-at : goal.post_under_turn-requires-clause-at
post_under_turn-requires-clause-at c =
    let e = entry_of c.args.entry in
    ap (is_at c.args.hood.now.centre) c.numbered-entry.ensures ∙ is_at-numbered c.args.hood.now.centre c.next-next.result e ∙ c.requires.legal.at

pub post_under_turn-requires-clause-taken : goal.post_under_turn-requires-clause-taken
post_under_turn-requires-clause-taken c =
    let b = c.in-Ok.book in let v = c.args.seat.now.view in let h = c.args.hood.now in let e = entry_of c.args.entry in
    let numbers : entry_of c.numbered-entry.result ≡ numbered (current b).next e = c.numbered-entry.ensures ∙ ap (λ n. numbered n e) c.next-next.ensures in
    let rules = ap (λ (f : Base). f.rules) (c.in-Ok.ensures.base ∙ c.requires.base) in
    taken b c.prepare.new.self e (entry_of c.numbered-entry.result) h c.args.yard.now.base.rules c.is_hood.ensures
    (AreOccurrences-held (current b).clauses h.cells v.held c.is_hood.ensures.ascending c.requires.holds.held c.in-Ok.ensures.held)
    c.requires.legal rules c.prepare.ensures.same numbers c.in_default.ensures.open_still c.in_default.ensures.unspent c.in_default.ensures.numbers
    (on-ok c.prepare.result (sym c.is_err.ensures.value ∙ c.if-is_err.false) c.prepare.ensures.ok)

pub post_under_turn-requires-clause-ready : goal.post_under_turn-requires-clause-ready
post_under_turn-requires-clause-ready c =
    ready-numbered c.next-next.result (entry_of c.args.entry) (entry_of c.numbered-entry.result) c.args.prepared c.numbered-prepared.result
    c.requires.prepared c.numbered-prepared.ensures.places c.numbered-prepared.ensures.second c.numbered-entry.ensures

pub post_under_turn-requires-clause-room : goal.post_under_turn-requires-clause-room
post_under_turn-requires-clause-room c =
    subst (HasRoom c.args.hood.now.cells) (sym c.numbered-entry.ensures) (HasRoom-numbered c.next-next.result (entry_of c.args.entry) c.args.hood.now.cells c.requires.room)

pub returns-clause-commit : goal.returns-clause-commit
returns-clause-commit c =
    let g = c.in-Ok.ensures.got in let b = c.in-Ok.book in let e = entry_of c.args.entry in
    posted-commit c.args.seat.now.view c.take_turn.new.seat.view b c.args.tries g.0 g.1 g.2 c.in-Ok.ensures.base
    c.post_under_turn.new.seat.view c.prepare.new.self e (entry_of c.numbered-entry.result) c.args.hood.now c.post_under_turn.new.hood c.args.round
    (ap (λ (z : BookView). z.posts) c.prepare.ensures.same) (c.numbered-entry.ensures ∙ ap (λ n. numbered n e) c.next-next.ensures) c.post_under_turn.ensures.seat c.post_under_turn.ensures.hood
    (is-current c.args.seat.now.view c.in-Ok.book c.args.hood.now c.is_hood.ensures c.requires.holds c.in-Ok.ensures.held) c.post_under_turn.result c.post_under_turn.ensures.position

pub returns-clause-holds : goal.returns-clause-holds
returns-clause-holds c =
    let g = c.in-Ok.ensures.got in let b = c.in-Ok.book in let e = entry_of c.args.entry in
    posted-holds c.args.seat.now.view c.take_turn.new.seat.view b c.args.tries g.0 g.1 g.2 c.in-Ok.ensures.base
    c.post_under_turn.new.seat.view c.prepare.new.self e (entry_of c.numbered-entry.result) c.args.hood.now c.post_under_turn.new.hood c.args.round
    (ap (λ (z : BookView). z.posts) c.prepare.ensures.same) (c.numbered-entry.ensures ∙ ap (λ n. numbered n e) c.next-next.ensures) c.post_under_turn.ensures.seat c.post_under_turn.ensures.hood
    c.requires.holds
