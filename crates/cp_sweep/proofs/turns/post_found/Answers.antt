use Rattle.std.proofs.Common.{List, length, sym, ◌∙◌, ap, subst, arith}
use Rattle.cp_logic.specs.Legality.{is_legal_in}
use Rattle.cp_logic.specs.Entries.{numbered}
use Rattle.cp_logic.specs.Journals.{folded}
use Rattle.cp_logic.specs.Views.{entry_of}
use Rattle.cp_logic.specs.Formulas.{occurrences}
use Rattle.cp_logic.specs.declared.named.Named.{Named}
use Rattle.cp_find.specs.Past.{IsPast}
use Rattle.cp_book.specs.Answers.{answer_to, Posted}
use Rattle.cp_book.specs.Views.{BookView, current, with_post}
use Rattle.cp_occ.specs.Changes.{AreCellsOf}
use Rattle.cp_occ.proofs.Posted.{AreCellsOf-same, cells-ascending, new-within, legal-change}
use Rattle.cp_sweep.proofs.Entries.{first-legal, first-legal_in, first-no_look, first-numbered}
use Rattle.cp_sweep.specs.Marks.{with_marks}
use Rattle.cp_sweep.specs.Cursor.{touched_by}
use Rattle.cp_sweep.proofs.Touching.{touched-within}
use Rattle.cp_sweep.proofs.Posting.{takes, posted-cells, posted-occurrences, posted-turn, turn_at}
use Rattle.cp_sweep.proofs.turns.post_found.Goals as goal

pub prepare-requires : goal.prepare-requires
prepare-requires c = first-no_look (current c.args.state.now.book) c.args.state.now.book.rules c.args.state.now.mark (entry_of c.args.entry) c.requires.found

pub prepare-requires-2-clause-ascending : goal.prepare-requires-2-clause-ascending
prepare-requires-2-clause-ascending c = cells-ascending (current c.args.state.now.book) c.args.state.now.cells.items c.requires.cells

pub prepare-requires-2-clause-within : goal.prepare-requires-2-clause-within
prepare-requires-2-clause-within c =
    let f = current c.args.state.now.book in let rules = c.args.state.now.book.rules in let e = entry_of c.args.entry in
    new-within f rules e c.args.state.now.cells.items c.requires.valid (first-legal f rules c.args.state.now.mark e c.requires.found) c.requires.cells

pub apply-requires-clause-ascending : goal.apply-requires-clause-ascending
apply-requires-clause-ascending c =
    let f = current c.args.state.now.book in
    cells-ascending f c.prepare-2.new.self.items (AreCellsOf-same f c.args.state.now.cells.items c.prepare-2.new.self.items c.prepare-2.ensures.variables c.prepare-2.ensures.lists c.requires.cells)

pub apply-requires-clause-change : goal.apply-requires-clause-change
apply-requires-clause-change c =
    let f = current c.args.state.now.book in let rules = c.args.state.now.book.rules in let e = entry_of c.args.entry in
    legal-change f rules e c.prepare-2.new.self.items c.requires.valid (first-legal f rules c.args.state.now.mark e c.requires.found)
    (first-numbered f rules c.args.state.now.mark e c.requires.found)
    (AreCellsOf-same f c.args.state.now.cells.items c.prepare-2.new.self.items c.prepare-2.ensures.variables c.prepare-2.ensures.lists c.requires.cells)

pub append-requires-clause-commit : goal.append-requires-clause-commit
append-requires-clause-commit c = first-no_look (current c.args.state.now.book) c.args.state.now.book.rules c.args.state.now.mark (entry_of c.args.entry) c.requires.found

pub append-requires-clause-legal : goal.append-requires-clause-legal
append-requires-clause-legal c =
    let b = c.args.state.now.book in let e = entry_of c.args.entry in
    ap (λ (d : BookView). is_legal_in (current d).clauses d.rules (numbered (current d).next e)) c.prepare.ensures.same ∙ first-legal_in (current b) b.rules c.args.state.now.mark e c.requires.found

pub append-requires-clause-taken : goal.append-requires-clause-taken
append-requires-clause-taken c =
    let b = c.args.state.now.book in let e = entry_of c.args.entry in
    ap (λ (d : BookView). answer_to d e) c.prepare.ensures.same
    ∙ takes b e c.requires.goes_on (sym c.passes_numbers.ensures ∙ c.if-passes_numbers.false)
    ∙ ap (λ (d : BookView). Posted (length d.posts)) (sym c.prepare.ensures.same)

pub returns-clause-turn : goal.returns-clause-turn
returns-clause-turn c =
    let b = c.args.state.now.book in let f = current b in let e = entry_of c.args.entry in
    ap (turn_at c.append.new.book.posts c.args.state.now.mark) c.touch.ensures
    ∙ ap (λ (d : BookView). turn_at d.posts c.args.state.now.mark (with_marks c.args.state.now.touched (touched_by e))) (c.append.ensures ∙ ap (λ (d : BookView). with_post d 0 0 e) c.prepare.ensures.same)
    ∙ posted-turn b e (first-numbered f b.rules c.args.state.now.mark e c.requires.found)
    c.args.state.now.mark c.args.state.now.touched (sym c.passes_numbers.ensures ∙ c.if-passes_numbers.false)

pub returns-clause-cells : goal.returns-clause-cells
returns-clause-cells c =
    let b = c.args.state.now.book in let f = current b in let e = entry_of c.args.entry in
    let book_is = c.append.ensures ∙ ap (λ (d : BookView). with_post d 0 0 e) c.prepare.ensures.same in
    subst (λ (d : BookView). AreCellsOf (current d) c.apply.new.self.items) (sym book_is)
    (posted-cells b e (first-numbered f b.rules c.args.state.now.mark e c.requires.found) b.rules c.prepare-2.new.self.items c.apply.new.self.items
    c.requires.valid (first-legal f b.rules c.args.state.now.mark e c.requires.found)
    (AreCellsOf-same f c.args.state.now.cells.items c.prepare-2.new.self.items c.prepare-2.ensures.variables c.prepare-2.ensures.lists c.requires.cells)
    c.apply.ensures.variables c.apply.ensures.lists)

pub touch-requires : goal.touch-requires
touch-requires c =
    let b = c.args.state.now.book in let f = current b in let e = entry_of c.args.entry in
    let legal = first-legal f b.rules c.args.state.now.mark e c.requires.found in
    let named = first-numbered f b.rules c.args.state.now.mark e c.requires.found in
    λ x i. let r = touched-within (folded b.first b.posts) b.rules e c.requires.valid legal named x i in omega (arith, r.1, c.requires.room)

pub returns-clause-past : goal.returns-clause-past
returns-clause-past c =
    let b = c.args.state.now.book in let f = current b in let e = entry_of c.args.entry in let x = c.args.state.now.mark in
    let book_is = c.append.ensures ∙ ap (λ (d : BookView). with_post d 0 0 e) c.prepare.ensures.same in
    let clauses_are = posted-occurrences b e (first-numbered f b.rules x e c.requires.found) b.rules x c.requires.valid (first-legal f b.rules x e c.requires.found) in
    subst (λ (d : BookView). IsPast x (occurrences (current d).clauses x) c.follow.new.self) (sym book_is)
    (subst (λ (cs : List Named). IsPast x cs c.follow.new.self) (sym clauses_are) (c.follow.ensures (occurrences f.clauses x) f.next c.requires.past))
