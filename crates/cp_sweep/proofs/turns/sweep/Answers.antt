use Rattle.std.proofs.Common.{◌≡◌, ℕ, ◌-◌, Some, None, refl, sym, ◌∙◌, ap, subst, arith}
use Rattle.cp_logic.specs.declared.settings.Rules.{Rules}
use Rattle.cp_logic.specs.Formulas.{Formula, occurrences}
use Rattle.cp_logic.specs.Journals.{folded, IsLegalJournal}
use Rattle.cp_logic.proofs.JournalRuns.{journal-formula}
use Rattle.cp_book.specs.Views.{current}
use Rattle.cp_occ.specs.Changes.{AreCellsOf}
use Rattle.cp_find.specs.Past.{IsPast}
use Rattle.cp_sweep.specs.Marks.{is_marked, IsFirstAround}
use Rattle.cp_sweep.specs.Cursor.{left_at, moved}
use Rattle.cp_sweep.specs.Sweeping.{cursor_of, IsSilentAt}
use Rattle.cp_sweep.proofs.CellReading.{silent-there}
use Rattle.cp_sweep.proofs.UnderWay.{under_way-start, under_way-moved, under_way-next, under_way-stop, under_way-end, searches-fewer}
use Rattle.cp_sweep.proofs.Turning.{turn-is, swept-closed, swept-unspent, stop_there, stop-named}
use Rattle.cp_sweep.proofs.turns.sweep.Goals as goal

pub searches-init : goal.searches-init
searches-init c =
    let b = c.args.ground.book in let f = b.first in let marks = c.in_ok-touched.touched in
    let same : (current b).variables ≡ f.variables = (journal-formula f b.rules b.posts c.is_legal.ensures.first c.is_legal.ensures.journal).1 in
    let many : c.vars.result ≡ f.variables = c.vars.ensures.value ∙ ap (λ (g : Formula). g.variables) c.clauses.ensures ∙ same in
    let all = c.in_ok-touched.ensures in
    record {
      under_way = under_way-start f b.rules b.posts marks c.requires.numbers c.is_legal.ensures.journal (omega (arith, all.room, many))
          (λ x m. let p = all.within x m in (p.0, omega (arith, p.1, many)))
          (λ x u l h. silent-there (current b) c.args.ground.cells.items c.requires.cells x l (omega (arith, h, same)) b.rules
          (subst (λ (r : Rules). IsSilentAt c.args.ground.cells.items r (x - 1)) c.rules.ensures (all.silent x u l (omega (arith, h, many)))));
      first = refl;
      rules = refl;
      cells = c.requires.cells;
      past = c.start.ensures 1 (occurrences (left_at f (record { posts = b.posts; mark = 1; touched = marks })).clauses 1);
    }

pub next_touched-requires : goal.next_touched-requires
next_touched-requires c = λ x m.
    let b = c.args.ground.book in let f = b.first in
    let same : (current b).variables ≡ f.variables = (journal-formula f b.rules b.posts c.is_legal.ensures.first c.is_legal.ensures.journal).1 in
    let many : c.vars.result ≡ f.variables = c.vars.ensures.value ∙ ap (λ (g : Formula). g.variables) c.clauses.ensures ∙ same in
    omega (arith, (c.searches.invariant.under_way.within x m).1, c.vars.ensures.most)

pub turn-requires-clause-past : goal.turn-requires-clause-past
turn-requires-clause-past c =
    let s = c.searches.state in let x = c.in-Some.var in
    subst (λ (g : Formula). IsPast x (occurrences (left_at g (cursor_of s)).clauses x) c.move_to.new.reached) (sym c.searches.invariant.first)
    (c.move_to.ensures (left_at c.args.ground.book.first (cursor_of s)).clauses c.searches.invariant.past)

pub returns-in-Some-2-clause-swept : goal.returns-in-Some-2-clause-swept
returns-in-Some-2-clause-swept c =
    let f = c.args.ground.book.first in let rules = c.args.ground.book.rules in let before = c.args.ground.book.posts in
    let s = c.searches.state in let at = moved (cursor_of s) c.in-Some.var in let d = cursor_of c.turn.new.state in
    let around = subst (IsFirstAround (is_marked s.touched) s.mark) c.in-Some.is c.next_touched.ensures in
    let way = under_way-moved f rules c.is_legal.ensures.first before (cursor_of s) c.searches.invariant.under_way c.in-Some.var around in
    let next = turn-is f s.book.first rules s.book.rules at d c.in_ok-stop.field-0 c.searches.invariant.first c.searches.invariant.rules c.in_ok-stop.ensures.turn (Some c.in-Some-2.stop) c.in-Some-2.is in
    let left_is : current c.turn.new.state.book ≡ left_at f d = ap (λ (g : Formula). (folded g c.turn.new.state.book.posts).formula) (c.in_ok-stop.ensures.first ∙ c.searches.invariant.first) in
    swept-closed f rules before d.posts c.closed.result.journal.items (left_at f d) c.closed.result.formula.formula (Some c.in-Some-2.stop) c.closed.result.stopped
    c.closed.ensures.journal (c.closed.ensures.formula ∙ left_is) c.closed.ensures.stopped
    (under_way-stop f rules before at d c.in-Some-2.stop c.is_legal.ensures.first way.0 way.1 next)

pub returns-in-Some-2-clause-unspent : goal.returns-in-Some-2-clause-unspent
returns-in-Some-2-clause-unspent c =
    swept-unspent c.args.ground.book.first c.args.ground.book.rules c.args.ground.book.posts c.closed.result.journal.items c.closed.result.formula.formula c.closed.result.stopped
    c.is_legal.ensures.first (returns-in-Some-2-clause-swept c)

pub searches-smaller : goal.searches-smaller
searches-smaller c =
    let f = c.args.ground.book.first in let rules = c.args.ground.book.rules in let before = c.args.ground.book.posts in
    let s = c.searches.state in let at = moved (cursor_of s) c.in-Some.var in let d = cursor_of c.turn.new.state in
    let around = subst (IsFirstAround (is_marked s.touched) s.mark) c.in-Some.is c.next_touched.ensures in
    let way = under_way-moved f rules c.is_legal.ensures.first before (cursor_of s) c.searches.invariant.under_way c.in-Some.var around in
    let next = turn-is f s.book.first rules s.book.rules at d c.in_ok-stop.field-0 c.searches.invariant.first c.searches.invariant.rules c.in_ok-stop.ensures.turn None c.in_default-2.is in
    searches-fewer f rules before at d c.is_legal.ensures.first way.0 way.1 next

pub searches-preserved : goal.searches-preserved
searches-preserved c =
    let f = c.args.ground.book.first in let rules = c.args.ground.book.rules in let before = c.args.ground.book.posts in
    let s = c.searches.state in let at = moved (cursor_of s) c.in-Some.var in let d = cursor_of c.turn.new.state in
    let around = subst (IsFirstAround (is_marked s.touched) s.mark) c.in-Some.is c.next_touched.ensures in
    let way = under_way-moved f rules c.is_legal.ensures.first before (cursor_of s) c.searches.invariant.under_way c.in-Some.var around in
    let next = turn-is f s.book.first rules s.book.rules at d c.in_ok-stop.field-0 c.searches.invariant.first c.searches.invariant.rules c.in_ok-stop.ensures.turn None c.in_default-2.is in
    let first_is = c.in_ok-stop.ensures.first ∙ c.searches.invariant.first in
    let rules_are = c.in_ok-stop.ensures.rules ∙ c.searches.invariant.rules in
    let legal = subst (λ (r : Rules). IsLegalJournal f r d.posts) rules_are (subst (λ (g : Formula). IsLegalJournal g c.turn.new.state.book.rules d.posts) first_is c.in_ok-stop.ensures.legal) in
    record {
      under_way = under_way-next f rules before at d c.is_legal.ensures.first way.0 way.1 next legal;
      first = first_is;
      rules = rules_are;
      cells = subst (λ (g : Formula). AreCellsOf (left_at g d) c.turn.new.state.cells.items) first_is c.in_ok-stop.ensures.cells;
      past = subst (λ (g : Formula). IsPast d.mark (occurrences (left_at g d).clauses d.mark) c.turn.new.state.reached) first_is c.in_ok-stop.ensures.past;
    }

pub returns-clause-swept : goal.returns-clause-swept
returns-clause-swept c =
    let f = c.args.ground.book.first in let rules = c.args.ground.book.rules in let before = c.args.ground.book.posts in let s = c.searches.state in let at = cursor_of s in
    let done : (x : ℕ) → is_marked s.touched x ≡ _ = subst (IsFirstAround (is_marked s.touched) s.mark) c.in_default.is c.next_touched.ensures in
    let left_is : current s.book ≡ left_at f at = ap (λ (g : Formula). (folded g s.book.posts).formula) c.searches.invariant.first in
    let stop_is = c.closed-2.ensures.stopped ∙ c.stopped-stopped.ensures ∙ stop-named f s.book.first rules s.book.rules s.book.posts c.searches.invariant.first c.searches.invariant.rules in
    swept-closed f rules before at.posts c.closed-2.result.journal.items (left_at f at) c.closed-2.result.formula.formula
    (stop_there f rules at.posts) c.closed-2.result.stopped
    c.closed-2.ensures.journal (c.closed-2.ensures.formula ∙ left_is) stop_is
    (under_way-end f rules before at c.is_legal.ensures.first c.searches.invariant.under_way done)

pub returns-clause-unspent : goal.returns-clause-unspent
returns-clause-unspent c =
    swept-unspent c.args.ground.book.first c.args.ground.book.rules c.args.ground.book.posts c.closed-2.result.journal.items c.closed-2.result.formula.formula c.closed-2.result.stopped
    c.is_legal.ensures.first (returns-clause-swept c)
