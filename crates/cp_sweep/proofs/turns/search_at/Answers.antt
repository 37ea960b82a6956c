use Rattle.std.proofs.Common.{◌≡◌, List, sym, ◌∙◌, ap, subst}
use Rattle.std.specs.Option.{option_map, option_copied}
use Rattle.std.proofs.lemmas.Result.{IfOk-weaker}
use Rattle.cp_logic.specs.declared.named.Named.{Named}
use Rattle.cp_logic.specs.Legality.{first, first_in}
use Rattle.cp_logic.specs.Views.{entry_of}
use Rattle.cp_book.specs.Views.{current}
use Rattle.cp_find.specs.Past.{IsPast}
use Rattle.cp_find.proofs.Searches.{first-from_cell}
use Rattle.cp_sweep.proofs.CellReading.{cell-there, cell-is}
use Rattle.cp_sweep.proofs.turns.search_at.Goals as goal

pub unreachable-requires : goal.unreachable-requires
unreachable-requires c =
    cell-there (current c.args.state.now.book) c.args.state.now.cells.items c.requires.cells c.args.state.now.mark c.requires.low c.requires.high
    (sym (sym (ap option_copied c.in_default.is) ∙ c.get.ensures))

pub search-requires-clause-past : goal.search-requires-clause-past
search-requires-clause-past c =
    let f = current c.args.state.now.book in
    let is = cell-is f c.args.state.now.cells.items c.requires.cells c.args.state.now.mark c.requires.low c.requires.high c.in-Some.cell.now
    (sym c.get.ensures ∙ ap option_copied c.in-Some.is) in
    subst (λ x. IsPast x c.in-Some.cell.now.clauses c.args.reached.now) (sym is.0)
    (subst (λ (cs : List Named). IsPast c.args.state.now.mark cs c.args.reached.now) (sym is.1) c.requires.past)

pub returns : goal.returns
returns c =
    let f = current c.args.state.now.book in
    let is = cell-is f c.args.state.now.cells.items c.requires.cells c.args.state.now.mark c.requires.low c.requires.high c.in-Some.cell.now
    (sym c.get.ensures ∙ ap option_copied c.in-Some.is) in
    let first_is = first-from_cell f c.args.state.now.book.rules c.args.state.now.mark c.in-Some.cell.now.clauses c.requires.filled is.1 in
    record {
      found = IfOk-weaker c.search.result (λ found. option_map entry_of found ≡ first_in c.in-Some.cell.now.clauses c.rules.result.now c.next.result c.in-Some.cell.now.variable)
          (λ found. option_map entry_of found ≡ first f c.args.state.now.book.rules c.args.state.now.mark)
          (λ found h. rw (c.rules.ensures, c.next.ensures, is.0) at h ∙ first_is)
          c.search.ensures.found;
      past = subst (λ (cs : List Named). IsPast c.args.state.now.mark cs c.search.new.reached) is.1
          (subst (λ x. IsPast x c.in-Some.cell.now.clauses c.search.new.reached) is.0 c.search.ensures.past);
    }
