use Rattle.std.proofs.Common.{◌≡◌}
use Rattle.cp_logic.specs.Formulas.{occurrences}
use Rattle.cp_occ.specs.Changes.{AreCellsOf}
use Rattle.cp_find.specs.Past.{IsPast}
use Rattle.cp_sweep.specs.Cursor.{left_at}
use Rattle.cp_sweep.specs.Sweeping.{cursor_of}
use Rattle.cp_sweep.proofs.UnderWay.{IsUnderWay, searches_left}
use Rattle.cp_sweep.proofs.turns.sweep.Given as goal

abbrev pub invariant-searches : goal.invariant-searches
invariant-searches l = record {
  under_way : IsUnderWay l.fn.ground.book.first l.fn.ground.book.rules l.fn.ground.book.posts (cursor_of l.state);
  first : l.state.book.first ≡ l.fn.ground.book.first;
  rules : l.state.book.rules ≡ l.fn.ground.book.rules;
  cells : AreCellsOf (left_at l.fn.ground.book.first (cursor_of l.state)) l.state.cells.items;
  past : IsPast l.state.mark (occurrences (left_at l.fn.ground.book.first (cursor_of l.state)).clauses l.state.mark) l.state.reached;
}

abbrev pub decreases-searches : goal.decreases-searches
decreases-searches l = searches_left l.fn.ground.book.first l.fn.ground.book.rules (cursor_of l.state)
