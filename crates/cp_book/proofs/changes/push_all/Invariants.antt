use Rattle.std.proofs.Common.{◌≡◌, ◌+◌, ◌≤◌, length}
use Rattle.std.specs.List.{All}
use Rattle.std.specs.Vec.Iter.{into_iter_items}
use Rattle.cp_logic.specs.Formulas.{IsWithin}
use Rattle.cp_logic.specs.Journals.{number_limit}
use Rattle.cp_book.specs.Changes.{with_all}
use Rattle.cp_book.proofs.changes.push_all.Given as goal

-- the clauses that are left are added from here on
abbrev pub invariant-loop-clause : goal.invariant-loop-clause
invariant-loop-clause l = record {
  formula : with_all l.formula.formula (into_iter_items l.clause-iterator) ≡ with_all l.initial.formula.formula l.fn.clauses.items;
  spare : length (into_iter_items l.clause-iterator) ≤ l.formula.spare;
  numbers : l.formula.formula.next + length (into_iter_items l.clause-iterator) ≤ number_limit;
  within : All (IsWithin l.formula.formula.variables) (into_iter_items l.clause-iterator);
}
