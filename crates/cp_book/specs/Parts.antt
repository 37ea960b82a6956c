-- What a book keeps, seen as a book, and what is true of it.
use Rattle.std.specs.Option.{option_map}
use Rattle.cp_logic.specs.Pairs.{pairs_of}
use Rattle.cp_logic.specs.Views.{entry_of}
use Rattle.cp_book.specs.declared.book.Parts.{Parts}
use Rattle.cp_book.specs.Views.{BookView}
use Rattle.cp_book.specs.Kept.{IsLedger, IsReady}

abbrev pub view_of : Parts → BookView
view_of p = record {
  first = p.first.value.formula;
  rules = p.rules;
  posts = p.journal.items;
  prepared = option_map (λ s. entry_of s.value) p.prepared;
}

-- the current formula, the pairs, the count of commits and the numbers of the empty clauses are what the posts lead to
abbrev pub HasLedger : Parts → Type 0
HasLedger p = IsLedger p.first.value.formula p.rules p.journal.items p.formula.formula (pairs_of p.stack.pairs) p.stack.vars p.commits p.empties.items

-- there is room for the entry for which the book is prepared
abbrev pub HasRoom : Parts → Type 0
HasRoom p = IsReady (option_map (λ s. entry_of s.value) p.prepared) p.journal.spare p.formula.spare p.empties.spare p.stack.pairs.spare p.seconds.items
