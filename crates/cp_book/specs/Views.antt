-- What contracts see of a book.
use Rattle.std.specs.Prelude.{ℕ, Option, Some, None, List, [], ◌∷◌, ◌++◌, if◌then◌else◌}
use Rattle.cp_logic.specs.declared.settings.Rules.{Rules}
use Rattle.cp_logic.specs.declared.stop.Stop.{Stop}
use Rattle.cp_logic.specs.declared.stop.Stop.TheVariants.{Spent, Refuted}
use Rattle.cp_logic.specs.Assignments.{Pair}
use Rattle.cp_logic.specs.Formulas.{Formula, has_empty}
use Rattle.cp_logic.specs.Entries.{Entry, numbered}
use Rattle.cp_logic.specs.Journals.{Post, folded, commits}
use Rattle.cp_logic.specs.Sweeps.{is_spent}

-- the first formula, the rules, the posts, and the entry for which there is room and a second clause of each new one, if any
pub record BookView : Type 0 where
  pub first : Formula
  pub rules : Rules
  pub posts : List Post
  pub prepared : Option Entry

-- the formula and the pairs that the posts lead to
abbrev pub current : BookView → Formula
current b = (folded b.first b.posts).formula

abbrev pub current_pairs : BookView → List Pair
current_pairs b = (folded b.first b.posts).pairs

-- the book with one post more, whose new clauses are numbered from the next number on
abbrev pub with_post : BookView → ℕ → ℕ → Entry → BookView
with_post b worker round e = record {
  first = b.first;
  rules = b.rules;
  posts = b.posts ++ record { worker = worker; round = round; entry = numbered (current b).next e } ∷ [];
  prepared = None;
}

-- why no more is posted, whatever the entry, if so
abbrev pub stop_in : BookView → Option Stop
stop_in b =
    if has_empty (current b).clauses then Some Refuted
    else (if is_spent b.rules (commits b.posts) then Some Spent else None)
