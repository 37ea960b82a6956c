-- What a book keeps true of its parts.
use Rattle.std.specs.Prelude.{◌≡◌, ◌≤◌, ◌⊎◌, ℕ, Option, Some, None, List, length}
use Rattle.cp_logic.specs.declared.settings.Rules.{Rules}
use Rattle.cp_logic.specs.Assignments.{Pair}
use Rattle.cp_logic.specs.Formulas.{Formula, IsFormula, clauses_of}
use Rattle.cp_logic.specs.Entries.{Entry, new_clauses}
use Rattle.cp_logic.specs.Journals.{Post, IsLegalJournal, folded, commits}
use Rattle.cp_book.specs.Changes.{weakened}
use Rattle.cp_book.specs.Empties.{empty_numbers}

-- the journal is legal from the first formula, and the current formula, the pairs over its variables, the count of commits
-- and the numbers of the empty clauses are what the posts lead to
pub record IsLedger (first : Formula) (rules : Rules) (posts : List Post) (now : Formula) (stacked : List Pair) (stack_variables count : ℕ) (empties : List ℕ) : Type 0 where
  pub valid : IsFormula first
  pub legal : IsLegalJournal first rules posts
  pub formula : now ≡ (folded first posts).formula
  pub pairs : stacked ≡ (folded first posts).pairs
  pub variables : stack_variables ≡ first.variables
  pub counted : count ≡ commits posts
  pub in_budget : (rules.budget ≡ 0) ⊎ (count ≤ rules.budget)
  pub empty : empties ≡ empty_numbers now.clauses

-- there is room for a post of the entry: for the post, its new clauses and their numbers and its pairs, and a second clause of each new one
abbrev pub IsReady : Option Entry → ℕ → ℕ → ℕ → ℕ → List (List ℕ) → Type 0
IsReady None posts clauses numbers pairs seconds = Unit {0}
IsReady (Some e) posts clauses numbers pairs seconds =
    (1 ≤ posts) × (length (new_clauses e) ≤ clauses) × (length (new_clauses e) ≤ numbers) × (length (weakened e) ≤ pairs) × (seconds ≡ clauses_of (new_clauses e))
