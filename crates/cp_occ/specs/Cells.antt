-- Cells. A cell is seen as its variable and the numbered clauses that have the variable, by ascending number.
use Rattle.std.specs.Prelude.{◌≡◌, ℕ, Bool, ◌+◌, ◌<◌, ◌≤◌, ◌==◌, nat_le, List, [], ◌∷◌, ◌++◌, map, length, slice_index_or, if◌then◌else◌, IsTrue}
use Rattle.std.specs.List.{All, filter}
use Rattle.cp_logic.specs.declared.named.Named.{Named}
use Rattle.cp_logic.specs.Literals.{variable_of}
use Rattle.cp_logic.specs.Clauses.{contains, has_variable, is_tautology, without, IsAscending}
use Rattle.cp_logic.specs.Signatures.{signature}
use Rattle.cp_logic.specs.Formulas.{numbers_of, occurrences}

-- spare is for how many further clauses there is room
pub record CellView : Type 0 where
  pub variable : ℕ
  pub clauses : List Named
  pub spare : ℕ

-- the clause is a set that has the variable
pub record IsOf (x : ℕ) (c : Named) : Type 0 where
  pub set : IsAscending c.clause
  pub has : IsTrue (has_variable x c.clause)

-- what an occurrence keeps of a clause: a literal that it has, whether it is a tautology, and its signature without that literal
pub record IsSided (clause : List ℕ) (literal : ℕ) (tautology : Bool) (others : ℕ) : Type 0 where
  pub has : IsTrue (contains clause literal)
  pub told : tautology ≡ is_tautology clause
  pub bits : others ≡ signature (without clause literal)

-- the clauses that are tautologies
abbrev pub tautologies_of : List Named → List Named
tautologies_of cs = filter (λ c. is_tautology c.clause) cs

-- the numbers rise, and each clause has the variable, which is 1 to 2,000,000
pub record IsListed (x : ℕ) (cs : List Named) : Type 0 where
  pub low : 1 ≤ x
  pub high : x ≤ 2000000
  pub rising : IsAscending (numbers_of cs)
  pub have : All (IsOf x) cs

abbrev pub IsCell : CellView → Type 0
IsCell cell = IsListed cell.variable cell.clauses

-- the clauses whose numbers are n or above it
abbrev pub from_number : ℕ → List Named → List Named
from_number n cs = filter (λ c. nat_le n c.number) cs

-- the variables of literals in their order, each once where its literals stand together, and not the one that came last
abbrev pub variables_after : ℕ → List ℕ → List ℕ
variables_after last [] = []
variables_after last (l ∷ ls) = if variable_of l == last then variables_after last ls else variable_of l ∷ variables_after (variable_of l) ls

-- the cells are those of the variables from 1 on
abbrev pub AreNumbered : List CellView → Type 0
AreNumbered cells = (k : ℕ) (d : CellView) → k < length cells → (slice_index_or cells k d).variable ≡ k + 1

-- the clause is added at the end of each cell whose variable it has
pub record Enters (n : Named) (old new : List CellView) : Type 0 where
  pub len : length new ≡ length old
  pub variable : (k : ℕ) (d : CellView) → k < length old → (slice_index_or new k d).variable ≡ (slice_index_or old k d).variable
  pub clauses : (k : ℕ) (d : CellView) → k < length old → (slice_index_or new k d).clauses ≡ (slice_index_or old k d).clauses ++ occurrences (n ∷ []) (slice_index_or old k d).variable

-- the variables of the cells; and what they list
abbrev pub variables_of : List CellView → List ℕ
variables_of cells = map (λ c. c.variable) cells

abbrev pub lists_of : List CellView → List (List Named)
lists_of cells = map (λ c. c.clauses) cells
