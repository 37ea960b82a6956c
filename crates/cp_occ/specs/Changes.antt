-- Changes of cells. An entry takes each clause that it removes out of the cells of its variables, and puts each new clause into the cells of its own.
use Rattle.std.specs.Prelude.{◌≡◌, ℕ, ◌+◌, ◌<◌, ◌≤◌, List, ◌++◌, map, length, slice_index_or, IsTrue}
use Rattle.std.specs.List.{All, Contains, range_with_len}
use Rattle.cp_logic.specs.declared.named.Named.{Named}
use Rattle.cp_logic.specs.Literals.{variable_of}
use Rattle.cp_logic.specs.Clauses.{contains, has_variable, IsAscending}
use Rattle.cp_logic.specs.Formulas.{Formula, numbers_of, occurrences, without_numbers}
use Rattle.cp_logic.specs.Entries.{Entry, gone_clauses, new_clauses}
use Rattle.cp_logic.specs.Locality.{after}
use Rattle.cp_occ.specs.Cells.{CellView, variables_after, variables_of, lists_of}

-- the variable of each literal is among these variables
abbrev pub AreOver : List ℕ → List ℕ → Type 0
AreOver variables clause = All (λ l. IsTrue (contains variables (variable_of l))) clause

-- for each new clause of the entry a list that has it once for each of its variables
abbrev pub places_of : Entry → List (List (List ℕ))
places_of e = map (λ c. map (λ v. c.clause) (variables_after 0 c.clause)) (new_clauses e)

-- each cell has room for the new clauses of its variable
abbrev pub HasRoom : List CellView → Entry → Type 0
HasRoom cells e = All (λ cell. length (occurrences (new_clauses e) cell.variable) ≤ cell.spare) cells

-- the entry's clauses are of the variables of the cells; what stands in a cell under the number of a clause that goes is of that clause's
-- variables; and the new numbers rise, and are above those of the cells
pub record IsChange (cells : List CellView) (e : Entry) : Type 0 where
  pub gone_within : All (λ c. AreOver (variables_of cells) c.clause) (gone_clauses e)
  pub new_within : All (λ c. AreOver (variables_of cells) c.clause) (new_clauses e)
  pub named : All (λ cell. All (λ c. All (λ g. c.number ≡ g.number → IsTrue (has_variable cell.variable g.clause)) (gone_clauses e)) cell.clauses) cells
  pub above : All (λ cell. All (λ c. All (λ n. c.number < n.number) (new_clauses e)) cell.clauses) cells
  pub rising : IsAscending (numbers_of (new_clauses e))

-- what the cells list after the entry
abbrev pub lists_after : List CellView → Entry → List (List Named)
lists_after cells e = map (λ c. after c.clauses c.variable e) cells

-- the cells are those of the formula's variables, each with the clauses of its variable
pub record AreCellsOf (f : Formula) (cells : List CellView) : Type 0 where
  pub variables : variables_of cells ≡ range_with_len 1 f.variables
  pub lists : lists_of cells ≡ map (occurrences f.clauses) (range_with_len 1 f.variables)

-- a cell with the same clauses, and room for n more where one of these clauses has its variable
pub record IsRoomier (n : ℕ) (added : List Named) (old new : CellView) : Type 0 where
  pub variable : new.variable ≡ old.variable
  pub clauses : new.clauses ≡ old.clauses
  pub more : old.spare ≤ new.spare
  pub room : (c : Named) → Contains added c → IsTrue (has_variable old.variable c.clause) → n ≤ new.spare

-- a cell without these clauses
pub record IsWithout (gone : List Named) (old new : CellView) : Type 0 where
  pub variable : new.variable ≡ old.variable
  pub clauses : new.clauses ≡ without_numbers old.clauses (numbers_of gone)
  pub spare : old.spare ≤ new.spare

-- a cell with those of these clauses at the end that have its variable, and with less room by as many
pub record IsWith (added : List Named) (old new : CellView) : Type 0 where
  pub variable : new.variable ≡ old.variable
  pub clauses : new.clauses ≡ old.clauses ++ occurrences added old.variable
  pub spare : new.spare + length (occurrences added old.variable) ≡ old.spare

-- a cell without the clauses that go, and at the end with those of the new ones that have its variable
pub record IsChanged (gone added : List Named) (old new : CellView) : Type 0 where
  pub variable : new.variable ≡ old.variable
  pub clauses : new.clauses ≡ without_numbers old.clauses (numbers_of gone) ++ occurrences added old.variable

-- each cell of the second list stands so to that of the first
pub record Each (P : CellView → CellView → Type 0) (old new : List CellView) : Type 0 where
  pub len : length new ≡ length old
  pub at : (k : ℕ) (d : CellView) → k < length old → P (slice_index_or old k d) (slice_index_or new k d)
