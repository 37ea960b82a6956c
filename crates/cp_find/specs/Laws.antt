-- What the first entry of a kind is, and that the clauses of the variable decide it, as statements.
use Rattle.std.specs.Prelude.{◌≡◌, ◌⊎◌, ℕ, Bool, true, false, Option, Some, None, List, IsTrue}
use Rattle.cp_logic.specs.declared.named.Named.{Named}
use Rattle.cp_logic.specs.Formulas.{Formula, IsFormula, occurrences}
use Rattle.cp_logic.specs.Entries.{Entry, Taut, Subsume, Strengthen, is_at}
use Rattle.cp_logic.specs.Legality.{fits, tauts, subsumptions, strengthenings, rank_of, Precedes, first_of_kind}

-- whether the entry is of the first kind; of the second; of the third
abbrev pub is_taut : Entry → Bool
is_taut (Taut gone) = true
is_taut _ = false

abbrev pub is_subsumption : Entry → Bool
is_subsumption (Subsume by gone) = true
is_subsumption _ = false

abbrev pub is_strengthening : Entry → Bool
is_strengthening (Strengthen by on l new) = true
is_strengthening _ = false

-- an entry of the kind that fits at the variable and comes before each other one; where there is none, none of the kind fits there
abbrev pub IsFirst : (Entry → Bool) → ℕ → List Named → Option Entry → Type 0
IsFirst is_kind x cs None = (e : Entry) → IsTrue (is_kind e) → IsTrue (is_at x e) → IsTrue (fits cs 0 e) → ⊥
IsFirst is_kind x cs (Some e) =
    IsTrue (is_kind e) × IsTrue (is_at x e) × IsTrue (fits cs 0 e)
    × ((other : Entry) → IsTrue (is_kind other) → IsTrue (is_at x other) → IsTrue (fits cs 0 other) → (rank_of e ≡ rank_of other) ⊎ Precedes (rank_of e) (rank_of other))

-- what the finders give is the first of its kind, whatever the numbers of new clauses
abbrev pub FirstsAreLeast : Type 0
FirstsAreLeast =
    (f : Formula) (next x : ℕ) → IsFormula f
    → IsFirst is_taut x f.clauses (first_of_kind x f.clauses (tauts f.clauses))
    × IsFirst is_subsumption x f.clauses (first_of_kind x f.clauses (subsumptions f.clauses))
    × IsFirst is_strengthening x f.clauses (first_of_kind x f.clauses (strengthenings f.clauses next))

-- the first of a kind among the clauses of the variable is the first among all clauses
abbrev pub FirstsAreLocal : Type 0
FirstsAreLocal =
    (cs : List Named) (next x : ℕ)
    → (first_of_kind x (occurrences cs x) (tauts (occurrences cs x)) ≡ first_of_kind x cs (tauts cs))
    × (first_of_kind x (occurrences cs x) (subsumptions (occurrences cs x)) ≡ first_of_kind x cs (subsumptions cs))
    × (first_of_kind x (occurrences cs x) (strengthenings (occurrences cs x) next) ≡ first_of_kind x cs (strengthenings cs next))
