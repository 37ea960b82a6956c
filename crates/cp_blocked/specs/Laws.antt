-- What the first blocked clause is, and that the clauses of the variable decide it, as statements.
use Rattle.std.specs.Prelude.{◌≡◌, ◌⊎◌, ℕ, Option, Some, None, List, IsTrue}
use Rattle.cp_logic.specs.declared.named.Named.{Named}
use Rattle.cp_logic.specs.Literals.{variable_of}
use Rattle.cp_logic.specs.Formulas.{Formula, IsFormula, occurrences}
use Rattle.cp_logic.specs.Entries.{Entry, Block}
use Rattle.cp_logic.specs.Legality.{fits, blocks, rank_of, Precedes, first_of_kind}

-- the clause may be taken out as blocked on the literal, which is of the variable
abbrev pub IsBlockedAt : ℕ → List Named → Named → ℕ → Type 0
IsBlockedAt x cs gone l = (variable_of l ≡ x) × IsTrue (fits cs 0 (Block gone l))

-- a blocked clause at the variable that comes before each other one; where there is none, none is blocked there
abbrev pub IsFirstBlocked : ℕ → List Named → Option Entry → Type 0
IsFirstBlocked x cs None = (gone : Named) (l : ℕ) → IsBlockedAt x cs gone l → ⊥
IsFirstBlocked x cs (Some e) =
    (gone : Named) × (l : ℕ) × (e ≡ Block gone l) × IsBlockedAt x cs gone l
    × ((other : Named) (m : ℕ) → IsBlockedAt x cs other m → (rank_of e ≡ rank_of (Block other m)) ⊎ Precedes (rank_of e) (rank_of (Block other m)))

-- what the finder gives is the first blocked clause
abbrev pub FirstIsLeast : Type 0
FirstIsLeast = (f : Formula) (x : ℕ) → IsFormula f → IsFirstBlocked x f.clauses (first_of_kind x f.clauses (blocks f.clauses))

-- the first among the clauses of the variable is the first among all clauses
abbrev pub FirstIsLocal : Type 0
FirstIsLocal = (cs : List Named) (x : ℕ) → first_of_kind x (occurrences cs x) (blocks (occurrences cs x)) ≡ first_of_kind x cs (blocks cs)
