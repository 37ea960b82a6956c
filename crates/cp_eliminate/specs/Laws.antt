-- What the elimination at a variable and the answer of the search are, as statements.
use Rattle.std.specs.Prelude.{◌≡◌, ℕ, Some, List, IsTrue, IsFalse}
use Rattle.std.specs.Option.{option_map}
use Rattle.cp_logic.specs.declared.named.Named.{Named}
use Rattle.cp_logic.specs.declared.settings.Rules.{Rules}
use Rattle.cp_logic.specs.Formulas.{Formula, occurrences, has_empty}
use Rattle.cp_logic.specs.Entries.{Entry, Eliminate, numbered}
use Rattle.cp_logic.specs.Legality.{fits, first_in, first}
use Rattle.cp_eliminate.specs.Eliminating.{elimination_within}

-- what is given fits
abbrev pub EliminationFits : Type 0
EliminationFits = (cs : List Named) (bound next x : ℕ) (e : Entry) → elimination_within cs bound next x ≡ Some e → IsTrue (fits cs bound e)

-- an elimination of the variable that fits is the one that is given, with new clauses numbered from next on
abbrev pub EliminationIsAlone : Type 0
EliminationIsAlone =
    (cs : List Named) (bound next x : ℕ) (pos neg new : List Named) → IsTrue (fits cs bound (Eliminate x pos neg new))
    → elimination_within cs bound next x ≡ Some (numbered next (Eliminate x pos neg new))

-- the elimination among the clauses of the variable is that among all clauses
abbrev pub EliminationIsLocal : Type 0
EliminationIsLocal = (cs : List Named) (bound next x : ℕ) → elimination_within (occurrences cs x) bound next x ≡ elimination_within cs bound next x

-- the first entry that applies among the clauses of the variable is the first legal one of the formula, with new clauses numbered from next on
abbrev pub SearchIsFirst : Type 0
SearchIsFirst =
    (f : Formula) (rules : Rules) (next x : ℕ) → IsFalse (has_empty f.clauses)
    → first_in (occurrences f.clauses x) rules next x ≡ option_map (numbered next) (first f rules x)
