-- The literals of a pair and their clause.
use Rattle.std.proofs.Common.{◌≡◌, ℕ, ◌<◌, true, List, [], ◌∷◌, length, get_or, arith}
use Rattle.std.proofs.lemmas.List.Elements.{Contains-get_or}
use Rattle.cp_logic.specs.Clauses.{contains, clause_of}
use Rattle.cp_logic.proofs.Members.{in_contains}
use Rattle.cp_logic.proofs.SetFacts.{in_clause_of}

-- a list's first number, whatever stands for that of an empty one
pub first_same : (literals : List ℕ) (l : ℕ) → 0 < length literals → l ≡ get_or literals 0 l → l ≡ get_or literals 0 0
first_same [] l some is = absurd (omega arith)
first_same (m ∷ literals) l some is = is

-- the clause has the first literal
pub first_in : (literals : List ℕ) (l : ℕ) → 0 < length literals → l ≡ get_or literals 0 l → contains (clause_of literals) l ≡ true
first_in literals l some is = rw (is) (in_contains (clause_of literals) (get_or literals 0 l) (in_clause_of literals (get_or literals 0 l) (Contains-get_or literals 0 l some)))
