-- What a checker of DRAT does with a log. It holds a list of clauses, of which two may be the same.
use Rattle.std.specs.Prelude.{ℕ, List, [], ◌∷◌, ◌++◌, Bool, ◌&&◌, ◌⊎◌, if◌then◌else◌, IsTrue, IsFalse}
use Rattle.cp_logic.specs.declared.settings.Rules.{Rules}
use Rattle.cp_logic.specs.Clauses.{is_subset}
use Rattle.cp_logic.specs.Assignments.{satisfies_all}
use Rattle.cp_logic.specs.Propagation.{IsRup, IsRatOn}
use Rattle.cp_logic.specs.Formulas.{Formula, IsFormula, clauses_of, has_empty}
use Rattle.cp_logic.specs.Journals.{Post, IsLegalJournal, folded}
use Rattle.cp_drat.specs.Log.{Item, Lemma, Deletion, has_end, log_of}

-- whether the two have the same literals
abbrev pub is_same_set : List ℕ → List ℕ → Bool
is_same_set clause other = is_subset clause other && is_subset other clause

-- the clauses without the first one of the same literals, if there is one
abbrev pub without_one : List (List ℕ) → List ℕ → List (List ℕ)
without_one [] clause = []
without_one (c ∷ cs) clause = if is_same_set c clause then cs else c ∷ without_one cs clause

-- the clauses that are held after an item
abbrev pub clauses_after : List (List ℕ) → Item → List (List ℕ)
clauses_after clauses (Lemma clause) = clauses ++ clause ∷ []
clauses_after clauses (Deletion clause) = without_one clauses clause

abbrev pub IsRatOnFirst : List (List ℕ) → List ℕ → Type 0
IsRatOnFirst clauses [] = ⊥
IsRatOnFirst clauses (l ∷ ls) = IsRatOn clauses (l ∷ ls) l

-- a lemma is RUP, or RAT on its first literal, and a deletion is always taken
abbrev pub IsTaken : List (List ℕ) → Item → Type 0
IsTaken clauses (Lemma clause) = IsRup clauses clause ⊎ IsRatOnFirst clauses clause
IsTaken clauses (Deletion clause) = Unit {0}

-- each item is taken where it stands
abbrev pub IsAccepted : List (List ℕ) → List Item → Type 0
IsAccepted clauses [] = Unit {0}
IsAccepted clauses (i ∷ is) = IsTaken clauses i × IsAccepted (clauses_after clauses i) is

-- the same by RUP alone
abbrev pub IsRupItem : List (List ℕ) → Item → Type 0
IsRupItem clauses (Lemma clause) = IsRup clauses clause
IsRupItem clauses (Deletion clause) = Unit {0}

abbrev pub IsRupLog : List (List ℕ) → List Item → Type 0
IsRupLog clauses [] = Unit {0}
IsRupLog clauses (i ∷ is) = IsRupItem clauses i × IsRupLog (clauses_after clauses i) is

-- each lemma of a legal journal's log is RUP where it stands
abbrev pub LemmasAreRup : Type 0
LemmasAreRup = (f : Formula) (rules : Rules) (posts : List Post) → IsFormula f → IsLegalJournal f rules posts → IsRupLog (clauses_of f.clauses) (log_of posts)

-- so a checker that starts with the formula accepts the log
abbrev pub LogIsAccepted : Type 0
LogIsAccepted = (f : Formula) (rules : Rules) (posts : List Post) → IsFormula f → IsLegalJournal f rules posts → IsAccepted (clauses_of f.clauses) (log_of posts)

-- clauses from which a log of RUP lemmas comes to the empty clause have no model
abbrev pub RupLogRefutes : Type 0
RupLogRefutes = (clauses : List (List ℕ)) (items : List Item) → IsRupLog clauses items → IsTrue (has_end items) → (values : List Bool) → IsFalse (satisfies_all values clauses)

-- where the posts lead to the empty clause, which the formula didn't have, their log has it
abbrev pub LogHasEnd : Type 0
LogHasEnd = (f : Formula) (posts : List Post) → IsFalse (has_empty f.clauses) → IsTrue (has_empty (folded f posts).formula.clauses) → IsTrue (has_end (log_of posts))
