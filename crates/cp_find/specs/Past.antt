-- How far the search at a variable has come, and what that says of the variable's clauses.
use Rattle.std.specs.Prelude.{◌≡◌, ◌⊎◌, ◌<◌, ℕ, ◌==◌, Bool, false, Option, Some, None, List, if◌then◌else◌, IsFalse}
use Rattle.std.specs.List.{Contains}
use Rattle.cp_logic.specs.declared.named.Named.{Named}
use Rattle.cp_logic.specs.Clauses.{is_tautology}
use Rattle.cp_find.specs.declared.reached.Pair.{Pair}
use Rattle.cp_find.specs.declared.reached.Reached.{Reached}
use Rattle.cp_find.specs.Finds.{subsumes, struck, strengthens}
use Rattle.cp_find.specs.Lookups.{Covers}

-- whether the first clause takes this literal from the second, if it takes one; and whether it takes one of the variable from it
abbrev pub strengthens_by : Option ℕ → Named → Named → Bool
strengthens_by None by on = false
strengthens_by (Some l) by on = strengthens l by on

abbrev pub strengthens_at : ℕ → Named → Named → Bool
strengthens_at x by on = strengthens_by (struck x by.clause) by on

-- the number is below the end, where there is one
abbrev pub IsBelow : Option ℕ → ℕ → Type 0
IsBelow None n = Unit {0}
IsBelow (Some end) n = n < end

-- the pair of numbers is before the end, where there is one, by the first number and then the second
abbrev pub IsBefore : Option Pair → ℕ → ℕ → Type 0
IsBefore None by other = Unit {0}
IsBefore (Some end) by other = (by < end.by) ⊎ ((by ≡ end.by) × (other < end.other))

-- no pair of the clauses before the end passes the test
abbrev pub ArePassed : (Named → Named → Bool) → List Named → Option Pair → Type 0
ArePassed test cs end = (by other : Named) → Contains cs by → Contains cs other → IsBefore end by.number other.number → IsFalse (test by other)

-- no clause below the one end is a tautology, no pair before the other ends is one that the finders look for, and the lookup has the
-- clauses, where one was made
pub record IsPast (x : ℕ) (cs : List Named) (r : Reached) : Type 0 where
  pub tautologies : (c : Named) → Contains cs c → IsBelow r.tautology c.number → IsFalse (is_tautology c.clause)
  pub subsumptions : ArePassed subsumes cs r.subsumption
  pub strengthenings : ArePassed (strengthens_at x) cs r.strengthening
  pub covers : Covers x cs r.lookup

-- from which number on the others of a clause are left, where all pairs before the end are passed
abbrev pub first_other : Pair → ℕ → ℕ
first_other end by = if by == end.by then end.other else 0
