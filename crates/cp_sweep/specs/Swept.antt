-- What a sweep leaves.
use Rattle.std.specs.Prelude.{◌≡◌, ◌≤◌, ◌⊎◌, Option, Some, List, [], ◌++◌, length}
use Rattle.cp_logic.specs.declared.settings.Rules.{Rules}
use Rattle.cp_logic.specs.declared.stop.Stop.{Stop}
use Rattle.cp_logic.specs.declared.stop.Stop.TheVariants.{Spent}
use Rattle.cp_logic.specs.Formulas.{Formula}
use Rattle.cp_logic.specs.Journals.{Post, IsLegalJournal, folded}
use Rattle.cp_logic.specs.Sweeps.{IsSweep, stop_of, enough}

-- from the start: the journal is legal and is the sweep of the formula, what is left is its fold, and it stopped for this reason
pub record IsSwept (f : Formula) (rules : Rules) (posts : List Post) (left : Formula) (stopped : Option Stop) : Type 0 where
  pub legal : IsLegalJournal f rules posts
  pub swept : IsSweep f rules [] 1 posts
  pub stop : stopped ≡ stop_of f rules posts
  pub folded : left ≡ (folded f posts).formula

-- after the posts that were there before: the journal goes on from these, and its other posts are the sweep of what they leave
pub record IsSweptAfter (f : Formula) (rules : Rules) (before posts : List Post) (left : Formula) (stopped : Option Stop) : Type 0 where
  pub legal : IsLegalJournal f rules posts
  pub swept : (own : List Post) × (posts ≡ before ++ own) × IsSweep f rules before 1 own
  pub stop : stopped ≡ stop_of f rules posts
  pub folded : left ≡ (folded f posts).formula

-- a budget that is 0, or that commits never reach, doesn't stop it
abbrev pub IsUnspent : Formula → Rules → Option Stop → Type 0
IsUnspent f rules stopped = (rules.budget ≡ 0) ⊎ (enough f.variables (length f.clauses) rules.bound ≤ rules.budget) → stopped ≡ Some Spent → ⊥
