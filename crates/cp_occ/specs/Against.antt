-- A clause against others: the clause, and its literal to resolve on.
use Rattle.std.specs.Prelude.{◌≡◌, ℕ, List, Option, Some, None}

pub record AgainstView : Type 0 where
  pub clause : List ℕ
  pub literal : ℕ

-- the table, if there is one, is that of the clause
abbrev pub IsTableOf : List ℕ → Option (List ℕ) → Type 0
IsTableOf clause None = Unit {0}
IsTableOf clause (Some table) = table ≡ clause
