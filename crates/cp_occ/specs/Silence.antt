-- What a cell may keep of a search that gave nothing.
use Rattle.std.specs.Prelude.{◌≡◌, ℕ, Option, Some, None, List}
use Rattle.cp_logic.specs.declared.named.Named.{Named}
use Rattle.cp_logic.specs.declared.settings.Rules.{Rules}
use Rattle.cp_logic.specs.Legality.{first_in}
use Rattle.cp_occ.specs.declared.silence.Searched.{Searched}

-- a search at x in these clauses gives nothing, whatever the number of the next new clause
abbrev pub GivesNothing : ℕ → List Named → Rules → Type 0
GivesNothing x cs rules = (next : ℕ) → first_in cs rules next x ≡ None

-- nor by any other rules of that choice and bound
abbrev pub IsSilent : ℕ → List Named → Option Searched → Type 0
IsSilent x cs None = Unit {0}
IsSilent x cs (Some s) = (rules : Rules) → rules.choice ≡ s.choice → rules.bound ≡ s.bound → GivesNothing x cs rules
