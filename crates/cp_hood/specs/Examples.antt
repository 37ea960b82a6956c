-- What the tests say of eliminations.
use Rattle.std.specs.Prelude.{◌≡◌, true, IsTrue}
use Rattle.cp_logic.specs.declared.settings.Rules.{Rules}
use Rattle.cp_logic.specs.Entries.{Entry, is_at}
use Rattle.cp_logic.specs.Legality.{is_legal_in}
use Rattle.cp_occ.specs.Cells.{CellView}

-- eliminations are chosen, and may add no clause more than they take out
abbrev pub Eliminates : Rules → Type 0
Eliminates rules = (rules.choice.e ≡ true) × (rules.bound ≡ 0)

-- the entry is at the cell's variable, and is legal in its clauses
abbrev pub IsLegalFor : CellView → Entry → Type 0
IsLegalFor cell e = IsTrue (is_at cell.variable e) × ((rules : Rules) → Eliminates rules → IsTrue (is_legal_in cell.clauses rules e))
