-- The clauses of one sign of a variable.
use Rattle.std.specs.Prelude.{ℕ, IsTrue}
use Rattle.cp_logic.specs.declared.named.Named.{Named}
use Rattle.cp_logic.specs.Clauses.{contains}

-- the clause has the literal
abbrev pub Has : ℕ → Named → Type 0
Has l c = IsTrue (contains c.clause l)
