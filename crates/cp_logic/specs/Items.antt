-- What contracts see of an item of the iterator over a formula.
use denote.Ref.{Bor}
use Rattle.std.specs.Prelude.{ℕ, List}
use Rattle.cp_logic.specs.declared.named.Named.{Named}

-- the numbered clause of a number and a clause
abbrev pub named_item : ℕ × Bor (List ℕ) → Named
named_item item = record { number = item.0; clause = item.1.now }
