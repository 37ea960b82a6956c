-- What contracts see of an item of the iterator over a chain.
use denote.Ref.{Bor}
use Rattle.std.specs.Prelude.{ℕ}
use Rattle.cp_chain.specs.Chains.{Entry}

-- the entry of a handle and an item
abbrev pub entry_item : {T : Type 0} → ℕ × Bor T → Entry T
entry_item item = record { handle = item.0; item = item.1.now }
