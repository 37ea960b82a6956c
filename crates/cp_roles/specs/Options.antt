-- The options that words give, if they are taken.
use Rattle.std.specs.Prelude.{◌≡◌, Result, Ok}
use Rattle.cp_words.specs.declared.words.UsageKind.{UsageKind}

-- the words are taken, and this is so of their options
abbrev pub Taken : {V : Type 0} → Result V UsageKind → (V → Type 0) → Type 0
Taken {V} given P = (o : V) × (given ≡ Ok o) × P o
