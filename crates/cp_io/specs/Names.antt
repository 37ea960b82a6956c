-- Names under which a role is bound.
use Rattle.std.specs.Prelude.{◌≡◌, ◌⊎◌, ℕ, List, codes}

-- the names of the process's streams, and of no bytes at all
abbrev pub IsStandardName : List ℕ → Type 0
IsStandardName name = (name ≡ codes "std") ⊎ (name ≡ codes "none")
