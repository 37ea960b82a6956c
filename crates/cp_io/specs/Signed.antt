-- The text of a number behind its sign.
use Rattle.std.specs.Prelude.{ℕ, List, [], ◌++◌, codes, decimal, Bool, if◌then◌else◌}

abbrev pub sign_text : Bool → List ℕ
sign_text positive = if positive then [] else codes "-"

-- the number, behind a `-` where it isn't positive, and a space
abbrev pub signed_text : Bool → ℕ → List ℕ
signed_text positive n = sign_text positive ++ (decimal n ++ codes " ")
