-- The variables of literals and of their clause.
use Rattle.std.proofs.Common.{◌≡◌, ℕ, ◌+◌, ◌≤◌, true, ltb, List, [], ◌∷◌, refl, arith}
use Rattle.std.specs.List.{list_all}
use Rattle.std.proofs.lemmas.Bool.{lt-ltb, and_from}
use Rattle.cp_logic.specs.Literals.{variable_of}
use Rattle.cp_logic.specs.Formulas.{IsWithin}
use Rattle.cp_dimacs.specs.Written.{greatest_of}

below_greatest : (most : ℕ) (literals : List ℕ) → greatest_of literals ≤ most → list_all (λ l. ltb (variable_of l) (most + 1)) literals ≡ true
below_greatest most [] h = refl
below_greatest most (l ∷ literals) h =
    and_from (ltb (variable_of l) (most + 1)) (list_all (λ l. ltb (variable_of l) (most + 1)) literals) (lt-ltb (variable_of l) (most + 1) (omega arith)) (below_greatest most literals (omega arith))

pub within-greatest : (most : ℕ) (literals : List ℕ) → list_all (λ l. ltb 0 (variable_of l)) literals ≡ true → greatest_of literals ≤ most → IsWithin most literals
within-greatest most literals low h = (low, below_greatest most literals h)
