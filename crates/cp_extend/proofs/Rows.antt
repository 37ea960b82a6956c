-- Worked examples of texts of models, and of completions.
use Rattle.std.proofs.Common.{◌≡◌, ℕ, true, false, List, [], ◌∷◌, refl}
use Rattle.std.specs.Prelude.{codes}
use Rattle.std.specs.Fmt.{digits}
use Rattle.cp_logic.specs.Assignments.{Pair, completed, makes_true, value_of, with_value}
use Rattle.cp_extend.specs.ModelText.{model_text}

pub no_variables : model_text [] ≡ codes "s SATISFIABLE\nv 0\n"
unfolding digits
no_variables = refl

pub three_variables : model_text (true ∷ false ∷ true ∷ []) ≡ codes "s SATISFIABLE\nv 1 -2 3\nv 0\n"
unfolding digits
three_variables = refl

-- ten variables fill a line
pub ten_variables : model_text (false ∷ true ∷ false ∷ false ∷ false ∷ false ∷ false ∷ false ∷ false ∷ true ∷ [])
    ≡ codes "s SATISFIABLE\nv -1 2 -3 -4 -5 -6 -7 -8 -9 10\nv 0\n"
unfolding digits
ten_variables = refl

-- and two more make a second line
pub twelve_variables : model_text (true ∷ true ∷ true ∷ true ∷ true ∷ true ∷ true ∷ true ∷ true ∷ true ∷ false ∷ true ∷ [])
    ≡ codes "s SATISFIABLE\nv 1 2 3 4 5 6 7 8 9 10\nv -11 12\nv 0\n"
unfolding digits
twelve_variables = refl

abbrev pub pair : ℕ → List ℕ → Pair
pair literal clause = record { literal = literal; clause = clause }

-- the pairs 1 of {1, 2}, -1 of {-1, 3}, 2 of {2, 3}: only the first clause is false
pub first_repaired : completed (false ∷ false ∷ true ∷ []) (pair 2 (2 ∷ 4 ∷ []) ∷ pair 3 (3 ∷ 6 ∷ []) ∷ pair 4 (4 ∷ 6 ∷ []) ∷ []) ≡ true ∷ false ∷ true ∷ []
unfolding makes_true value_of with_value
first_repaired = refl

-- the pairs 1 of {1, 2}, -2 of {-2, 3}: the last makes the first clause false
pub last_first : completed (false ∷ true ∷ false ∷ []) (pair 2 (2 ∷ 4 ∷ []) ∷ pair 5 (5 ∷ 6 ∷ []) ∷ []) ≡ true ∷ false ∷ false ∷ []
unfolding makes_true value_of with_value
last_first = refl
