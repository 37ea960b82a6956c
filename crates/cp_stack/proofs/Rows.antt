-- Worked examples of texts of stacks.
use Rattle.std.proofs.Common.{◌≡◌, ℕ, List, [], ◌∷◌, refl}
use Rattle.std.specs.Prelude.{codes}
use Rattle.std.specs.Fmt.{digits}
use Rattle.cp_logic.specs.Assignments.{Pair}
use Rattle.cp_stack.specs.Text.{stack_text}

abbrev pub pair : ℕ → List ℕ → Pair
pair literal clause = record { literal = literal; clause = clause }

pub no_pairs : stack_text 0 [] ≡ codes "p stack 1 0 0\n"
unfolding digits
no_pairs = refl

-- the pair's literal comes first, and the others ascend
pub four_pairs : stack_text 3 (pair 4 (2 ∷ 4 ∷ []) ∷ pair 5 (3 ∷ 5 ∷ []) ∷ pair 6 (3 ∷ 6 ∷ []) ∷ pair 7 (2 ∷ 7 ∷ []) ∷ [])
    ≡ codes "p stack 1 3 4\n2 1 0\n-2 -1 0\n3 -1 0\n-3 1 0\n"
unfolding digits
four_pairs = refl

pub long_pair : stack_text 12 (pair 24 (2 ∷ 7 ∷ 22 ∷ 24 ∷ []) ∷ pair 2 (2 ∷ []) ∷ []) ≡ codes "p stack 1 12 2\n12 1 -3 11 0\n1 0\n"
unfolding digits
long_pair = refl
