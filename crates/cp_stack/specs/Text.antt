-- The text of a witness stack.
use Rattle.std.specs.Prelude.{ℕ, List, ◌++◌, length, flat_map, codes, decimal}
use Rattle.cp_io.specs.Signed.{signed_text}
use Rattle.cp_logic.specs.Literals.{variable_of, is_positive}
use Rattle.cp_logic.specs.Clauses.{without}
use Rattle.cp_logic.specs.Assignments.{Pair}

-- the variable, behind a `-` where the literal is negative, and a space
abbrev pub literal_part : ℕ → List ℕ
literal_part l = signed_text (is_positive l) (variable_of l)

-- the literal of the pair, the other literals of its clause by ascending order, and a 0
abbrev pub pair_text : Pair → List ℕ
pair_text p = literal_part p.literal ++ (flat_map literal_part (without p.clause p.literal) ++ codes "0\n")

-- the version, the number of variables and the number of pairs
abbrev pub header_text : ℕ → ℕ → List ℕ
header_text variables pairs = codes "p stack 1 " ++ (decimal variables ++ (codes " " ++ (decimal pairs ++ codes "\n")))

-- the header, and the pairs from the first to the last
abbrev pub stack_text : ℕ → List Pair → List ℕ
stack_text variables pairs = header_text variables (length pairs) ++ flat_map pair_text pairs
