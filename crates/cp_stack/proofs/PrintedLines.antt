-- The lines of a printed stack.
use Rattle.std.proofs.Common.{◌≡◌, ℕ, Bool, true, false, List, [], ◌∷◌, ◌++◌, length, append_assoc, refl, sym, ◌∙◌, ap}
use Rattle.std.specs.Prelude.{codes, decimal, map, flat_map}
use Rattle.cp_logic.specs.Literals.{variable_of, is_positive}
use Rattle.cp_logic.specs.Clauses.{without}
use Rattle.cp_logic.specs.Assignments.{Pair}
use Rattle.cp_io.specs.Signed.{sign_text}
use Rattle.cp_stack.specs.Text.{literal_part, pair_text, header_text, stack_text}
use Rattle.cp_text.proofs.Printed.{after-space, line_text, lines_text, literal_word}

abbrev pub word_of : ℕ → List ℕ
word_of l = literal_word (is_positive l) (variable_of l)

-- the literals and a 0
abbrev pub literals_line : List ℕ → List (List ℕ)
literals_line ls = map word_of ls ++ codes "0" ∷ []

abbrev pub pair_line : Pair → List (List ℕ)
pair_line p = literals_line (p.literal ∷ without p.clause p.literal)

abbrev pub header_line : ℕ → ℕ → List (List ℕ)
header_line variables pairs = codes "p" ∷ codes "stack" ∷ codes "1" ∷ decimal variables ∷ decimal pairs ∷ []

literal-part : (l : ℕ) (rest : List ℕ) → literal_part l ++ rest ≡ word_of l ++ 32 ∷ rest
literal-part l rest = go (is_positive l)
  where
    go : (s : Bool) → (sign_text s ++ (decimal (variable_of l) ++ codes " ")) ++ rest ≡ literal_word s (variable_of l) ++ 32 ∷ rest
    go true = append_assoc (decimal (variable_of l)) (codes " ") rest
    go false = ap (λ (t : List ℕ). 45 ∷ t) (append_assoc (decimal (variable_of l)) (codes " ") rest)

literals-line : (ls : List ℕ) → flat_map literal_part ls ++ codes "0\n" ≡ line_text (literals_line ls)
literals-line [] = refl
literals-line (l ∷ ls) =
    append_assoc (literal_part l) (flat_map literal_part ls) (codes "0\n") ∙ literal-part l (flat_map literal_part ls ++ codes "0\n")
    ∙ ap (λ (t : List ℕ). word_of l ++ 32 ∷ t) (literals-line ls) ∙ ap (λ (t : List ℕ). word_of l ++ t) (sym (after-space (map word_of ls) (codes "0")))

pair-line : (p : Pair) → pair_text p ≡ line_text (pair_line p)
pair-line p = sym (append_assoc (literal_part p.literal) (flat_map literal_part (without p.clause p.literal)) (codes "0\n")) ∙ literals-line (p.literal ∷ without p.clause p.literal)

pair-lines : (ps : List Pair) → flat_map pair_text ps ≡ lines_text (map pair_line ps)
pair-lines [] = refl
pair-lines (p ∷ ps) = ap (λ (t : List ℕ). t ++ flat_map pair_text ps) (pair-line p) ∙ ap (λ (t : List ℕ). line_text (pair_line p) ++ t) (pair-lines ps)

-- a printed stack as its lines
pub stack-lines : (variables : ℕ) (ps : List Pair) → stack_text variables ps ≡ lines_text (header_line variables (length ps) ∷ map pair_line ps)
stack-lines variables ps = ap (λ (t : List ℕ). header_text variables (length ps) ++ t) (pair-lines ps)
