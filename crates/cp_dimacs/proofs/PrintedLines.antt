-- The lines of a printed formula.
use Rattle.std.proofs.Common.{◌≡◌, ℕ, Bool, true, false, List, [], ◌∷◌, ◌++◌, length, append_assoc, refl, sym, ◌∙◌, ap}
use Rattle.std.specs.Prelude.{codes, decimal, map, flat_map}
use Rattle.cp_logic.specs.declared.named.Named.{Named}
use Rattle.cp_logic.specs.Literals.{variable_of, is_positive}
use Rattle.cp_logic.specs.Formulas.{Formula, clauses_of, has_empty}
use Rattle.cp_io.specs.Signed.{signed_text}
use Rattle.cp_dimacs.specs.Cnf.{literal_part, clause_text, header_text, cnf_text}
use Rattle.cp_text.proofs.Printed.{after-space, line_text, lines_text, literal_word}

abbrev pub word_of : ℕ → List ℕ
word_of l = literal_word (is_positive l) (variable_of l)

abbrev pub clause_line : List ℕ → List (List ℕ)
clause_line clause = map word_of clause ++ codes "0" ∷ []

abbrev pub header_line : ℕ → ℕ → List (List ℕ)
header_line variables clauses = codes "p" ∷ codes "cnf" ∷ decimal variables ∷ decimal clauses ∷ []

abbrev pub clause_lines : List (List ℕ) → List (List (List ℕ))
clause_lines clauses = map clause_line clauses

literal-part : (l : ℕ) (rest : List ℕ) → literal_part l ++ rest ≡ word_of l ++ 32 ∷ rest
literal-part l rest = go (is_positive l)
  where
    go : (s : Bool) → signed_text s (variable_of l) ++ rest ≡ literal_word s (variable_of l) ++ 32 ∷ rest
    go true = append_assoc (decimal (variable_of l)) (codes " ") rest
    go false = ap (λ (t : List ℕ). 45 ∷ t) (append_assoc (decimal (variable_of l)) (codes " ") rest)

clause-line : (clause : List ℕ) → clause_text clause ≡ line_text (clause_line clause)
clause-line [] = refl
clause-line (l ∷ ls) =
    append_assoc (literal_part l) (flat_map literal_part ls) (codes "0\n") ∙ literal-part l (clause_text ls)
    ∙ ap (λ (t : List ℕ). word_of l ++ 32 ∷ t) (clause-line ls) ∙ ap (λ (t : List ℕ). word_of l ++ t) (sym (after-space (map word_of ls) (codes "0")))

clause-lines : (cs : List Named) → flat_map (λ c. clause_text c.clause) cs ≡ lines_text (clause_lines (map (λ c. c.clause) cs))
clause-lines [] = refl
clause-lines (c ∷ cs) = ap (λ (t : List ℕ). t ++ flat_map (λ c. clause_text c.clause) cs) (clause-line c.clause) ∙ ap (λ (t : List ℕ). line_text (clause_line c.clause) ++ t) (clause-lines cs)

-- a printed formula as its lines
pub cnf-lines : (f : Formula) → has_empty f.clauses ≡ false → cnf_text f ≡ lines_text (header_line f.variables (length f.clauses) ∷ clause_lines (clauses_of f.clauses))
cnf-lines f none = rw none (ap (λ (t : List ℕ). header_text f.variables (length f.clauses) ++ t) (clause-lines f.clauses))

-- the same of one with the empty clause
pub empty-lines : (f : Formula) → has_empty f.clauses ≡ true → cnf_text f ≡ lines_text (header_line f.variables 1 ∷ clause_lines ([] ∷ []))
empty-lines f some = rw some refl
