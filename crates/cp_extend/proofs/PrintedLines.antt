-- The lines of a printed model.
use Rattle.std.proofs.Common.{◌≡◌, ℕ, zero, suc, ◌+◌, ◌/◌, Bool, true, false, List, [], ◌∷◌, ◌++◌, length, take, drop, append_assoc, refl, ◌∙◌, ap}
use Rattle.std.specs.Prelude.{codes, decimal}
use Rattle.cp_extend.specs.ModelText.{values_text, line_text as model_line_text, lines_text as model_lines_text, model_text}
use Rattle.cp_text.proofs.Printed.{after, line_text, lines_text, literal_word}

abbrev pub value_words : ℕ → List Bool → List (List ℕ)
value_words x [] = []
value_words x (value ∷ values) = literal_word value x ∷ value_words (x + 1) values

abbrev pub value_lines : ℕ → ℕ → List Bool → List (List (List ℕ))
value_lines zero x values = (codes "v" ∷ codes "0" ∷ []) ∷ []
value_lines (suc n) x values = (codes "v" ∷ value_words x (take 10 values)) ∷ value_lines n (x + 10) (drop 10 values)

abbrev pub model_lines : List Bool → List (List (List ℕ))
model_lines values = (codes "s" ∷ codes "SATISFIABLE" ∷ []) ∷ value_lines ((length values + 9) / 10) 1 values

value-words : (x : ℕ) (values : List Bool) → values_text x values ++ 10 ∷ [] ≡ after (value_words x values)
value-words x [] = refl
value-words x (true ∷ values) = ap (λ (t : List ℕ). 32 ∷ t) (append_assoc (decimal x) (values_text (x + 1) values) (10 ∷ []) ∙ ap (λ (t : List ℕ). decimal x ++ t) (value-words (x + 1) values))
value-words x (false ∷ values) = ap (λ (t : List ℕ). 32 ∷ 45 ∷ t) (append_assoc (decimal x) (values_text (x + 1) values) (10 ∷ []) ∙ ap (λ (t : List ℕ). decimal x ++ t) (value-words (x + 1) values))

value-lines : (n x : ℕ) (values : List Bool) → model_lines_text n x values ++ codes "v 0\n" ≡ lines_text (value_lines n x values)
value-lines zero x values = refl
value-lines (suc n) x values =
    append_assoc (model_line_text x (take 10 values)) (model_lines_text n (x + 10) (drop 10 values)) (codes "v 0\n")
    ∙ ap (λ (t : List ℕ). (118 ∷ t) ++ (model_lines_text n (x + 10) (drop 10 values) ++ codes "v 0\n")) (value-words x (take 10 values))
    ∙ ap (λ (t : List ℕ). line_text (codes "v" ∷ value_words x (take 10 values)) ++ t) (value-lines n (x + 10) (drop 10 values))

-- a printed model as its lines
pub model-lines : (values : List Bool) → model_text values ≡ lines_text (model_lines values)
model-lines values = ap (λ (t : List ℕ). codes "s SATISFIABLE\n" ++ t) (value-lines ((length values + 9) / 10) 1 values)
