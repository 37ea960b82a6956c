-- The text of a model. A model is the list of the truth values of the variables 1, 2, ..
use Rattle.std.specs.Prelude.{ℕ, zero, suc, ◌+◌, ◌/◌, List, [], ◌∷◌, ◌++◌, length, take, drop, codes, decimal, Bool, if◌then◌else◌}

-- a space, and a `-` where the variable is false
abbrev pub sign_text : Bool → List ℕ
sign_text value = if value then codes " " else codes " -"

-- behind a space, the literal of the variable that is true
abbrev pub value_text : ℕ → Bool → List ℕ
value_text x value = sign_text value ++ decimal x

-- the literals of the variables from x on
abbrev pub values_text : ℕ → List Bool → List ℕ
values_text x [] = []
values_text x (value ∷ values) = value_text x value ++ values_text (x + 1) values

-- a line of the literals of the variables from x on
abbrev pub line_text : ℕ → List Bool → List ℕ
line_text x values = codes "v" ++ (values_text x values ++ codes "\n")

-- so many lines of the variables from x on, ten on each
abbrev pub lines_text : ℕ → ℕ → List Bool → List ℕ
lines_text zero x values = []
lines_text (suc n) x values = line_text x (take 10 values) ++ lines_text n (x + 10) (drop 10 values)

-- that there is a model; the literals, ten to a line, the last line with what is left; and a 0 on a line of its own
abbrev pub model_text : List Bool → List ℕ
model_text values = codes "s SATISFIABLE\n" ++ (lines_text ((length values + 9) / 10) 1 values ++ codes "v 0\n")
