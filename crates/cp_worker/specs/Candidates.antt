-- Which variable a drawn number stands for.
use Rattle.std.specs.Prelude.{ℕ, ◌+◌, ◌*◌, ◌/◌, ◌%◌, nat_lt, if◌then◌else◌, List, map}

-- the place, counted column by column, of what is n-th counted row by row, in a table of so many columns and rows; past the table n itself
abbrev pub transposed : ℕ → ℕ → ℕ → ℕ
transposed columns rows n = if nat_lt n (columns * rows) then n % columns * rows + n / columns else n

-- the variable, counted from 1, that the drawn number stands for: as many as fill a table with a column for each worker are transposed
abbrev pub candidate_of : ℕ → ℕ → ℕ → ℕ
candidate_of workers variables n = transposed workers (variables / workers) n + 1

-- the number that stands for the variable x + 1
abbrev pub number_of : ℕ → ℕ → ℕ → ℕ
number_of workers variables x = transposed (variables / workers) workers x

-- the candidates of the numbers drawn
abbrev pub candidates_of : ℕ → ℕ → List ℕ → List ℕ
candidates_of workers variables drawn = map (λ n. candidate_of workers variables n) drawn
