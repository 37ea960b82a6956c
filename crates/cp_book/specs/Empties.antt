-- The numbers of the empty clauses, and the least one.
use Rattle.std.specs.Prelude.{ℕ, Option, List}
use Rattle.std.specs.List.{find, filter}
use Rattle.std.specs.Option.{option_map}
use Rattle.cp_logic.specs.declared.named.Named.{Named}
use Rattle.cp_logic.specs.Clauses.{is_empty}
use Rattle.cp_logic.specs.Formulas.{numbers_of}

-- the numbers of the empty clauses, in the order of the clauses
abbrev pub empty_numbers : List Named → List ℕ
empty_numbers cs = numbers_of (filter (λ c. is_empty c.clause) cs)

-- of clauses by ascending number: the number of the first that is empty
abbrev pub least_empty : List Named → Option ℕ
least_empty cs = option_map (λ c. c.number) (find (λ c. is_empty c.clause) cs)
