-- The resolvents of one clause with each of a list of clauses.
use Rattle.std.specs.Prelude.{ℕ, not, List, map}
use Rattle.std.specs.List.{filter}
use Rattle.cp_logic.specs.declared.named.Named.{Named}
use Rattle.cp_logic.specs.Clauses.{is_tautology, resolvent}

-- the resolvents on the literal of the clause with each of the others, those that are no tautologies
abbrev pub resolvents_by : ℕ → List ℕ → List Named → List (List ℕ)
resolvents_by l clause others = filter (λ c. not (is_tautology c)) (map (λ d. resolvent l clause d.clause) others)
