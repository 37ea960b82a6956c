-- What a post does to the current clauses and to the pairs, and what it needs for that.
use Rattle.std.specs.Prelude.{ℕ, List, [], ◌∷◌, ◌++◌}
use Rattle.cp_logic.specs.declared.named.Named.{Named}
use Rattle.cp_logic.specs.declared.pairs.Pair.{Pair as HeldPair}
use Rattle.cp_logic.specs.Lists.{Roomy}
use Rattle.cp_logic.specs.Formulas.{Formula}
use Rattle.cp_logic.specs.Pairs.{pairs_of}
use Rattle.cp_logic.specs.Rules.{State, added}
use Rattle.cp_logic.specs.Entries.{Entry, Taut, Subsume, Strengthen, Block, Eliminate, Look}

-- a formula and the pairs of a stack
abbrev pub state_of : Formula → Roomy HeldPair → State
state_of f pairs = record { formula = f; pairs = pairs_of pairs }

-- the formula with these clauses, each under the next number
abbrev pub with_all : Formula → List (List ℕ) → Formula
with_all f [] = f
with_all f (c ∷ cs) = with_all (added f (record { number = f.next; clause = c })) cs

-- the clauses that the entry weakens, which are those of its pairs
abbrev pub weakened : Entry → List Named
weakened (Taut gone) = []
weakened (Subsume by gone) = []
weakened (Strengthen by on l new) = []
weakened (Block gone l) = gone ∷ []
weakened (Eliminate x pos neg new) = pos ++ neg
weakened (Look x) = []
