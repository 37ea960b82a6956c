-- The summary of a run: thirteen lines, each with a name and a value.
use Rattle.std.specs.Prelude.{ℕ, ◌+◌, List, [], ◌∷◌, ◌++◌, length, codes, decimal, Bool, true, false, Option, Some, None, if◌then◌else◌}
use Rattle.cp_logic.specs.declared.named.Named.{Named}
use Rattle.cp_logic.specs.declared.stop.Stop.{Stop}
use Rattle.cp_logic.specs.declared.stop.Stop.TheVariants.{Spent, Numbers, Refuted}
use Rattle.cp_logic.specs.Formulas.{Formula, has_empty}
use Rattle.cp_logic.specs.Entries.{Entry, Taut, Subsume, Strengthen, Block, Eliminate}
use Rattle.cp_logic.specs.Journals.{Post}
use Rattle.cp_summary.specs.declared.sizes.Sizes.{Sizes}
use Rattle.cp_summary.specs.declared.kinds.Kind.{Kind}
use Rattle.cp_summary.specs.declared.kinds.Kind.TheVariants as kind

-- the sum of the sizes of the clauses
abbrev pub literals_in : List Named → ℕ
literals_in [] = 0
literals_in (c ∷ cs) = length c.clause + literals_in cs

abbrev pub sizes_of : Formula → Sizes
sizes_of f = record { variables = f.variables; clauses = length f.clauses; literals = literals_in f.clauses }

-- a formula that has the empty clause is printed as that clause alone
abbrev pub printed_sizes : Formula → Sizes
printed_sizes f = if has_empty f.clauses then record { variables = f.variables; clauses = 1; literals = 0 } else sizes_of f

-- whether the entry is of the kind
abbrev pub is_of : Kind → Entry → Bool
is_of kind.Taut (Taut gone) = true
is_of kind.Subsume (Subsume by gone) = true
is_of kind.Strengthen (Strengthen by on l new) = true
is_of kind.Block (Block gone l) = true
is_of kind.Eliminate (Eliminate x pos neg new) = true
is_of _ _ = false

-- the number of posts with an entry of the kind
abbrev pub count_of : Kind → List Post → ℕ
count_of k [] = 0
count_of k (p ∷ posts) = (if is_of k p.entry then 1 else 0) + count_of k posts

-- the name, one space, the value and a line feed
abbrev pub line : List ℕ → List ℕ → List ℕ
line name value = name ++ (codes " " ++ (value ++ codes "\n"))

-- why the run stopped
abbrev pub stop_text : Option Stop → List ℕ
stop_text None = codes "none"
stop_text (Some Spent) = codes "spent"
stop_text (Some Numbers) = codes "numbers"
stop_text (Some Refuted) = codes "refuted"

-- what came in
abbrev pub input_text : Sizes → List ℕ
input_text sizes =
    line (codes "variables") (decimal sizes.variables)
    ++ (line (codes "clauses") (decimal sizes.clauses)
    ++ line (codes "literals") (decimal sizes.literals))

-- what is left
abbrev pub reduced_text : Sizes → List ℕ
reduced_text sizes =
    line (codes "reduced-clauses") (decimal sizes.clauses)
    ++ line (codes "reduced-literals") (decimal sizes.literals)

-- how often each technique was used
abbrev pub counts_text : List Post → List ℕ
counts_text posts =
    line (codes "tautologies") (decimal (count_of kind.Taut posts))
    ++ (line (codes "subsumed") (decimal (count_of kind.Subsume posts))
    ++ (line (codes "strengthened") (decimal (count_of kind.Strengthen posts))
    ++ (line (codes "blocked") (decimal (count_of kind.Block posts))
    ++ line (codes "eliminated") (decimal (count_of kind.Eliminate posts)))))

-- how many pairs the stack has, why the run stopped, and its status
abbrev pub end_text : ℕ → Option Stop → ℕ → List ℕ
end_text pairs stopped status =
    line (codes "pairs") (decimal pairs)
    ++ (line (codes "stopped") (stop_text stopped)
    ++ line (codes "status") (decimal status))

-- the whole: the sizes of the input, the reduced formula, the posts, the number of pairs, the stop and the status
abbrev pub summary_text : Sizes → Formula → List Post → ℕ → Option Stop → ℕ → List ℕ
summary_text input reduced posts pairs stopped status =
    input_text input ++ (reduced_text (printed_sizes reduced) ++ (counts_text posts ++ end_text pairs stopped status))
