-- The summary of a small run, and what a formula with the empty clause is counted as.
use Rattle.std.proofs.Common.{◌≡◌, ℕ, List, [], ◌∷◌, None, refl}
use Rattle.std.specs.Prelude.{codes}
use Rattle.std.specs.Fmt.{digits}
use Rattle.cp_logic.specs.declared.named.Named.{Named}
use Rattle.cp_logic.specs.Entries.{Entry, Taut, Block}
use Rattle.cp_logic.specs.Journals.{Post}
use Rattle.cp_summary.specs.Text.{summary_text, reduced_text, printed_sizes, sizes_of}

abbrev pub named : ℕ → List ℕ → Named
named number clause = record { number = number; clause = clause }

abbrev pub post : Entry → Post
post entry = record { worker = 0; round = 0; entry = entry }

pub generated-seven :
    summary_text (sizes_of (record { variables = 3; next = 3; clauses = named 1 (5 ∷ 6 ∷ 7 ∷ []) ∷ named 2 (4 ∷ 7 ∷ []) ∷ [] })) (record { variables = 3; next = 3; clauses = [] })
    (post (Taut (named 1 (5 ∷ 6 ∷ 7 ∷ []))) ∷ post (Block (named 2 (4 ∷ 7 ∷ [])) 4) ∷ []) 1 None 10
    ≡ codes "variables 3\nclauses 2\nliterals 5\nreduced-clauses 0\nreduced-literals 0\ntautologies 1\nsubsumed 0\nstrengthened 0\nblocked 1\neliminated 0\npairs 1\nstopped none\nstatus 10\n"
unfolding digits
generated-seven = refl

pub refuted : reduced_text (printed_sizes (record { variables = 1; next = 4; clauses = named 1 (2 ∷ []) ∷ named 3 [] ∷ [] })) ≡ codes "reduced-clauses 1\nreduced-literals 0\n"
unfolding digits
refuted = refl
