-- The laws of what an input reads as.
use Rattle.std.specs.Prelude.{◌≡◌, ℕ, ◌+◌, ◌^◌, ◌<◌, ◌≤◌, List, [], ◌∷◌, length, take, sum_by, Ok, if◌then◌else◌}
use Rattle.cp_io.specs.declared.limits.Limits.{Limits}
use Rattle.cp_logic.specs.Entries.{renumbered}
use Rattle.cp_logic.specs.Formulas.{Formula, IsFormula, clauses_of, has_empty}
use Rattle.cp_dimacs.specs.Grammar.{reads}
use Rattle.cp_dimacs.specs.Cnf.{cnf_text}

-- What an input reads as depends on no byte behind the first past the limit.
abbrev pub ReadsWithin : Type 0
ReadsWithin = (limits : Limits) (input : List ℕ) → reads limits (take (limits.bytes + 1) input) ≡ reads limits input

-- A formula that is read has no more clauses than the limit says.
abbrev pub ReadsFew : Type 0
ReadsFew = (limits : Limits) (input : List ℕ) (f : Formula) → reads limits input ≡ Ok f → f.next ≤ limits.clauses + 1

-- What a printed formula is read as: its clauses in order, numbered 1, 2, .., or, where one is empty, the empty clause alone.
abbrev pub as_printed : Formula → Formula
as_printed f = if has_empty f.clauses then record { variables = f.variables; next = 2; clauses = record { number = 1; clause = [] } ∷ [] }
    else record { variables = f.variables; next = length f.clauses + 1; clauses = renumbered 1 f.clauses }

-- the formula and its text keep the limits
pub record KeepsLimits (limits : Limits) (f : Formula) : Type 0 where
  pub variables : f.variables ≤ limits.variables
  pub clauses : length f.clauses ≤ limits.clauses
  pub literals : sum_by length (clauses_of f.clauses) ≤ limits.literals
  pub bytes : length (cnf_text f) ≤ limits.bytes

-- within the limits the text of a formula is read as its clauses
abbrev pub ReadsPrinted : Type 0
ReadsPrinted = (limits : Limits) (f : Formula) → limits.variables < 2 ^ 32 → limits.clauses < 2 ^ 64 → IsFormula f → KeepsLimits limits f → reads limits (cnf_text f) ≡ Ok (as_printed f)
