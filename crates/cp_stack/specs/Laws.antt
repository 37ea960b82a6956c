-- The laws of what a text reads as.
use Rattle.std.specs.Prelude.{◌≡◌, ℕ, ◌+◌, ◌^◌, ◌<◌, ◌≤◌, List, length, take, Ok, IsTrue}
use Rattle.std.specs.List.{All}
use Rattle.cp_io.specs.declared.limits.Limits.{Limits}
use Rattle.cp_logic.specs.Clauses.{contains, IsAscending}
use Rattle.cp_logic.specs.declared.settings.Rules.{Rules}
use Rattle.cp_logic.specs.Formulas.{Formula, IsFormula, IsWithin}
use Rattle.cp_logic.specs.Journals.{Post, IsLegalJournal, folded}
use Rattle.cp_logic.specs.Assignments.{Pair}
use Rattle.cp_stack.specs.Text.{stack_text}
use Rattle.cp_stack.specs.Grammar.{stack_reads}

-- What a text reads as depends on no byte behind the first past the limit.
abbrev pub ReadsWithin : Type 0
ReadsWithin = (limits : Limits) (bytes : List ℕ) → stack_reads limits (take (limits.bytes + 1) bytes) ≡ stack_reads limits bytes

-- a clause of literals of the variables from 1 to the number of variables, and one of its literals
pub record IsPair (variables : ℕ) (p : Pair) : Type 0 where
  pub literal : IsTrue (contains p.clause p.literal)
  pub ascending : IsAscending p.clause
  pub within : IsWithin variables p.clause

-- within the limits the text of a stack is read as the stack
abbrev pub ReadsPrinted : Type 0
ReadsPrinted = (limits : Limits) (variables : ℕ) (pairs : List Pair) → limits.variables < 2 ^ 32 → limits.bytes < 2 ^ 64
    → All (IsPair variables) pairs → variables ≤ limits.variables → length (stack_text variables pairs) ≤ limits.bytes
    → stack_reads limits (stack_text variables pairs) ≡ Ok (record { variables = variables; pairs = pairs })

-- the pairs that a legal journal leads to are such pairs
abbrev pub JournalMakesPairs : Type 0
JournalMakesPairs = (f : Formula) (rules : Rules) (posts : List Post) → IsFormula f → IsLegalJournal f rules posts → All (IsPair f.variables) (folded f posts).pairs

-- so within the limits the text of a legal journal's stack is read as the stack
abbrev pub ReadsJournalStack : Type 0
ReadsJournalStack = (limits : Limits) (f : Formula) (rules : Rules) (posts : List Post) → limits.variables < 2 ^ 32 → limits.bytes < 2 ^ 64
    → IsFormula f → IsLegalJournal f rules posts → f.variables ≤ limits.variables → length (stack_text f.variables (folded f posts).pairs) ≤ limits.bytes
    → stack_reads limits (stack_text f.variables (folded f posts).pairs) ≡ Ok (record { variables = f.variables; pairs = (folded f posts).pairs })
