-- What a book answers to an entry.
use Rattle.std.specs.Prelude.{ℕ, ◌+◌, nat_lt, Bool, Option, Some, None, Result, Ok, Err, length, if◌then◌else◌}
use Rattle.cp_logic.specs.Entries.{Entry, new_clauses}
use Rattle.cp_logic.specs.Formulas.{Formula}
use Rattle.cp_logic.specs.Journals.{commits, number_limit}
use Rattle.cp_logic.specs.Sweeps.{is_spent}
use Rattle.cp_logic.specs.Views.{entry_of}
use Rattle.cp_book.specs.declared.answers.PostAnswer.{PostAnswer}
use Rattle.cp_book.specs.declared.answers.PostAnswer.TheVariants.{Refuted as HeldRefuted, Spent as HeldSpent, Numbers as HeldNumbers}
use Rattle.cp_book.specs.Empties.{least_empty}
use Rattle.cp_book.specs.Views.{BookView, current}

pub data Answer : Type 0 where
  Posted : (position : ℕ) → Answer
  Refuted : (empty : ℕ) (entry : Entry) → Answer
  Spent : (len : ℕ) (entry : Entry) → Answer
  Numbers : (next : ℕ) (entry : Entry) → Answer

-- the answers of the code, as those of the definitions
abbrev pub given_answer : Result ℕ PostAnswer → Answer
given_answer (Ok position) = Posted position
given_answer (Err (HeldRefuted empty entry)) = Refuted empty (entry_of entry)
given_answer (Err (HeldSpent len entry)) = Spent len (entry_of entry)
given_answer (Err (HeldNumbers next entry)) = Numbers next (entry_of entry)

-- refuted by the empty clause, if there is one, and else the other answer
abbrev pub unless_empty : Option ℕ → Entry → Answer → Answer
unless_empty (Some n) e other = Refuted n e
unless_empty None e other = other

-- whether the entry's new clauses would pass the last number
abbrev pub passes_numbers : Formula → Entry → Bool
passes_numbers f e = nat_lt number_limit (f.next + length (new_clauses e))

-- the answer to an entry that is legal where no clause is empty: refuted where a clause is empty, then spent where the commits
-- number the budget, then stopped where the new clauses would pass the last number, and else the position of its post
abbrev pub answer_to : BookView → Entry → Answer
answer_to b e =
    unless_empty (least_empty (current b).clauses) e
    (if is_spent b.rules (commits b.posts) then Spent (commits b.posts) e
    else (if passes_numbers (current b) e then Numbers (current b).next e
    else Posted (length b.posts)))
