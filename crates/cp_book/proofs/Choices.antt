-- The answer to an entry that passed the first tests, and why a book is stopped.
use Rattle.std.proofs.Common.{◌≡◌, ℕ, Bool, false, cond, length, Some, None, Result, Ok, Err, is_err, refl, sym, ◌∙◌, ap}
use Rattle.std.specs.Prelude.{is_some}
use Rattle.cp_logic.specs.declared.stop.Stop.TheVariants.{Spent as StopSpent, Refuted as StopRefuted}
use Rattle.cp_logic.specs.Entries.{Entry}
use Rattle.cp_logic.specs.Journals.{commits}
use Rattle.cp_logic.specs.Sweeps.{is_spent}
use Rattle.cp_book.specs.Empties.{least_empty}
use Rattle.cp_book.specs.Views.{BookView, current, stop_in}
use Rattle.cp_book.specs.declared.answers.PostAnswer.{PostAnswer}
use Rattle.cp_book.specs.declared.answers.PostAnswer.TheVariants.{Refuted as HeldRefuted, Spent as HeldSpent, Numbers as HeldNumbers}
use Rattle.cp_book.specs.Answers.{Answer, Posted, given_answer, passes_numbers, answer_to}
use Rattle.cp_book.proofs.EmptyFacts.{has_empty-least}

-- an entry that passed the tests is posted
pub answer-tested : (b : BookView) (e : Entry) → least_empty (current b).clauses ≡ None → is_spent b.rules (commits b.posts) ≡ false → passes_numbers (current b) e ≡ false
    → answer_to b e ≡ Posted (length b.posts)
answer-tested b e none unspent room = rw (none, unspent, room) refl

-- why it is stopped, by whether there is an empty clause and whether the budget is spent
pub stop-tested : (b : BookView) (empty spent : Bool) → is_some (least_empty (current b).clauses) ≡ empty → is_spent b.rules (commits b.posts) ≡ spent
    → cond empty (Some StopRefuted) (cond spent (Some StopSpent) None) ≡ stop_in b
stop-tested b empty spent e s =
    sym (ap (λ t. cond t (Some StopRefuted) (cond (is_spent b.rules (commits b.posts)) (Some StopSpent) None)) (has_empty-least (current b).clauses ∙ e)
    ∙ ap (λ t. cond empty (Some StopRefuted) (cond t (Some StopSpent) None)) s)

-- an answer that posts is no refusal
pub posted-ok : (r : Result ℕ PostAnswer) (a : Answer) (n : ℕ) → given_answer r ≡ a → a ≡ Posted n → is_err r ≡ false
posted-ok (Ok position) a n h p = refl
posted-ok (Err (HeldRefuted empty entry)) a n h p = cc
posted-ok (Err (HeldSpent len entry)) a n h p = cc
posted-ok (Err (HeldNumbers next entry)) a n h p = cc
