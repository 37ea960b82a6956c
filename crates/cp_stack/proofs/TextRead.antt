-- What a text reads as, from what is seen of it.
use Rattle.std.proofs.Common.{◌≡◌, ℕ, ◌+◌, true, false, ltb, List, length, take, Result, refl, ◌∙◌, ap, subst}
use Rattle.cp_io.specs.declared.limits.Limits.{Limits}
use Rattle.cp_logic.specs.declared.pairs.Stack.{Stack as HeldStack}
use Rattle.cp_text.specs.Text.{Line}
use Rattle.cp_text.specs.Cut.{lines_within}
use Rattle.cp_text.proofs.Cuts.{sees-within}
use Rattle.cp_stack.specs.declared.refusal.StackRefusal.{StackRefusal}
use Rattle.cp_stack.specs.Grammar.{Stack, document, cut_at, stack_reads}
use Rattle.cp_stack.specs.Reads.{Gives, AnswersStack}
use Rattle.cp_io.specs.Feeding.{ReaderState}
use Rattle.cp_stack.specs.Reader.{Finishes}

pub reads-past : (limits : Limits) (bytes : List ℕ) (lines : List Line) → ltb limits.bytes (length bytes) ≡ true → lines_within limits.bytes bytes ≡ lines → cut_at limits.bytes (document limits lines) ≡ stack_reads limits bytes
unfolding stack_reads
reads-past limits bytes lines past seen = rw (past, seen) refl

pub reads-whole : (limits : Limits) (bytes : List ℕ) (lines : List Line) → ltb limits.bytes (length bytes) ≡ false → lines_within limits.bytes bytes ≡ lines → document limits lines ≡ stack_reads limits bytes
unfolding stack_reads
reads-whole limits bytes lines whole seen = rw (whole, seen) refl

-- no byte behind the first past the limit is looked at
pub reads-kept : (limits : Limits) (bytes : List ℕ) → stack_reads limits (take (limits.bytes + 1) bytes) ≡ stack_reads limits bytes
unfolding stack_reads
reads-kept limits bytes = let same = sees-within limits.bytes bytes in rw (same.0, same.1) refl

-- an answer for what is kept is one for all bytes
pub answers-all : (limits : Limits) (kept bytes : List ℕ) (result : Result HeldStack StackRefusal) → kept ≡ take (limits.bytes + 1) bytes → AnswersStack limits kept result → AnswersStack limits bytes result
answers-all limits kept bytes result is h = subst (λ (w : Result Stack StackRefusal). Gives w result) (ap (stack_reads limits) is ∙ reads-kept limits bytes) h

pub finishes : (r : ReaderState) (result : Result HeldStack StackRefusal) → AnswersStack r.limits r.bytes result → Finishes r result
finishes r result h = λ all fed. answers-all r.limits r.bytes all result fed h
