-- What a reader of a text that comes in pieces answers at its end.
use Rattle.std.specs.Prelude.{List, ℕ, Result}
use Rattle.cp_io.specs.Feeding.{ReaderState, IsFed}
use Rattle.cp_logic.specs.declared.pairs.Stack.{Stack as HeldStack}
use Rattle.cp_stack.specs.declared.refusal.StackRefusal.{StackRefusal}
use Rattle.cp_stack.specs.Reads.{AnswersStack}

-- The answer is what all bytes that were fed read as.
abbrev pub Finishes : ReaderState → Result HeldStack StackRefusal → Type 0
Finishes r result = (all : List ℕ) → IsFed r all → AnswersStack r.limits all result
