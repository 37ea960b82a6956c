-- The answers of reading a text.
use Rattle.std.specs.Prelude.{◌≡◌, ℕ, List, Result, Ok, Err}
use Rattle.cp_io.specs.declared.limits.Limits.{Limits}
use Rattle.cp_logic.specs.declared.pairs.Stack.{Stack as HeldStack}
use Rattle.cp_logic.specs.Pairs.{pairs_of}
use Rattle.cp_stack.specs.declared.refusal.StackRefusal.{StackRefusal}
use Rattle.cp_stack.specs.declared.refusal.StackRefusal.TheVariants.{BadStack, TooLarge, NoMemory}
use Rattle.cp_stack.specs.Grammar.{Stack, stack_reads}

-- a stack of the code, as that of the definitions
abbrev pub stack_of : HeldStack → Stack
stack_of s = record { variables = s.vars; pairs = pairs_of s.pairs }

-- A refusal is the one of the definitions. Want of memory alone is free.
abbrev pub Refuses : Result Stack StackRefusal → StackRefusal → Type 0
Refuses wanted (BadStack at kind) = wanted ≡ Err (BadStack at kind)
Refuses wanted (TooLarge limit at) = wanted ≡ Err (TooLarge limit at)
Refuses wanted NoMemory = Unit {0}

-- an answer is the one of the definitions
abbrev pub Gives : Result Stack StackRefusal → Result HeldStack StackRefusal → Type 0
Gives wanted (Ok s) = wanted ≡ Ok (stack_of s)
Gives wanted (Err e) = Refuses wanted e

-- an answer is what a text reads as within the limits
abbrev pub AnswersStack : Limits → List ℕ → Result HeldStack StackRefusal → Type 0
AnswersStack limits bytes result = Gives (stack_reads limits bytes) result
