-- What a reader of an input that comes in pieces answers at its end.
use Rattle.std.specs.Prelude.{List, ℕ, Result}
use Rattle.cp_io.specs.Feeding.{ReaderState, IsFed}
use Rattle.cp_logic.specs.Slots.{Held}
use Rattle.cp_dimacs.specs.declared.refusal.CnfRefusal.{CnfRefusal}
use Rattle.cp_dimacs.specs.Reads.{AnswersCnf}

-- The answer is what all bytes that were fed read as.
abbrev pub Finishes : ReaderState → Result Held CnfRefusal → Type 0
Finishes r result = (all : List ℕ) → IsFed r all → AnswersCnf r.limits all result
