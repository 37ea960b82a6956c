-- What a reader of models answers, against what the text reads as.
use Rattle.std.specs.Prelude.{◌≡◌, ℕ, List, length, Bool, Result, Ok, Err}
use Rattle.cp_io.specs.declared.limits.Limits.{Limits}
use Rattle.cp_io.specs.Feeding.{ReaderState, IsFed}
use Rattle.cp_extend.specs.declared.refusal.ModelRefusal.{ModelRefusal}
use Rattle.cp_extend.specs.declared.refusal.ModelRefusal.TheVariants.{NoMemory}
use Rattle.cp_extend.specs.Grammar.{model_reads}

-- The answer is what the text reads as, unless memory is wanted.
abbrev pub AnswersModel : Limits → ℕ → List ℕ → Result (List Bool) ModelRefusal → Type 0
AnswersModel limits variables bytes (Ok values) = model_reads limits variables bytes ≡ Ok values
AnswersModel limits variables bytes (Err NoMemory) = Unit {0}
AnswersModel limits variables bytes (Err refusal) = model_reads limits variables bytes ≡ Err refusal

-- the same of a model that is filled in place
abbrev pub AnswersInto : Limits → List ℕ → List Bool → Result (Unit {0}) ModelRefusal → List Bool → Type 0
AnswersInto limits bytes old (Ok done) new = AnswersModel limits (length old) bytes (Ok new)
AnswersInto limits bytes old (Err refusal) new = AnswersModel limits (length old) bytes (Err refusal)

-- what contracts see of a reader: its variables, and what it was fed
pub record ModelReaderState : Type 0 where
  pub variables : ℕ
  pub fed : ReaderState

-- The answer is what all bytes that were fed read as.
abbrev pub Finishes : ModelReaderState → Result (List Bool) ModelRefusal → Type 0
Finishes r result = (all : List ℕ) → IsFed r.fed all → AnswersModel r.fed.limits r.variables all result
