-- What is answered where the lines of a text are read.
use Rattle.std.proofs.Common.{◌≡◌, ◌≢◌, ℕ, Bool, ltb, List, length, Result, Err, refl, sym, ◌∙◌, ap}
use Rattle.cp_io.specs.declared.limits.Limits.{Limits}
use Rattle.cp_text.specs.Cut.{lines_within}
use Rattle.cp_text.specs.Text.{Line}
use Rattle.cp_extend.specs.declared.refusal.ModelRefusal.{ModelRefusal}
use Rattle.cp_extend.specs.declared.refusal.ModelRefusal.TheVariants.{BadModel, NoModel, TooLarge, NoMemory}
use Rattle.cp_extend.specs.declared.refusal.Stop.{Stop}
use Rattle.cp_extend.specs.Grammar.{Given, Reading, nothing_read, document, told, answer, model_reads}
use Rattle.cp_extend.specs.Reads.{AnswersModel}

pub reads-lines : (limits : Limits) (variables : ℕ) (bytes : List ℕ) (past : Bool) (lines : List Line) (read : Reading) (result : Result Given Stop) → past ≡ ltb limits.bytes (length bytes) → lines_within limits.bytes bytes ≡ lines → read ≡ nothing_read
    → document limits read 0 lines ≡ result → model_reads limits variables bytes ≡ answer limits variables past result
unfolding model_reads
reads-lines limits variables bytes past lines read result is seen nothing e = rw (sym is, seen, sym nothing, e) refl

-- the answer is refused as the text is
answers-refused : (limits : Limits) (variables : ℕ) (bytes : List ℕ) (refusal : ModelRefusal) → (refusal ≢ NoMemory → model_reads limits variables bytes ≡ Err refusal) → AnswersModel limits variables bytes (Err refusal)
answers-refused limits variables bytes (BadModel offset kind) h = h (λ e. cc)
answers-refused limits variables bytes NoModel h = h (λ e. cc)
answers-refused limits variables bytes (TooLarge limit offset) h = h (λ e. cc)
answers-refused limits variables bytes NoMemory h = tt

memory_or_not : (refusal : ModelRefusal) (A : Type 0) → (refusal ≡ NoMemory → A) → (refusal ≢ NoMemory → A) → A
memory_or_not (BadModel offset kind) A f g = g (λ e. cc)
memory_or_not NoModel A f g = g (λ e. cc)
memory_or_not (TooLarge limit offset) A f g = g (λ e. cc)
memory_or_not NoMemory A f g = f refl

pub answers-stop : (limits : Limits) (variables : ℕ) (bytes : List ℕ) (past : Bool) (lines : List Line) (read : Reading) (stop : Stop) (refusal : ModelRefusal) → past ≡ ltb limits.bytes (length bytes) → lines_within limits.bytes bytes ≡ lines → read ≡ nothing_read
    → (stop.refusal ≢ NoMemory → document limits read 0 lines ≡ Err stop) → (stop.refusal ≡ NoMemory → refusal ≡ NoMemory) → (stop.refusal ≢ NoMemory → refusal ≡ told past limits.bytes stop) → AnswersModel limits variables bytes (Err refusal)
answers-stop limits variables bytes past lines read stop refusal is seen nothing stops memory others =
    answers-refused limits variables bytes refusal (λ not. memory_or_not stop.refusal (model_reads limits variables bytes ≡ Err refusal) (λ e. absurd (not (memory e)))
    (λ apart. reads-lines limits variables bytes past lines read (Err stop) is seen nothing (stops apart) ∙ ap (λ r. Err r) (sym (others apart))))
