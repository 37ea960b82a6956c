-- What a model reads as: a value for each of the variables, and nothing that hangs on bytes past the limit.
use Rattle.std.proofs.Common.{◌≡◌, ℕ, ◌+◌, Bool, true, List, length, take, refl, Result, Ok, Err, sym, ◌∙◌, ap, subst}
use Rattle.std.specs.Prelude.{nat_lt}
use Rattle.std.proofs.lemmas.List.FromFn.{length-map-range_with_len}
use Rattle.cp_io.specs.declared.limits.Limits.{Limits}
use Rattle.cp_text.specs.Cut.{lines_within}
use Rattle.cp_text.proofs.Cuts.{sees-within}
use Rattle.cp_extend.specs.declared.refusal.ModelRefusal.{ModelRefusal}
use Rattle.cp_extend.specs.declared.refusal.ModelRefusal.TheVariants.{BadModel, NoModel, TooLarge, NoMemory}
use Rattle.cp_extend.specs.declared.refusal.Stop.{Stop}
use Rattle.cp_extend.specs.Grammar.{Given, is_value, values_of, nothing_read, document, answer, model_reads}
use Rattle.cp_extend.specs.Reads.{ModelReaderState, AnswersModel, Finishes}

answer-length : (limits : Limits) (variables : ℕ) (past : Bool) (found : Result Given Stop) (values : List Bool) → answer limits variables past found ≡ Ok values → length values ≡ variables
answer-length limits variables past (Ok given) values is =
    let same : values_of variables given ≡ values = cc in
    ap length (sym same) ∙ length-map-range_with_len (λ k. is_value true (given (k + 1))) 0 variables
answer-length limits variables past (Err stop) values is = cc

pub reads-length : (limits : Limits) (variables : ℕ) (bytes : List ℕ) (values : List Bool) → model_reads limits variables bytes ≡ Ok values → length values ≡ variables
unfolding model_reads
reads-length limits variables bytes values is = answer-length limits variables (nat_lt limits.bytes (length bytes)) (document limits nothing_read 0 (lines_within limits.bytes bytes)) values is

-- what a text reads as depends on no byte behind the first past the limit
pub reads-kept : (limits : Limits) (variables : ℕ) (bytes : List ℕ) → model_reads limits variables (take (limits.bytes + 1) bytes) ≡ model_reads limits variables bytes
unfolding model_reads
reads-kept limits variables bytes = let sees = sees-within limits.bytes bytes in rw (sees.0, sees.1) refl

-- an answer for what is kept is one for all bytes
pub answers-all : (limits : Limits) (variables : ℕ) (kept all : List ℕ) (result : Result (List Bool) ModelRefusal) → kept ≡ take (limits.bytes + 1) all
    → AnswersModel limits variables kept result → AnswersModel limits variables all result
answers-all limits variables kept all (Ok values) is h = sym (ap (model_reads limits variables) is ∙ reads-kept limits variables all) ∙ h
answers-all limits variables kept all (Err NoMemory) is h = tt
answers-all limits variables kept all (Err NoModel) is h = sym (ap (model_reads limits variables) is ∙ reads-kept limits variables all) ∙ h
answers-all limits variables kept all (Err (BadModel at kind)) is h = sym (ap (model_reads limits variables) is ∙ reads-kept limits variables all) ∙ h
answers-all limits variables kept all (Err (TooLarge which at)) is h = sym (ap (model_reads limits variables) is ∙ reads-kept limits variables all) ∙ h

pub finishes : (limits : Limits) (kept : List ℕ) (refused : Bool) (model : List Bool) (r : ModelReaderState) (bytes : List ℕ) (result : Result (List Bool) ModelRefusal)
    → (let s : ModelReaderState = record { variables = length model; fed = record { limits = limits; bytes = kept; refused = refused } } in s) ≡ r → bytes ≡ kept → AnswersModel limits (length model) bytes result → Finishes r result
finishes limits kept refused model r bytes result view is answer =
    subst (λ (s : ModelReaderState). Finishes s result) view (λ all fed. answers-all limits (length model) bytes all result (is ∙ fed) answer)
