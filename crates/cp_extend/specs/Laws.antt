-- The laws of what a text reads as.
use Rattle.std.specs.Prelude.{◌≡◌, ℕ, ◌+◌, ◌^◌, ◌<◌, ◌≤◌, Bool, List, length, take, Ok}
use Rattle.cp_io.specs.declared.limits.Limits.{Limits}
use Rattle.cp_extend.specs.ModelText.{model_text}
use Rattle.cp_extend.specs.Grammar.{model_reads}

-- What a text reads as depends on no byte behind the first past the limit.
abbrev pub ReadsWithin : Type 0
ReadsWithin = (limits : Limits) (variables : ℕ) (bytes : List ℕ) → model_reads limits variables (take (limits.bytes + 1) bytes) ≡ model_reads limits variables bytes

-- Within the limits the text of a model is read, with as many variables as it has, as the model.
abbrev pub ReadsPrinted : Type 0
ReadsPrinted = (limits : Limits) (values : List Bool) → limits.variables < 2 ^ 32 → length values ≤ limits.variables → length (model_text values) ≤ limits.bytes
    → model_reads limits (length values) (model_text values) ≡ Ok values
