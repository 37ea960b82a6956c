use Rattle.std.proofs.Common.{◌+◌, true, length}
use Rattle.cp_extend.specs.Grammar.{is_value}
use Rattle.cp_extend.specs.Held.{reading_of}
use Rattle.cp_extend.proofs.Values.{IsFilled}
use Rattle.cp_extend.proofs.progress.Progress.fill.Given as goal

abbrev pub invariant-variables : goal.invariant-variables
invariant-variables l = IsFilled (λ k. is_value true ((reading_of l.self).given (k + 1))) l.model (length l.initial.model) l.index
