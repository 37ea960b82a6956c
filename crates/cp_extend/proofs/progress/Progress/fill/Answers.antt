use Rattle.std.proofs.Common.{ℕ, Bool, ◌+◌, true, false, length, ap, ◌∙◌, arith}
use Rattle.std.proofs.lemmas.List.FromFn.{fill_by_all}
use Rattle.cp_extend.specs.Grammar.{is_value}
use Rattle.cp_extend.specs.Held.{reading_of}
use Rattle.cp_extend.proofs.Values.{literal_for, with_true-place, IsFilled-more}
use Rattle.cp_extend.proofs.progress.Progress.fill.Goals as goal

pub variables-preserved : goal.variables-preserved
variables-preserved c =
    let f : ℕ → Bool = λ k. is_value true ((reading_of c.args.self.now).given (k + 1)) in
    let i = c.variables.index in
    IsFilled-more f c.variables.model c.set.new.self (length c.args.model.now) i (omega arith) c.variables.invariant
    (c.set.ensures.value ∙ with_true-place c.variables.model i c.new.result (f i) (c.new.ensures ∙ ap (literal_for (i + 1)) c.is_true.ensures))

pub returns : goal.returns
returns c =
    let f : ℕ → Bool = λ k. is_value true ((reading_of c.args.self.now).given (k + 1)) in
    fill_by_all f c.variables.model (length c.args.model.now) false c.variables.invariant.all (λ k low. c.variables.invariant.read k (omega arith))
