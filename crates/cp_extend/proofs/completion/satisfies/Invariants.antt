use Rattle.std.proofs.Common.{◌≡◌, false, take}
use Rattle.cp_logic.specs.Assignments.{satisfies}
use Rattle.cp_extend.proofs.completion.satisfies.Given as goal

-- no literal so far is true
abbrev pub invariant-loop-lit : goal.invariant-loop-lit
invariant-loop-lit l = satisfies l.model (take l.lit-index l.lit-items) ≡ false
