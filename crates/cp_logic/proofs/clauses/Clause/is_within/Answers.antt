use Rattle.std.proofs.Common.{◌∙◌, ap, length, ◌-◌}
use Rattle.std.specs.Prelude.{slice_get}
use Rattle.cp_logic.proofs.Lasts.{within-none, within-last}
use Rattle.cp_logic.proofs.clauses.Clause.is_within.Goals as goal

pub returns-in-None : goal.returns-in-None
returns-in-None c = within-none c.args.vars c.args.self.now (c.in-None.ensures.value ∙ ap (λ xs. slice_get xs (length xs - 1)) c.lits.ensures.value)

pub returns-in-Some : goal.returns-in-Some
returns-in-Some c =
    within-last c.args.vars c.args.self.now c.in-Some.last.now c.var.result (c.in-Some.ensures.value ∙ ap (λ xs. slice_get xs (length xs - 1)) c.lits.ensures.value)
    c.lits.ensures.ascending c.lits.ensures.literals c.var.ensures.value
