use Rattle.std.proofs.Common.{sym, subst}
use Rattle.cp_logic.specs.Formulas.{occurrences}
use Rattle.cp_find.specs.Past.{IsPast}
use Rattle.cp_sweep.proofs.turns.move_to.Goals as goal

pub returns-then-var-mark : goal.returns-then-var-mark
returns-then-var-mark c = λ cs p. subst (λ x. IsPast x (occurrences cs x) c.args.reached.now) (sym c.if-var-mark.true) p

pub returns : goal.returns
returns c = λ cs p. c.restart.ensures c.args.var (occurrences cs c.args.var)
