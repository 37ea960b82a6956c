use Rattle.std.proofs.Common.{sym, ◌∙◌}
use Rattle.cp_occ.proofs.Searches.{same-choice}
use Rattle.cp_occ.proofs.silence.Searched.is_by.Goals as goal

pub returns-then-eq-clause-choice : goal.returns-then-eq-clause-choice
returns-then-eq-clause-choice c = λ t. same-choice c.args.rules.now.choice c.args.self.now.choice (sym c.eq.ensures ∙ c.if-eq.true)
