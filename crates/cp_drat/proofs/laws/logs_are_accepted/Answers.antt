use Rattle.cp_drat.proofs.Accepted.{lemmas-rup, log-accepted}
use Rattle.cp_drat.proofs.laws.logs_are_accepted.Goals as goal

pub returns-clause-rup : goal.returns-clause-rup
returns-clause-rup c = lemmas-rup

pub returns-clause-accepted : goal.returns-clause-accepted
returns-clause-accepted c = log-accepted
