use Rattle.cp_drat.proofs.Ends.{log-end}
use Rattle.cp_drat.proofs.laws.logs_end.Goals as goal

pub returns : goal.returns
returns c = log-end
