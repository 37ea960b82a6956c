use Rattle.cp_drat.proofs.Refuted.{rup_log-refutes}
use Rattle.cp_drat.proofs.laws.logs_refute.Goals as goal

pub returns : goal.returns
returns c = rup_log-refutes
