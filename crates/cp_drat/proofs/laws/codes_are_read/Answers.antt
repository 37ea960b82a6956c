use Rattle.cp_drat.proofs.Groups.{codes-read}
use Rattle.cp_drat.proofs.laws.codes_are_read.Goals as goal

pub returns : goal.returns
returns c = codes-read
