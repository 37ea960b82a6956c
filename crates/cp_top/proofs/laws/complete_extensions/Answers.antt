use Rattle.cp_top.proofs.Completeness.{extended}
use Rattle.cp_top.proofs.laws.complete_extensions.Goals as goal

pub returns : goal.returns
returns c = extended
