use Rattle.cp_top.proofs.Completeness.{generates}
use Rattle.cp_top.proofs.laws.complete_generations.Goals as goal

pub returns : goal.returns
returns c = generates
