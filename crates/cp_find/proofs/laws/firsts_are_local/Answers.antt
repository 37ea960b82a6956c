use Rattle.cp_find.proofs.Least.{firsts-local}
use Rattle.cp_find.proofs.laws.firsts_are_local.Goals as goal

pub returns : goal.returns
returns c = firsts-local
