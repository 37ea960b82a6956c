use Rattle.cp_eliminate.proofs.Exact.{elimination-local}
use Rattle.cp_eliminate.proofs.laws.elimination_is_local.Goals as goal

pub returns : goal.returns
returns c = elimination-local
