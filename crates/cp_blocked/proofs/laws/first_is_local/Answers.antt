use Rattle.cp_blocked.proofs.Least.{first-blocked_local}
use Rattle.cp_blocked.proofs.laws.first_is_local.Goals as goal

pub returns : goal.returns
returns c = first-blocked_local
