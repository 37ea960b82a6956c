use Rattle.cp_blocked.proofs.Least.{first-blocked_least}
use Rattle.cp_blocked.proofs.laws.first_is_least.Goals as goal

pub returns : goal.returns
returns c = first-blocked_least
