use Rattle.cp_find.proofs.Least.{firsts-least}
use Rattle.cp_find.proofs.laws.firsts_are_least.Goals as goal

pub returns : goal.returns
returns c = firsts-least
