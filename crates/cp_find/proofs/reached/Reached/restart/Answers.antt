use Rattle.cp_find.proofs.Past.{past-start}
use Rattle.cp_find.proofs.reached.Reached.restart.Goals as goal

pub returns : goal.returns
returns c = λ x cs. past-start x cs c.forget.new.self (c.forget.ensures x cs)
