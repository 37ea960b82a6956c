use Rattle.cp_find.proofs.Past.{past-start}
use Rattle.cp_find.proofs.reached.Reached.start.Goals as goal

pub returns : goal.returns
returns c = λ x cs. past-start x cs c.none.result (c.none.ensures x cs)
