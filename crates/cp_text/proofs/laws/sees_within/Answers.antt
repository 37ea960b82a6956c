use Rattle.cp_text.proofs.Cuts.{sees-within}
use Rattle.cp_text.proofs.laws.sees_within.Goals as goal

pub returns : goal.returns
returns c = sees-within
