use Rattle.std.proofs.Common.{refl}
use Rattle.cp_logic.specs.Marks.{is_set}
use Rattle.cp_logic.proofs.negations.is_set.Goals as goal

pub returns : goal.returns
unfolding is_set
returns c = refl
