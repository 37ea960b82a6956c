use Rattle.cp_extend.proofs.Lengths.{reads-kept}
use Rattle.cp_extend.proofs.laws.reads_within.Goals as goal

pub returns : goal.returns
returns c = reads-kept
