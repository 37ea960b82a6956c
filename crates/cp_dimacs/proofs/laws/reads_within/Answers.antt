use Rattle.cp_dimacs.proofs.Few.{reads-within}
use Rattle.cp_dimacs.proofs.laws.reads_within.Goals as goal

pub returns : goal.returns
returns c = reads-within
