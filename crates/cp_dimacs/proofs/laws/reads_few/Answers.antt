use Rattle.cp_dimacs.proofs.Few.{reads-few}
use Rattle.cp_dimacs.proofs.laws.reads_few.Goals as goal

pub returns : goal.returns
returns c = reads-few
