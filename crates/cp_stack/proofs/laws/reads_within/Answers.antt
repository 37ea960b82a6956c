use Rattle.cp_stack.proofs.TextRead.{reads-kept}
use Rattle.cp_stack.proofs.laws.reads_within.Goals as goal

pub returns : goal.returns
returns c = reads-kept
