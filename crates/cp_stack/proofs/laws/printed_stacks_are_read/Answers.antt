use Rattle.cp_stack.proofs.PrintedReads.{stack-read}
use Rattle.cp_stack.proofs.laws.printed_stacks_are_read.Goals as goal

pub returns : goal.returns
returns c = stack-read
