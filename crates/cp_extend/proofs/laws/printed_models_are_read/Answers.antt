use Rattle.cp_extend.proofs.PrintedReads.{model-read}
use Rattle.cp_extend.proofs.laws.printed_models_are_read.Goals as goal

pub returns : goal.returns
returns c = model-read
