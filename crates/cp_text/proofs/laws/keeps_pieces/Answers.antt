use Rattle.std.proofs.Common.{◌+◌}
use Rattle.cp_text.proofs.Cuts.{take_pieces}
use Rattle.cp_text.proofs.laws.keeps_pieces.Goals as goal

pub returns : goal.returns
returns c = λ limit first second. take_pieces (limit + 1) first second
