use Rattle.std.proofs.Common.{◌*◌, ◌%◌, ◌/◌, ap}
use Rattle.cp_logic.specs.Marks.{place_of}
use Rattle.cp_logic.proofs.negations.place_of.Goals as goal

pub returns-clause-value : goal.returns-clause-value
unfolding place_of
returns-clause-value c = ap (λ code. code * 2654435769 % 4294967296 / 4194304) c.code.ensures.value
