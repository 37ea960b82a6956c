use Rattle.std.proofs.Common.{rules}
use Rattle.cp_logic.specs.Signatures.{bit_of}
use Rattle.cp_logic.proofs.signatures.bit_of.Goals as goal

pub returns-clause-value : goal.returns-clause-value
unfolding bit_of
returns-clause-value c = search (rules, c.code.ensures.value, c.var.ensures.value)
