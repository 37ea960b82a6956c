use Rattle.std.proofs.Common.{arith}
use Rattle.cp_sweep.proofs.Bits.{no-bit, some-bit}
use Rattle.cp_sweep.proofs.marks.first_bit.Goals as goal

pub returns-then-rest-eq0-clause-first : goal.returns-then-rest-eq0-clause-first
returns-then-rest-eq0-clause-first c = λ k l h. no-bit c.args.word c.args.low k c.if-rest-eq0.true l

pub returns-else-rest-eq0-clause-first : goal.returns-else-rest-eq0-clause-first
returns-else-rest-eq0-clause-first c = some-bit c.args.word c.args.low (omega (arith, c.ranges.word)) (omega (arith, c.if-rest-eq0.false))
