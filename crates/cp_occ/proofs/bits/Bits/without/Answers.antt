use Rattle.cp_logic.proofs.Members.{contains-in}
use Rattle.cp_occ.proofs.SharedBits.{alone-without, shared-without}
use Rattle.cp_occ.proofs.bits.Bits.without.Goals as goal

pub returns-then-self-bit-eq0 : goal.returns-then-self-bit-eq0
returns-then-self-bit-eq0 c clause are a h =
    alone-without clause c.args.lit c.args.self.once c.args.self.twice c.bit_of-bit.result a (contains-in clause c.args.lit h) are.0 are.1 c.bit_of-bit.ensures c.if-self-bit-eq0.true

pub returns-else-self-bit-eq0 : goal.returns-else-self-bit-eq0
returns-else-self-bit-eq0 c clause are a h =
    shared-without clause c.args.lit c.args.self.once c.args.self.twice c.bit_of-bit.result a (contains-in clause c.args.lit h) are.0 are.1 c.bit_of-bit.ensures c.if-self-bit-eq0.false
