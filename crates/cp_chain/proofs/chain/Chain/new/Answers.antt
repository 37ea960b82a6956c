use Rattle.std.proofs.Common.{refl}
use Rattle.cp_chain.proofs.Holding.{holds-none}
use Rattle.cp_chain.proofs.chain.Chain.new.Goals as goal

pub invariant_of-result : goal.invariant_of-result
invariant_of-result g c = (holds-none _ c.new.ensures.items, refl)
