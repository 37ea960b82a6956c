use Rattle.std.proofs.Common.{subst}
use Rattle.cp_chain.specs.Chains.{IsChain}
use Rattle.cp_chain.proofs.Holding.{valid}
use Rattle.cp_chain.proofs.chain.Chain.len.Goals as goal

pub returns-clause-valid : goal.returns-clause-valid
returns-clause-valid g c = subst IsChain c.self.view_is (valid _ _ _ _ _ _ _ c.self.invariant.0)
