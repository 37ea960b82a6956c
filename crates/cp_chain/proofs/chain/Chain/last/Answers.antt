use Rattle.std.proofs.Common.{ap, ◌∙◌}
use Rattle.cp_chain.specs.Chains.{ChainView, last_handle}
use Rattle.cp_chain.proofs.Paths.{last-is}
use Rattle.cp_chain.proofs.chain.Chain.last.Goals as goal

pub returns : goal.returns
returns g c = let h = c.self.invariant.0 in c.at_link.ensures ∙ last-is _ _ _ _ h.few h.path ∙ ap (λ (v : ChainView _). last_handle v.entries) c.self.view_is
