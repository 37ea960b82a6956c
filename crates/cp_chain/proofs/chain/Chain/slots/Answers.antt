use Rattle.std.proofs.Common.{sym, ap, ◌∙◌, arith}
use Rattle.cp_chain.specs.Chains.{ChainView, find_item}
use Rattle.cp_chain.proofs.Holding.{read-past}
use Rattle.cp_chain.proofs.chain.Chain.slots.Goals as goal

pub returns-clause-past : goal.returns-clause-past
returns-clause-past g c = λ k l.
    let len = c.self.inside.nodes.ok.0 in
    ap (λ (v : ChainView _). find_item v.entries k) (sym c.self.view_is) ∙ read-past _ _ _ _ _ _ k c.self.invariant.0 (omega arith)
