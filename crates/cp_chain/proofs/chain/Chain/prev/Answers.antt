use Rattle.std.proofs.Common.{sym, subst, ◌∙◌, ap, arith}
use Rattle.cp_chain.specs.Chains.{ChainView, HasHandle, prev_handle}
use Rattle.cp_chain.proofs.Holding.{held-within, read-prev}
use Rattle.cp_chain.proofs.chain.Chain.prev.Goals as goal

pub index-requires-2 : goal.index-requires-2
index-requires-2 g c =
    let has = subst (λ (v : ChainView _). HasHandle v.entries c.args.handle) (sym c.self.view_is) c.requires in
    let low = held-within _ _ _ _ _ _ c.args.handle c.self.invariant.0 has in
    let len = c.self.inside.nodes.ok.0 in
    let index = c.index.ensures in
    omega arith

pub returns : goal.returns
returns g c =
    let has = subst (λ (v : ChainView _). HasHandle v.entries c.index.result) (sym c.self.view_is) (subst (HasHandle c.args.self.now.entries) (sym c.index.ensures) c.requires) in
    c.at_link.ensures ∙ read-prev _ _ _ _ _ _ c.index.result _ c.self.invariant.0 has c.index-2.ensures
    ∙ ap (λ (v : ChainView _). prev_handle v.entries c.index.result) c.self.view_is ∙ ap (prev_handle c.args.self.now.entries) c.index.ensures
