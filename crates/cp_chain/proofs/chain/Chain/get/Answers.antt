use Rattle.std.proofs.Common.{◌≡◌, None, Some, sym, subst, ◌∙◌, ap, arith}
use Rattle.cp_chain.specs.Chains.{ChainView, HasHandle, find_item}
use Rattle.cp_chain.proofs.Holding.{held-within, read-found}
use Rattle.cp_chain.proofs.lemmas.Entries.{named}
use Rattle.cp_chain.proofs.chain.Chain.get.Goals as goal

pub index-requires-2 : goal.index-requires-2
index-requires-2 g c =
    let has = subst (λ (v : ChainView _). HasHandle v.entries c.args.handle) (sym c.self.view_is) c.requires in
    let low = held-within _ _ _ _ _ _ c.args.handle c.self.invariant.0 has in
    let len = c.self.inside.nodes.ok.0 in
    let index = c.index.ensures in
    omega arith

pub unreachable-requires : goal.unreachable-requires
unreachable-requires g c =
    let has = subst (λ (v : ChainView _). HasHandle v.entries c.index.result) (sym c.self.view_is) (subst (HasHandle c.args.self.now.entries) (sym c.index.ensures) c.requires) in
    let found = read-found _ _ _ _ _ _ c.index.result _ c.self.invariant.0 has c.index-2.ensures ∙ c.in-None.is in
    let some = named _ c.index.result has in
    let clash : None ≡ Some some.0 = sym found ∙ some.1 in
    absurd (cc)

pub returns : goal.returns
returns g c =
    let has = subst (λ (v : ChainView _). HasHandle v.entries c.index.result) (sym c.self.view_is) (subst (HasHandle c.args.self.now.entries) (sym c.index.ensures) c.requires) in
    let found = read-found _ _ _ _ _ _ c.index.result _ c.self.invariant.0 has c.index-2.ensures ∙ c.in-Some.is in
    ap (find_item c.args.self.now.entries) (sym c.index.ensures) ∙ ap (λ (v : ChainView _). find_item v.entries c.index.result) (sym c.self.view_is) ∙ found
