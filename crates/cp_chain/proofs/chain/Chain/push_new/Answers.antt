use Rattle.std.proofs.Common.{◌≡◌, ◌<◌, ◌⊎◌, ◌++◌, ◌∷◌, [], length, sym, ap, subst, ◌∙◌, arith}
use Rattle.cp_chain.specs.Chains.{ChainView, find_item, HasNewHandle}
use Rattle.cp_chain.proofs.NodeFacts.{with_next-length}
use Rattle.cp_chain.proofs.Holding.{pushed-new, last-known}
use Rattle.cp_chain.proofs.chain.Chain.push_new.Goals as goal

pub set_next-self-inside-requires-clause-known : goal.set_next-self-inside-requires-clause-known
set_next-self-inside-requires-clause-known g c =
    subst (λ n. (c.self.inside.last < n) ⊎ (c.self.inside.last ≡ 4294967295)) (sym c.self.inside.nodes.ok.0) (last-known _ _ _ _ _ _ c.self.invariant.0)

pub push_reserved-requires : goal.push_reserved-requires
push_reserved-requires g c =
    let room = subst HasNewHandle (sym c.self.view_is) c.requires in
    let count = c.self.invariant.1 in
    let total = c.self.invariant.0.total in
    let old = c.self.inside.nodes.ok.0 in
    let new = c.set_next-self-inside.new.nodes.ok.0 ∙ ap length c.set_next-self-inside.ensures.nodes ∙ with_next-length _ _ _ in
    let kept = c.set_next-self-inside.ensures.capacity in
    omega arith

pub invariant_of-self : goal.invariant_of-self
invariant_of-self g c =
    let room = subst HasNewHandle (sym c.self.view_is) c.requires in
    let count = c.self.invariant.1 in
    let total = c.self.invariant.0.total in
    let old = c.self.inside.nodes.ok.0 in
    (pushed-new _ _ _ _ _ _ _ _ _ _ _ c.args.item c.self.invariant.0 c.self.invariant.1 (omega arith) (omega arith) c.set_next-self-inside.ensures.nodes c.push_reserved.ensures.items c.set_next-self-inside.ensures.first).1

pub returns-clause-entries : goal.returns-clause-entries
returns-clause-entries g c =
    let room = subst HasNewHandle (sym c.self.view_is) c.requires in
    let count = c.self.invariant.1 in
    let total = c.self.invariant.0.total in
    let old = c.self.inside.nodes.ok.0 in
    (pushed-new _ _ _ _ _ _ _ _ _ _ _ c.args.item c.self.invariant.0 c.self.invariant.1 (omega arith) (omega arith) c.set_next-self-inside.ensures.nodes c.push_reserved.ensures.items c.set_next-self-inside.ensures.first).0
    ∙ ap (λ (v : ChainView _). v.entries ++ record { handle = c.len-index.result; item = c.args.item } ∷ []) c.self.view_is
    ∙ ap (λ h. c.args.self.now.entries ++ record { handle = h; item = c.args.item } ∷ []) (sym c.new.ensures)

pub returns-clause-free : goal.returns-clause-free
returns-clause-free g c =
    let room = subst HasNewHandle (sym c.self.view_is) c.requires in
    let count = c.self.invariant.1 in
    let total = c.self.invariant.0.total in
    let old = c.self.inside.nodes.ok.0 in
    ap (find_item c.args.self.now.entries) c.new.ensures ∙ ap (λ (v : ChainView _). find_item v.entries c.len-index.result) (sym c.self.view_is)
    ∙ (pushed-new _ _ _ _ _ _ _ _ _ _ _ c.args.item c.self.invariant.0 c.self.invariant.1 (omega arith) (omega arith) c.set_next-self-inside.ensures.nodes c.push_reserved.ensures.items c.set_next-self-inside.ensures.first).2

pub returns-clause-slots : goal.returns-clause-slots
returns-clause-slots g c =
    let new = c.set_next-self-inside.new.nodes.ok.0 ∙ ap length c.set_next-self-inside.ensures.nodes ∙ with_next-length _ _ _ in
    let seen = ap (λ (v : ChainView _). v.slots) c.self.view_is in
    omega (arith, c.push_reserved.ensures.len, c.push_reserved.new.self.ok.0)
