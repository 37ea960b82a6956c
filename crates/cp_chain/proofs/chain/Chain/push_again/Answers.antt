use Rattle.std.proofs.Common.{◌≡◌, ◌<◌, ◌⊎◌, ◌++◌, ◌∷◌, [], None, length, sym, ap, subst, ◌∙◌, arith, length-set}
use Rattle.std.proofs.lemmas.Option.{slice_get_within}
use Rattle.std.specs.Prelude.{vec_len}
use Rattle.cp_chain.specs.Chains.{ChainView, find_item}
use Rattle.cp_chain.specs.Nodes.{node}
use Rattle.cp_chain.proofs.NodeFacts.{with_next-length, item-at}
use Rattle.cp_chain.proofs.Holding.{pushed-again, last-known, first-free}
use Rattle.cp_chain.proofs.chain.Chain.push_again.Goals as goal

pub fill-self-inside-requires-clause-free : goal.fill-self-inside-requires-clause-free
fill-self-inside-requires-clause-free g c =
    let gap = subst (λ (v : ChainView _). length v.entries < v.slots) (sym c.self.view_is) c.requires in
    let f = first-free _ _ _ _ _ _ c.self.invariant.0 gap in
    item-at c.self.inside.nodes.items c.self.inside.free (node None f.prev f.next) f.here

pub fill-self-inside-requires-clause-known : goal.fill-self-inside-requires-clause-known
fill-self-inside-requires-clause-known g c =
    let gap = subst (λ (v : ChainView _). length v.entries < v.slots) (sym c.self.view_is) c.requires in
    let low = slice_get_within _ _ _ (first-free _ _ _ _ _ _ c.self.invariant.0 gap).here in
    subst (λ n. c.self.inside.free < n) (sym c.self.inside.nodes.ok.0) low

pub set_next-self-inside-requires-clause-known : goal.set_next-self-inside-requires-clause-known
set_next-self-inside-requires-clause-known g c =
    let len : length c.self.inside.nodes.items ≡ vec_len c.fill-self-inside.new.nodes =
    sym (c.fill-self-inside.new.nodes.ok.0 ∙ ap length c.fill-self-inside.ensures.nodes ∙ length-set _ _ _) in
    subst (λ n. (c.self.inside.last < n) ⊎ (c.self.inside.last ≡ 4294967295)) len (last-known _ _ _ _ _ _ c.self.invariant.0)

pub invariant_of-self : goal.invariant_of-self
invariant_of-self g c =
    let gap = subst (λ (v : ChainView _). length v.entries < v.slots) (sym c.self.view_is) c.requires in
    let count = c.self.invariant.1 in
    (pushed-again _ _ _ _ _ _ _ _ _ _ _ _ c.args.item c.self.invariant.0 c.self.invariant.1 (omega arith) c.fill-self-inside.ensures.was.1 c.fill-self-inside.ensures.nodes c.set_next-self-inside.ensures.nodes
    c.set_next-self-inside.ensures.first).1

pub returns-clause-entries : goal.returns-clause-entries
returns-clause-entries g c =
    let gap = subst (λ (v : ChainView _). length v.entries < v.slots) (sym c.self.view_is) c.requires in
    let count = c.self.invariant.1 in
    (pushed-again _ _ _ _ _ _ _ _ _ _ _ _ c.args.item c.self.invariant.0 c.self.invariant.1 (omega arith) c.fill-self-inside.ensures.was.1 c.fill-self-inside.ensures.nodes c.set_next-self-inside.ensures.nodes
    c.set_next-self-inside.ensures.first).0
    ∙ ap (λ (v : ChainView _). v.entries ++ record { handle = c.self.inside.free; item = c.args.item } ∷ []) c.self.view_is
    ∙ ap (λ h. c.args.self.now.entries ++ record { handle = h; item = c.args.item } ∷ []) (sym c.new.ensures)

pub returns-clause-free : goal.returns-clause-free
returns-clause-free g c =
    let gap = subst (λ (v : ChainView _). length v.entries < v.slots) (sym c.self.view_is) c.requires in
    let f = first-free _ _ _ _ _ _ c.self.invariant.0 gap in
    ap (find_item c.args.self.now.entries) c.new.ensures ∙ ap (λ (v : ChainView _). find_item v.entries c.self.inside.free) (sym c.self.view_is)
    ∙ sym (c.self.invariant.0.found c.self.inside.free) ∙ item-at c.self.inside.nodes.items c.self.inside.free (node None f.prev f.next) f.here

pub returns-clause-handle : goal.returns-clause-handle
returns-clause-handle g c =
    let gap = subst (λ (v : ChainView _). length v.entries < v.slots) (sym c.self.view_is) c.requires in
    let low = slice_get_within _ _ _ (first-free _ _ _ _ _ _ c.self.invariant.0 gap).here in
    subst (λ h. h < c.args.self.now.slots) (sym c.new.ensures) (subst (λ (v : ChainView _). c.self.inside.free < v.slots) c.self.view_is low)

pub returns-clause-slots : goal.returns-clause-slots
returns-clause-slots g c =
    ap length c.set_next-self-inside.ensures.nodes ∙ with_next-length _ _ _ ∙ ap length c.fill-self-inside.ensures.nodes ∙ length-set _ _ _ ∙ ap (λ (v : ChainView _). v.slots) c.self.view_is
