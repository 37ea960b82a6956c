use Rattle.std.proofs.Common.{◌≡◌, ◌<◌, ◌⊎◌, length, sym, ap, subst, ◌∙◌, arith, length-set}
use Rattle.std.specs.Prelude.{vec_len}
use Rattle.cp_chain.specs.Chains.{ChainView, find_item, without}
use Rattle.cp_chain.proofs.NodeFacts.{item-at, with_next-length}
use Rattle.cp_chain.proofs.Removal.{prev-known, removed}
use Rattle.cp_chain.proofs.chain.Chain.remove.Goals as goal

pub set_next-self-inside-requires-clause-known : goal.set_next-self-inside-requires-clause-known
set_next-self-inside-requires-clause-known g c =
    let known = prev-known _ _ _ _ _ _ _ _ _ _ c.self.invariant.0 c.take_out-item.ensures.was in
    let len : length c.self.inside.nodes.items ≡ vec_len c.take_out-item.new.nodes =
    sym (c.take_out-item.new.nodes.ok.0 ∙ ap length c.take_out-item.ensures.nodes ∙ length-set _ _ _) in
    subst (λ n. (c.take_out-item.result.1 < n) ⊎ (c.take_out-item.result.1 ≡ 4294967295)) len known.0

pub set_prev-self-inside-requires-clause-few : goal.set_prev-self-inside-requires-clause-few
set_prev-self-inside-requires-clause-few g c =
    let few = c.self.invariant.0.few in
    let len : vec_len c.set_next-self-inside.new.nodes ≡ length c.self.inside.nodes.items =
    c.set_next-self-inside.new.nodes.ok.0 ∙ ap length c.set_next-self-inside.ensures.nodes ∙ with_next-length _ _ _ ∙ ap length c.take_out-item.ensures.nodes ∙ length-set _ _ _ in
    omega arith

pub set_prev-self-inside-requires-clause-known : goal.set_prev-self-inside-requires-clause-known
set_prev-self-inside-requires-clause-known g c =
    let known = prev-known _ _ _ _ _ _ _ _ _ _ c.self.invariant.0 c.take_out-item.ensures.was in
    let len : length c.self.inside.nodes.items ≡ vec_len c.set_next-self-inside.new.nodes =
    sym (c.set_next-self-inside.new.nodes.ok.0 ∙ ap length c.set_next-self-inside.ensures.nodes ∙ with_next-length _ _ _ ∙ ap length c.take_out-item.ensures.nodes ∙ length-set _ _ _) in
    subst (λ n. (c.take_out-item.result.2 < n) ⊎ (c.take_out-item.result.2 ≡ 4294967295)) len known.1

pub invariant_of-self : goal.invariant_of-self
invariant_of-self g c =
    (removed _ _ _ _ _ _ _ _ _ _ _ _ _ _ _ _ c.self.invariant.0 c.self.invariant.1 c.take_out-item.ensures.was c.take_out-item.ensures.nodes c.set_next-self-inside.ensures.nodes c.set_prev-self-inside.ensures.nodes
    c.set_next-self-inside.ensures.first c.set_prev-self-inside.ensures.last).1

pub returns-clause-value : goal.returns-clause-value
returns-clause-value g c =
    ap (find_item c.args.self.now.entries) (sym c.index-index.ensures) ∙ ap (λ (v : ChainView _). find_item v.entries c.index-index.result) (sym c.self.view_is)
    ∙ sym (c.self.invariant.0.found c.index-index.result) ∙ item-at _ c.index-index.result _ c.take_out-item.ensures.was

pub returns-clause-entries : goal.returns-clause-entries
returns-clause-entries g c =
    (removed _ _ _ _ _ _ _ _ _ _ _ _ _ _ _ _ c.self.invariant.0 c.self.invariant.1 c.take_out-item.ensures.was c.take_out-item.ensures.nodes c.set_next-self-inside.ensures.nodes c.set_prev-self-inside.ensures.nodes
    c.set_next-self-inside.ensures.first c.set_prev-self-inside.ensures.last).0
    ∙ ap (λ (v : ChainView _). without v.entries c.index-index.result) c.self.view_is ∙ ap (without c.args.self.now.entries) c.index-index.ensures

pub returns-clause-slots : goal.returns-clause-slots
returns-clause-slots g c =
    (removed _ _ _ _ _ _ _ _ _ _ _ _ _ _ _ _ c.self.invariant.0 c.self.invariant.1 c.take_out-item.ensures.was c.take_out-item.ensures.nodes c.set_next-self-inside.ensures.nodes c.set_prev-self-inside.ensures.nodes
    c.set_next-self-inside.ensures.first c.set_prev-self-inside.ensures.last).2
    ∙ ap (λ (v : ChainView _). v.slots) c.self.view_is
