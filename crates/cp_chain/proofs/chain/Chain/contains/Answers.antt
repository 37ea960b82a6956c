use Rattle.std.proofs.Common.{◌≡◌, ◌<◌, ◌≤◌, List, length, get_or, inl, inr, sym, ap, subst, ◌∙◌}
use Rattle.std.proofs.lemmas.Bool.{cases_lt, false≢true}
use Rattle.std.specs.Prelude.{IsTrue, is_some}
use Rattle.cp_chain.specs.declared.node.Node.{Node}
use Rattle.cp_chain.specs.Chains.{ChainView, find_item}
use Rattle.cp_chain.proofs.Holding.{read-any, read-past}
use Rattle.cp_chain.proofs.chain.Chain.contains.Goals as goal

pub returns-in-Some : goal.returns-in-Some
returns-in-Some g c =
    let k = c.in-Some.ensures.lookup in
    let value = c.deref.ensures.value in
    let low = subst (λ (ns : List (Node _)). c.index.result < length ns) value k.3.0 in
    let read = subst (λ (ns : List (Node _)). c.in-Some.node.now ≡ get_or ns c.index.result c.in-Some.node.now) value k.1 in
    let found = read-any _ _ _ _ _ _ c.index.result _ c.self.invariant.0 low read in
    let e : c.is_some.result ≡ is_some (find_item c.args.self.now.entries c.args.handle) =
    c.is_some.ensures ∙ ap is_some (sym found) ∙ ap (λ (v : ChainView _). is_some (find_item v.entries c.index.result)) c.self.view_is ∙ ap (λ h. is_some (find_item c.args.self.now.entries h)) c.index.ensures in
    (λ t. subst IsTrue e t, λ t. subst IsTrue (sym e) t)

pub returns-in-None : goal.returns-in-None
returns-in-None g c =
    let k = c.in-None.ensures.lookup in
    let value = c.deref.ensures.value in
    let high : length c.deref.result.now ≤ c.index.result =
    elim (cases_lt c.index.result (length c.deref.result.now)) [ inl l ↦ absurd (false≢true (k.2 l)) | inr m ↦ m ] in
    let past = subst (λ (ns : List (Node _)). length ns ≤ c.index.result) value high in
    let none = read-past _ _ _ _ _ _ c.index.result c.self.invariant.0 past in
    let e = sym (ap is_some none) ∙ ap (λ (v : ChainView _). is_some (find_item v.entries c.index.result)) c.self.view_is ∙ ap (λ h. is_some (find_item c.args.self.now.entries h)) c.index.ensures in
    (λ t. subst IsTrue e t, λ t. subst IsTrue (sym e) t)
