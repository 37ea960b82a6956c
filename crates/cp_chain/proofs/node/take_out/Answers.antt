use Rattle.std.proofs.Common.{◌≡◌, None, Some, sym, ◌∙◌, arith}
use Rattle.cp_chain.proofs.NodeFacts.{item-at, item-some, some-within, read-node}
use Rattle.cp_chain.specs.Nodes.{item_in}
use Rattle.cp_chain.proofs.node.take_out.Goals as goal

pub index_mut-requires : goal.index_mut-requires
index_mut-requires g c = let len = c.args.nodes.now.ok.0 in let low = some-within c.args.nodes.now.items c.args.at c.requires in omega arith

pub unreachable-requires : goal.unreachable-requires
unreachable-requires g c =
    let read = read-node c.args.nodes.now.items c.args.at _ _ None (some-within c.args.nodes.now.items c.args.at c.requires) c.index_mut.ensures.value c.replace-was.ensures.value c.in-None.is in
    let none : item_in c.args.nodes.now.items c.args.at ≡ None = item-at c.args.nodes.now.items c.args.at _ read in
    let some = item-some (item_in c.args.nodes.now.items c.args.at) c.requires in
    let clash : None ≡ Some some.0 = sym none ∙ some.1 in
    absurd (cc)

pub returns-clause-was : goal.returns-clause-was
returns-clause-was g c =
    read-node c.args.nodes.now.items c.args.at _ _ _ (some-within c.args.nodes.now.items c.args.at c.requires) c.index_mut.ensures.value c.replace-was.ensures.value c.in-Some.is
