use Rattle.std.proofs.Common.{◌≡◌, None, Some, sym, ◌∙◌, arith}
use Rattle.cp_chain.proofs.NodeFacts.{item-at, read-node}
use Rattle.cp_chain.specs.Nodes.{item_in}
use Rattle.cp_chain.proofs.node.fill.Goals as goal

pub unreachable-requires : goal.unreachable-requires
unreachable-requires g c =
    let len = c.args.nodes.now.ok.0 in
    let read = read-node c.args.nodes.now.items c.args.at _ _ (Some c.in-Some.field-0) (omega arith) c.index_mut.ensures.value c.replace-was.ensures.value c.in-Some.is in
    let some : item_in c.args.nodes.now.items c.args.at ≡ Some c.in-Some.field-0 = item-at c.args.nodes.now.items c.args.at _ read in
    let clash : None ≡ Some c.in-Some.field-0 = sym c.requires.free ∙ some in
    absurd (cc)

pub returns-clause-was : goal.returns-clause-was
returns-clause-was g c =
    let len = c.args.nodes.now.ok.0 in
    (c.replace-was.result.prev, read-node c.args.nodes.now.items c.args.at _ _ _ (omega arith) c.index_mut.ensures.value c.replace-was.ensures.value c.in-None.is)
