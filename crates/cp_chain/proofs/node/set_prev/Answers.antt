use Rattle.std.proofs.Common.{sym, arith}
use Rattle.cp_chain.proofs.NodeFacts.{with_prev-past, with_prev-set}
use Rattle.cp_chain.proofs.node.set_prev.Goals as goal

pub returns-then-at-eq-END-clause-nodes : goal.returns-then-at-eq-END-clause-nodes
returns-then-at-eq-END-clause-nodes g c = let len = c.args.nodes.now.ok.0 in sym (with_prev-past _ _ _ (omega arith))

pub returns-clause-nodes : goal.returns-clause-nodes
returns-clause-nodes g c = with_prev-set _ _ _ _ c.index_mut.ensures.value
