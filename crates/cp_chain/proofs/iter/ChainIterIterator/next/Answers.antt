use Rattle.std.proofs.Common.{◌<◌, length, ap, sym, ◌∙◌, arith}
use Rattle.cp_chain.proofs.Paths.{step-list, step-ahead}
use Rattle.cp_chain.proofs.iter.ChainIterIterator.next.Goals as goal

pub invariant_of-self : goal.invariant_of-self
invariant_of-self g c =
    let k = c.in_ok-node.ensures.lookup in
    let some : 0 < c.self.inside.left = omega arith in
    step-ahead _ c.self.inside.at c.self.inside.left c.self.invariant c.in_ok-node.node.now some k.3.0 k.1

pub returns-clause-steps : goal.returns-clause-steps
returns-clause-steps g c =
    let k = c.in_ok-node.ensures.lookup in
    let some : 0 < c.self.inside.left = omega arith in
    sym c.self.view_is ∙ step-list _ c.self.inside.at c.self.inside.left c.self.invariant c.in_ok-node.node.now c.in_ok-item.item.now c.new.result some k.3.0 k.1 (sym c.in_ok-item.ensures.value) c.new.ensures

pub returns-clause-goes : goal.returns-clause-goes
returns-clause-goes g c =
    let k = c.in_ok-node.ensures.lookup in
    let some : 0 < c.self.inside.left = omega arith in
    let list = sym c.self.view_is ∙ step-list _ c.self.inside.at c.self.inside.left c.self.invariant c.in_ok-node.node.now c.in_ok-item.item.now c.new.result some k.3.0 k.1 (sym c.in_ok-item.ensures.value) c.new.ensures in
    let len = ap length list in
    record { on = λ f. (tt, tt, omega arith); keeps = tt; rests = λ f. tt }
