use Rattle.std.proofs.Common.{◌≡◌, ◌<◌, ◌≤◌, arith, cond}
use Rattle.cp_logic.specs.Literals.{variable_of, positive, negative}
use Rattle.cp_book.specs.Changes.{state_of}
use Rattle.cp_book.proofs.RuleRuns.{weakens-read, weaken-variable, variable_of-signed}
use Rattle.cp_book.proofs.changes.weaken_all.Goals as goal

pub new-requires-clause-low : goal.new-requires-clause-low
new-requires-clause-low c =
    let l = cond c.args.sign (positive c.args.var) (negative c.args.var) in
    let next = weakens-read (state_of c.loop-named.formula.formula c.loop-named.stack.pairs) c.as_slice-named-items.result.now c.loop-named.named-index l c.named-item.result c.loop-named-test.true c.named-item.is c.loop-named.invariant.run in
    let range = weaken-variable c.loop-named.formula.formula c.named-item.result l c.vars.ensures.valid next.0 in
    let low : 0 < variable_of l = range.0 in
    let same : variable_of l ≡ c.args.var = variable_of-signed c.args.sign c.args.var in
    omega arith

pub new-requires-clause-high : goal.new-requires-clause-high
new-requires-clause-high c =
    let l = cond c.args.sign (positive c.args.var) (negative c.args.var) in
    let next = weakens-read (state_of c.loop-named.formula.formula c.loop-named.stack.pairs) c.as_slice-named-items.result.now c.loop-named.named-index l c.named-item.result c.loop-named-test.true c.named-item.is c.loop-named.invariant.run in
    let range = weaken-variable c.loop-named.formula.formula c.named-item.result l c.vars.ensures.valid next.0 in
    let high : variable_of l ≤ c.loop-named.formula.formula.variables = range.1 in
    let same : variable_of l ≡ c.args.var = variable_of-signed c.args.sign c.args.var in
    omega (arith, c.vars.ensures.value, c.vars.ensures.most)
