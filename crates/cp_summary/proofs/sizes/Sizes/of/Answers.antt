use Rattle.std.proofs.Common.{◌≡◌, ◌+◌, List, length, ap, arith}
use Rattle.cp_logic.specs.declared.named.Named.{Named}
use Rattle.cp_summary.specs.Text.{literals_in}
use Rattle.cp_summary.proofs.SizeFacts.{same_sizes}
use Rattle.cp_summary.proofs.sizes.Sizes.of.Goals as goal

pub overflow_add-literals : goal.overflow_add-literals
overflow_add-literals c =
    let count = ap (λ (cs : List Named). length cs) c.in-Some.ensures.steps in
    let few = c.loop-number.invariant.few in
    omega arith

pub loop-number-preserved : goal.loop-number-preserved
loop-number-preserved c =
    let count = ap (λ (cs : List Named). length cs) c.in-Some.ensures.steps in
    let sum : literals_in c.loop-number._number-iterator ≡ length c.in-Some.clause.now + literals_in c.next.new.self = ap literals_in c.in-Some.ensures.steps in
    record { few = omega arith; whole = omega arith }

pub returns-clause-value : goal.returns-clause-value
returns-clause-value c =
    let none : literals_in c.loop-number._number-iterator ≡ 0 = ap literals_in c.in-None.ensures.steps.0 in
    same_sizes c.args.formula.now.formula c.vars.result c.len-clauses.result c.loop-number.literals c.vars.ensures.value c.len-clauses.ensures (omega arith)
