use Rattle.std.proofs.Common.{ap, ◌∙◌, sym, arith}
use Rattle.std.specs.List.{list_all}
use Rattle.std.specs.Prelude.{nat_lt}
use Rattle.std.proofs.lemmas.List.{take_all, drop_all}
use Rattle.cp_logic.specs.Literals.{variable_of}
use Rattle.cp_dimacs.specs.Written.{greatest_of}
use Rattle.cp_dimacs.proofs.ClauseFacts.{within-greatest}
use Rattle.cp_dimacs.proofs.clauses.greatest_variable.Goals as goal

pub returns-clause-within : goal.returns-clause-within
returns-clause-within c =
    let low = ap (list_all (λ l. nat_lt 0 (variable_of l))) (sym (take_all c.loop-lit.lit-index c.args.lits.now c.loop-lit-test.false)) ∙ c.loop-lit.invariant.low in
    within-greatest c.loop-lit.greatest c.args.lits.now low (omega (arith, c.loop-lit.invariant.greatest, ap greatest_of (drop_all c.loop-lit.lit-index c.args.lits.now c.loop-lit-test.false)))
