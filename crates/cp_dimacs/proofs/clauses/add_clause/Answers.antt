use Rattle.std.proofs.Common.{ap}
use Rattle.cp_logic.specs.Formulas.{Formula}
use Rattle.cp_logic.proofs.SignedLiterals.{within-clause_of}
use Rattle.cp_dimacs.proofs.clauses.add_clause.Goals as goal

pub push-requires-clause-within : goal.push-requires-clause-within
push-requires-clause-within c =
    let raised = ap (λ (f : Formula). f.variables) c.raise.ensures.formula in
    rw (c.in_ok-clause.ensures, raised) (within-clause_of c.greatest_variable-greatest.result c.args.lits.now c.greatest_variable-greatest.ensures.within)
