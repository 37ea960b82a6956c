use Rattle.std.proofs.Common.{◌≡◌, ap, ◌∙◌}
use Rattle.cp_logic.specs.Assignments.{Pair}
use Rattle.cp_logic.specs.Clauses.{clause_of}
use Rattle.cp_logic.proofs.SignedLiterals.{within-clause_of}
use Rattle.cp_stack.proofs.reading.end_pair.Goals as goal

pub push-requires : goal.push-requires
push-requires c =
    let h : c.in_ok-pair.pair.clause ≡ clause_of c.args.reading.now.open.items = ap (λ (p : Pair). p.clause) c.in_ok-pair.ensures ∙ ap clause_of c.deref.ensures.value in
    rw h (within-clause_of c.args.reading.now.stack.vars c.args.reading.now.open.items c.requires.reading.within)
