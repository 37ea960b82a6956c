use Rattle.std.proofs.Common.{sym, subst}
use Rattle.std.specs.List.{All}
use Rattle.cp_logic.specs.Literals.{IsLiteral}
use Rattle.cp_logic.specs.Clauses.{IsClause}
use Rattle.cp_logic.proofs.Merges.{IsClause-resolvent}
use Rattle.cp_logic.proofs.clauses.Clause.resolve.Goals as goal

pub shared-requires : goal.shared-requires
shared-requires c =
    subst IsClause (sym c.in_ok-lits.ensures)
    (IsClause-resolvent c.new-pivot.result c.lits.result.now c.lits-2.result.now (subst (All IsLiteral) (sym c.lits.ensures.value) c.lits.ensures.literals)
    (subst (All IsLiteral) (sym c.lits-2.ensures.value) c.lits-2.ensures.literals))
