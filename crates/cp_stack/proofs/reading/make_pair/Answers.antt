use Rattle.std.proofs.Common.{ap, ◌∙◌}
use Rattle.cp_logic.specs.Assignments.{Pair}
use Rattle.cp_stack.proofs.PairFacts.{first_in, first_same}
use Rattle.cp_stack.proofs.reading.make_pair.Goals as goal

pub new-requires : goal.new-requires
new-requires c = rw c.in_ok-clause.ensures (first_in c.args.lits.now c.index-lits-0.result c.requires c.index-lits-0.is)

pub returns : goal.returns
returns c =
    ap (λ l. let p : Pair = record { literal = l; clause = c.new.result.clause } in p) (c.new.ensures.literal ∙ first_same c.args.lits.now c.index-lits-0.result c.requires c.index-lits-0.is)
    ∙ ap (λ ls. let p : Pair = record { literal = Rattle.std.proofs.Common.get_or c.args.lits.now 0 0; clause = ls } in p) (c.new.ensures.clause ∙ c.in_ok-clause.ensures)
