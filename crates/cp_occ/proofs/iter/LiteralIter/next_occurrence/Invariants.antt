use Rattle.std.proofs.Common.{◌≡◌, length}
use Rattle.cp_logic.specs.Legality.{clauses_with}
use Rattle.cp_occ.proofs.iter.LiteralIter.next_occurrence.Given as goal

-- only clauses without the literal were passed over
abbrev pub invariant-loop-first : goal.invariant-loop-first
invariant-loop-first l = clauses_with l.self-inside.left.now l.self-inside.lit ≡ l.fn.self

abbrev pub decreases-loop-first : goal.decreases-loop-first
decreases-loop-first l = length l.self-inside.left.now
