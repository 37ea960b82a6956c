use Rattle.std.proofs.Common.{◌≡◌, length, map}
use Rattle.std.specs.List.{All}
use Rattle.cp_logic.specs.Assignments.{completed}
use Rattle.cp_logic.specs.Formulas.{IsWithin}
use Rattle.cp_logic.specs.Pairs.{pair_of, pairs_of}
use Rattle.cp_extend.proofs.completion.extend.Given as goal

abbrev pub invariant-loop-pair : goal.invariant-loop-pair
invariant-loop-pair l = record {
  len : length l.model ≡ length l.fn.model;
  within : All (λ p. IsWithin l.stack.vars p.clause) l.left;
  completed : completed l.model (map pair_of l.left) ≡ completed l.fn.model (pairs_of l.stack.pairs);
}

abbrev pub decreases-loop-pair : goal.decreases-loop-pair
decreases-loop-pair l = length l.left
