use Rattle.std.proofs.Common.{◌≡◌, Some, drop}
use Rattle.std.specs.List.{flat_map}
use Rattle.cp_io.specs.declared.role.Way.TheVariants.{Out}
use Rattle.cp_io.specs.declared.role.Role.TheVariants.{Stack}
use Rattle.cp_io.specs.Prints.{nothing_pending}
use Rattle.cp_logic.specs.Pairs.{pair_of, pairs_of}
use Rattle.cp_stack.specs.Text.{stack_text, pair_text}
use Rattle.cp_io.proofs.PrintsUpTo.{PrintsUpTo}
use Rattle.cp_stack.proofs.printing.print_stack.Given as goal

abbrev pub invariant-loop-pair : goal.invariant-loop-pair
invariant-loop-pair g l = record {
  prints : PrintsUpTo Stack (stack_text l.stack.vars (pairs_of l.stack.pairs)) (flat_map (λ p. pair_text (pair_of p)) (drop l.pair-index l.stack.pairs.items)) nothing_pending (g.D.Desk.port l.fn.desk) l.buffer (g.D.Desk.port l.desk);
  bound : (g.D.Desk.port l.desk Stack).way ≡ Some Out;
}
