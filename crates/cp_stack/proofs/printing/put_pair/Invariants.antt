use Rattle.std.proofs.Common.{◌≡◌, ◌++◌, Some, drop}
use Rattle.std.specs.List.{flat_map}
use Rattle.cp_io.specs.declared.role.Way.TheVariants.{Out}
use Rattle.cp_io.specs.declared.role.Role.TheVariants.{Stack}
use Rattle.cp_logic.specs.Clauses.{without}
use Rattle.cp_stack.specs.Text.{literal_part}
use Rattle.cp_io.proofs.PrintsUpTo.{PrintsUpTo}
use Rattle.cp_stack.proofs.printing.put_pair.Given as goal

abbrev pub invariant-loop-lit : goal.invariant-loop-lit
invariant-loop-lit g l = record {
  prints : PrintsUpTo Stack (literal_part l.pair.lit ++ flat_map literal_part (without l.pair.clause l.pair.lit)) (flat_map literal_part (without (drop l.lit-index l.pair.clause) l.pair.lit)) l.fn.buffer (g.D.Desk.port l.fn.desk) l.buffer (g.D.Desk.port l.desk);
  bound : (g.D.Desk.port l.desk Stack).way ≡ Some Out;
}
