use Rattle.std.proofs.Common.{◌≡◌, Some, drop}
use Rattle.std.specs.List.{flat_map}
use Rattle.cp_io.specs.declared.role.Way.TheVariants.{Out}
use Rattle.cp_io.specs.declared.role.Role.TheVariants.{Proof}
use Rattle.cp_drat.specs.Text.{literal_text}
use Rattle.cp_io.proofs.PrintsUpTo.{PrintsUpTo}
use Rattle.cp_drat.proofs.printing.put_clause.Given as goal

abbrev pub invariant-loop-lit : goal.invariant-loop-lit
invariant-loop-lit g l = record {
  prints : PrintsUpTo Proof (flat_map (literal_text l.form) l.lits) (flat_map (literal_text l.form) (drop l.lit-index l.lits)) l.fn.buffer (g.D.Desk.port l.fn.desk) l.buffer (g.D.Desk.port l.desk);
  bound : (g.D.Desk.port l.desk Proof).way ≡ Some Out;
}
