use Rattle.std.proofs.Common.{◌≡◌, Some, drop, map}
use Rattle.cp_io.specs.declared.role.Way.TheVariants.{Out}
use Rattle.cp_io.specs.declared.role.Role.TheVariants.{Proof}
use Rattle.cp_drat.specs.Log.{deletion_of}
use Rattle.cp_drat.specs.Text.{log_text}
use Rattle.cp_io.proofs.PrintsUpTo.{PrintsUpTo}
use Rattle.cp_drat.proofs.printing.put_deletions.Given as goal

abbrev pub invariant-loop-named : goal.invariant-loop-named
invariant-loop-named g l = record {
  prints : PrintsUpTo Proof (log_text l.form (map deletion_of l.list)) (log_text l.form (map deletion_of (drop l.named-index l.list))) l.fn.buffer (g.D.Desk.port l.fn.desk) l.buffer (g.D.Desk.port l.desk);
  bound : (g.D.Desk.port l.desk Proof).way ≡ Some Out;
}
