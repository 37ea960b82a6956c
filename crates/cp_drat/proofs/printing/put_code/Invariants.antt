use Rattle.std.proofs.Common.{◌≡◌, ℕ, ◌<◌, Some}
use Rattle.cp_io.specs.declared.role.Way.TheVariants.{Out}
use Rattle.cp_io.specs.declared.role.Role.TheVariants.{Proof}
use Rattle.cp_drat.specs.Text.{groups, code_bytes}
use Rattle.cp_drat.proofs.Groups.{limit}
use Rattle.cp_io.proofs.PrintsUpTo.{PrintsUpTo}
use Rattle.cp_drat.proofs.printing.put_code.Given as goal

abbrev pub invariant-groups : goal.invariant-groups
invariant-groups g l = record {
  prints : (more : ℕ) × (l.rest < limit more) × PrintsUpTo Proof (code_bytes l.fn.lit) (groups more l.rest) l.fn.buffer (g.D.Desk.port l.fn.desk) l.buffer (g.D.Desk.port l.desk);
  bound : (g.D.Desk.port l.desk Proof).way ≡ Some Out;
}

abbrev pub decreases-groups : goal.decreases-groups
decreases-groups g l = l.rest
