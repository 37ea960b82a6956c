use Rattle.std.proofs.Common.{◌≡◌, ◌+◌, ◌++◌, Some, take, drop}
use Rattle.std.specs.Prelude.{codes}
use Rattle.cp_io.specs.declared.role.Way.TheVariants.{Out}
use Rattle.cp_io.specs.declared.role.Role.TheVariants.{Full}
use Rattle.cp_extend.specs.ModelText.{values_text}
use Rattle.cp_extend.proofs.Lines.{line_left}
use Rattle.cp_io.proofs.PrintsUpTo.{PrintsUpTo}
use Rattle.cp_extend.proofs.printing.put_line.Given as goal

abbrev pub invariant-loop-index : goal.invariant-loop-index
invariant-loop-index g l = record {
  prints : PrintsUpTo Full (codes "v" ++ values_text (l.before + 1) (take 10 (drop l.before l.model))) (line_left l.model l.last l.index) l.fn.buffer (g.D.Desk.port l.fn.desk) l.buffer (g.D.Desk.port l.desk);
  bound : (g.D.Desk.port l.desk Full).way ≡ Some Out;
}
