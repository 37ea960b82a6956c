use Rattle.std.proofs.Common.{◌≡◌, ◌+◌, ◌/◌, ◌++◌, Some, length}
use Rattle.std.specs.Prelude.{codes}
use Rattle.cp_io.specs.declared.role.Way.TheVariants.{Out}
use Rattle.cp_io.specs.declared.role.Role.TheVariants.{Full}
use Rattle.cp_io.specs.Prints.{nothing_pending}
use Rattle.cp_extend.specs.ModelText.{lines_text}
use Rattle.cp_extend.proofs.Lines.{lines_left}
use Rattle.cp_io.proofs.PrintsUpTo.{PrintsUpTo}
use Rattle.cp_extend.proofs.printing.print_model.Given as goal

abbrev pub invariant-loop-line : goal.invariant-loop-line
invariant-loop-line g l = record {
  prints : PrintsUpTo Full (codes "s SATISFIABLE\n" ++ lines_text ((length l.model + 9) / 10) 1 l.model) (lines_left l.model l.lines l.line) nothing_pending (g.D.Desk.port l.fn.desk) l.buffer (g.D.Desk.port l.desk);
  bound : (g.D.Desk.port l.desk Full).way ≡ Some Out;
}
