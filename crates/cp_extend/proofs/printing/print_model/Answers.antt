use Rattle.std.proofs.Common.{◌+◌, ◌/◌, ◌++◌, length}
use Rattle.std.specs.Prelude.{codes}
use Rattle.cp_io.proofs.Printing.{Prints-then, Prints-finish}
use Rattle.cp_extend.specs.ModelText.{lines_text}
use Rattle.cp_extend.proofs.Lines.{lines_left, lines_left-next, lines_left-none}
use Rattle.cp_io.proofs.PrintsUpTo.{Prints-step, Prints-whole}
use Rattle.cp_extend.proofs.printing.print_model.Goals as goal

pub loop-line-preserved : goal.loop-line-preserved
loop-line-preserved g c =
    let values = c.args.model.now in
    let lines = c.div_ceil-lines.result in
    let k = c.loop-line.line in
    record {
      prints = Prints-step (codes "s SATISFIABLE\n" ++ lines_text ((length values + 9) / 10) 1 values) (lines_left values lines k) (lines_left values lines (k + 1))
          (lines_left-next values lines k c.loop-line-test.true) c.loop-line.invariant.prints c.put_line.ensures.prints;
      bound = c.put_line.ensures.bound;
    }

pub returns : goal.returns
returns g c =
    let values = c.args.model.now in
    let lines = c.div_ceil-lines.result in
    let text = codes "s SATISFIABLE\n" ++ lines_text ((length values + 9) / 10) 1 values in
    let shown = Prints-whole text (lines_left values lines c.loop-line.line) (lines_left-none values lines c.loop-line.line c.loop-line-test.false) c.loop-line.invariant.prints in
    Prints-finish (Prints-then shown c.put-2.ensures.prints) c.finish.ensures
