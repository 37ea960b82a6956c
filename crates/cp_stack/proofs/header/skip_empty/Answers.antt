use Rattle.std.proofs.Common.{◌+◌, ◌∙◌, sym, arith}
use Rattle.cp_text.specs.Cut.{lines_seen}
use Rattle.cp_text.proofs.LinesAhead.{some_line_seen}
use Rattle.cp_stack.proofs.LinesAhead.{from_words-empty}
use Rattle.cp_stack.proofs.header.skip_empty.Goals as goal

pub lines-preserved : goal.lines-preserved
lines-preserved c =
    let e = c.in-LineEnd.ensures.seen in
    record {
      lines = sym (from_words-empty c.in-LineEnd.at (lines_seen c.args.text.cut c.lines.place c.lines.left.now) (lines_seen c.args.text.cut (c.in-LineEnd.at + 1) c.in-LineEnd.rest.now) e.0
          (some_line_seen c.args.text.cut (c.in-LineEnd.at + 1) c.in-LineEnd.rest.now)) ∙ c.lines.invariant.lines;
      within = omega (arith, e.2, c.lines.invariant.within);
    }
