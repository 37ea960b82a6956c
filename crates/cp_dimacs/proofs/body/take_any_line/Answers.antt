use Rattle.cp_text.specs.Ahead.{all_lines, text_end}
use Rattle.cp_dimacs.proofs.AnyLines.{line_ends}
use Rattle.cp_dimacs.proofs.body.take_any_line.Goals as goal

pub returns-then-word-eq37-clause-takes : goal.returns-then-word-eq37-clause-takes
returns-then-word-eq37-clause-takes c =
    let next = c.in-Word.ensures in
    line_ends c.args.limits.now c.args.text.cut (text_end c.args.text) c.args.reading.now (all_lines c.args.text) (record { at = c.in-Word.at; bytes = c.in-Word.word.now }) c.in-Word.rest.now next.0 next.1 c.if-word-eq37.true
