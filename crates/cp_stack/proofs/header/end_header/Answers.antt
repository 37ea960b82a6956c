use Rattle.std.proofs.Common.{◌+◌, ◌∙◌, ap, Err, length}
use Rattle.cp_text.specs.Cut.{lines_seen}
use Rattle.cp_text.specs.Ahead.{lines_of}
use Rattle.cp_text.proofs.LinesAhead.{some_line_seen}
use Rattle.cp_stack.proofs.LinesAhead.{no_word-word}
use Rattle.cp_stack.proofs.header.end_header.Goals as goal

pub returns-in-Word : goal.returns-in-Word
returns-in-Word c =
    let after = c.in-Word.at + length c.in-Word.word.now in
    ap Err c.bad.ensures
    ∙ no_word-word (record { at = c.in-Word.at; bytes = c.in-Word.word.now }) (lines_of c.args.text) (lines_seen c.args.text.cut after c.in-Word.rest.now) c.in-Word.ensures.seen.0 (some_line_seen c.args.text.cut after c.in-Word.rest.now)
