use Rattle.std.proofs.Common.{◌+◌, [], ◌∷◌, ◌++◌, length, ◌∙◌, ap, arith}
use Rattle.cp_text.specs.Text.{Word, lines_from}
use Rattle.cp_text.proofs.LinesAhead.{with_words, with_words-none, with_words-word}
use Rattle.cp_text.proofs.lines.skip_line.Goals as goal

pub words-init : goal.words-init
words-init c = (([], with_words-none (lines_from c.args.place c.args.text.now)), omega arith, omega arith)

pub words-smaller : goal.words-smaller
words-smaller c = let e = c.in-Word.ensures in omega (arith, e.1, e.2, e.3)

pub words-preserved : goal.words-preserved
words-preserved c =
    let so_far = c.words.invariant.0 in
    let w : Word = record { at = c.in-Word.begin; bytes = c.in-Word.word.now } in
    ((so_far.0 ++ w ∷ [], so_far.1 ∙ ap (with_words so_far.0) c.in-Word.ensures.0 ∙ with_words-word so_far.0 w (lines_from (c.in-Word.begin + length c.in-Word.word.now) c.in-Word.after.now)), omega (arith, c.in-Word.ensures.2, c.words.invariant.1), omega (arith, c.in-Word.ensures.3, c.words.invariant.2))
