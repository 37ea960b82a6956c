use Rattle.std.proofs.Common.{arith}
use Rattle.std.proofs.lemmas.Result.{err_from_is_err_and}
use Rattle.cp_text.specs.Text.{Word}
use Rattle.cp_dimacs.proofs.TakingLines.{word_taken, line_refused}
use Rattle.cp_dimacs.proofs.body.take_line.Goals as goal

pub returns-in_err-take_word-in-Word-clause-takes : goal.returns-in_err-take_word-in-Word-clause-takes
returns-in_err-take_word-in-Word-clause-takes c =
    let p = err_from_is_err_and c.from_residual.result c.from_residual.ensures.1 in
    let w : Word = record { at = c.in-Word.begin; bytes = c.in-Word.word.now } in
    rw (p.1, p.2)
    (line_refused c.args.limits.now c.args.text c.args.reading.now c.words.reading c.take_word.new.reading c.words.at c.words.rest.now c.in-Word.after.now w
    c.in_err-take_word-in-Word.field-0.0 c.words.invariant.taken c.in-Word.ensures.whole c.words.invariant.length c.in_err-take_word-in-Word.ensures)

pub words-preserved : goal.words-preserved
words-preserved c =
    let w : Word = record { at = c.in-Word.begin; bytes = c.in-Word.word.now } in
    let ahead = c.in-Word.ensures.whole in
    record {
      taken = word_taken c.args.limits.now c.args.text c.args.reading.now c.words.reading c.take_word.new.reading c.words.at c.words.rest.now c.in-Word.after.now w
          c.words.invariant.taken ahead c.words.invariant.length c.in_ok-take_word-in-Word.ensures;
      later = omega (arith, ahead.later, c.words.invariant.later);
      length = omega (arith, ahead.reaches, c.words.invariant.length);
    }
