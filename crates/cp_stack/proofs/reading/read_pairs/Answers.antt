use Rattle.std.proofs.Common.{◌+◌, ◌∙◌, length, sym, subst, Result, arith}
use Rattle.std.proofs.lemmas.Result.{err_from_is_err_and}
use Rattle.cp_text.specs.Cut.{lines_seen}
use Rattle.cp_stack.specs.declared.refusal.StackRefusal.{StackRefusal}
use Rattle.cp_stack.specs.Grammar.{Stack, words_of, end_of}
use Rattle.cp_stack.specs.Reads.{Refuses}
use Rattle.cp_text.proofs.LinesAhead.{some_line_seen}
use Rattle.cp_stack.proofs.Resumed.{resume-word, resume-empty}
use Rattle.cp_stack.proofs.reading.read_pairs.Goals as goal

pub returns-in_err-take_word-in-Word : goal.returns-in_err-take_word-in-Word
returns-in_err-take_word-in-Word c =
    let p = err_from_is_err_and c.from_residual.result c.from_residual.ensures.1 in
    let after = c.in-Word.at + length c.in-Word.word.now in
    let rest = lines_seen c.args.text.cut after c.in-Word.rest.now in
    let e = c.in_err-take_word-in-Word.field-0.0 in
    rw (p.1, p.2) (subst (λ (w : Result Stack StackRefusal). Refuses w e)
    (sym (c.words.invariant.goes_on ∙ resume-word c.words.reading (record { at = c.in-Word.at; bytes = c.in-Word.word.now }) (lines_seen c.args.text.cut c.words.place c.words.left.now) rest c.in-Word.ensures.seen.0 (some_line_seen c.args.text.cut after c.in-Word.rest.now)))
    (c.in_err-take_word-in-Word.ensures.step (words_of rest) (end_of rest)))

pub words-preserved-in-Word : goal.words-preserved-in-Word
words-preserved-in-Word c =
    let after = c.in-Word.at + length c.in-Word.word.now in
    let rest = lines_seen c.args.text.cut after c.in-Word.rest.now in
    record {
      goes_on = c.words.invariant.goes_on
          ∙ resume-word c.words.reading (record { at = c.in-Word.at; bytes = c.in-Word.word.now }) (lines_seen c.args.text.cut c.words.place c.words.left.now) rest c.in-Word.ensures.seen.0 (some_line_seen c.args.text.cut after c.in-Word.rest.now)
          ∙ c.in_ok-take_word-in-Word.ensures.step (words_of rest) (end_of rest);
      reading = c.in_ok-take_word-in-Word.ensures.reading;
      within = omega (arith, c.in-Word.ensures.seen.3, c.words.invariant.within);
    }

pub words-preserved : goal.words-preserved
words-preserved c =
    let rest = lines_seen c.args.text.cut (c.in-LineEnd.at + 1) c.in-LineEnd.rest.now in
    record {
      goes_on = c.words.invariant.goes_on
          ∙ resume-empty c.words.reading c.in-LineEnd.at (lines_seen c.args.text.cut c.words.place c.words.left.now) rest c.in-LineEnd.ensures.seen.0 (some_line_seen c.args.text.cut (c.in-LineEnd.at + 1) c.in-LineEnd.rest.now);
      reading = c.words.invariant.reading;
      within = omega (arith, c.in-LineEnd.ensures.seen.2, c.words.invariant.within);
    }
