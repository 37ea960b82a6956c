use Rattle.std.proofs.Common.{◌+◌, length, ◌∙◌, ap, arith}
use Rattle.std.proofs.lemmas.Result.{err_from_is_err_and}
use Rattle.cp_text.specs.Text.{Word}
use Rattle.cp_text.specs.Cut.{lines_seen}
use Rattle.cp_text.specs.Ahead.{lines_of}
use Rattle.cp_extend.specs.Held.{reading_of}
use Rattle.cp_extend.specs.Steps.{in_values}
use Rattle.cp_text.proofs.LinesAhead.{some_line_seen}
use Rattle.cp_extend.proofs.Steps.{values-word, values-ended, values-refused}
use Rattle.cp_extend.proofs.parsing.take_values.Goals as goal

pub returns-in_err-take_word-clause-takes : goal.returns-in_err-take_word-clause-takes
returns-in_err-take_word-clause-takes c =
    let p = err_from_is_err_and c.from_residual.result c.from_residual.ensures.1 in
    let w : Word = record { at = c.in-Word.at; bytes = c.in-Word.word.now } in
    let after = c.in-Word.at + length c.in-Word.word.now in
    rw (p.1, p.2) (values-refused c.args.limits.now c.args.text.cut (reading_of c.args.progress.now) (reading_of c.words.progress) w (lines_of c.args.text) (lines_seen c.args.text.cut c.words.from c.words.rest.now)
    (lines_seen c.args.text.cut after c.in-Word.rest.now) c.in_err-take_word.field-0.0 (reading_of c.take_word.new.progress) c.words.invariant.goes_on c.in-Word.ensures.seen.0 (some_line_seen c.args.text.cut after c.in-Word.rest.now) c.in_err-take_word.ensures)

pub returns-then-branch-clause-takes : goal.returns-then-branch-clause-takes
returns-then-branch-clause-takes c =
    let w : Word = record { at = c.in-Word.at; bytes = c.in-Word.word.now } in
    let after = c.in-Word.at + length c.in-Word.word.now in
    c.words.invariant.goes_on ∙ ap (in_values c.args.limits.now (reading_of c.words.progress)) c.in-Word.ensures.seen.0
    ∙ values-ended c.args.limits.now (reading_of c.words.progress) (reading_of c.take_word.new.progress) w (lines_seen c.args.text.cut after c.in-Word.rest.now) (some_line_seen c.args.text.cut after c.in-Word.rest.now) (rw c.if-branch.true at c.in_ok-take_word.ensures)

pub words-preserved : goal.words-preserved
words-preserved c =
    let w : Word = record { at = c.in-Word.at; bytes = c.in-Word.word.now } in
    let after = c.in-Word.at + length c.in-Word.word.now in
    record {
      goes_on = c.words.invariant.goes_on ∙ ap (in_values c.args.limits.now (reading_of c.words.progress)) c.in-Word.ensures.seen.0
          ∙ values-word c.args.limits.now (reading_of c.words.progress) (reading_of c.take_word.new.progress) w (lines_seen c.args.text.cut after c.in-Word.rest.now) (rw c.if-branch.false at c.in_ok-take_word.ensures);
      later = omega (arith, c.in-Word.ensures.seen.2, c.words.invariant.later);
      length = omega (arith, c.in-Word.ensures.seen.3, c.words.invariant.length);
    }
