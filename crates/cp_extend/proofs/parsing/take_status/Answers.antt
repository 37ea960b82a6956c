use Rattle.std.proofs.Common.{◌+◌, length}
use Rattle.std.proofs.lemmas.Result.{err_from_is_err_and}
use Rattle.cp_text.specs.Text.{Word}
use Rattle.cp_text.specs.Cut.{lines_seen}
use Rattle.cp_text.specs.Ahead.{lines_of}
use Rattle.cp_extend.specs.Held.{reading_of}
use Rattle.cp_text.proofs.LinesAhead.{some_line_seen}
use Rattle.cp_extend.proofs.Steps.{status-wrong, status-longer}
use Rattle.cp_extend.proofs.parsing.take_status.Goals as goal

pub returns-in_err-has_model-clause-takes : goal.returns-in_err-has_model-clause-takes
returns-in_err-has_model-clause-takes c = λ limits.
    let p = err_from_is_err_and c.from_residual.result c.from_residual.ensures.1 in
    let w : Word = record { at = c.in-Word.at; bytes = c.in-Word.word.now } in
    let after = c.in-Word.at + length c.in-Word.word.now in
    rw (p.1, p.2) (status-wrong limits c.args.text.cut (reading_of c.args.progress.now) (reading_of c.args.progress.now) w (lines_of c.args.text)
    (lines_seen c.args.text.cut after c.in-Word.rest.now) c.in_err-has_model.field-0.0 c.in-Word.ensures.seen.0 (some_line_seen c.args.text.cut after c.in-Word.rest.now) c.in_err-has_model.ensures)

pub returns-in_err-stop-clause-takes : goal.returns-in_err-stop-clause-takes
returns-in_err-stop-clause-takes c = λ limits.
    let p = err_from_is_err_and c.from_residual-in_err-stop.result c.from_residual-in_err-stop.ensures.1 in
    let w : Word = record { at = c.in-Word.at; bytes = c.in-Word.word.now } in
    let after = c.in-Word.at + length c.in-Word.word.now in
    rw (p.1, p.2) (status-longer limits c.args.text.cut (reading_of c.args.progress.now) (reading_of c.args.progress.now) w (lines_of c.args.text)
    (lines_seen c.args.text.cut after c.in-Word.rest.now) c.in_ok-has_model.has_model c.in_err-stop.field-0.0 c.in-Word.ensures.seen.0 (some_line_seen c.args.text.cut after c.in-Word.rest.now) c.in_ok-has_model.ensures c.in_err-stop.ensures.ends)
