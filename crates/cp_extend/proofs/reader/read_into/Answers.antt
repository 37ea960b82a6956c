use Rattle.std.proofs.Common.{Bool, List, length, Ok, sym, ◌∙◌, ap}
use Rattle.cp_text.specs.Ahead.{lines_of}
use Rattle.cp_extend.specs.Held.{reading_of}
use Rattle.cp_extend.proofs.TextAnswers.{reads-lines, answers-stop}
use Rattle.cp_extend.proofs.reader.read_into.Goals as goal

pub returns-in-Err : goal.returns-in-Err
returns-in-Err c =
    let seen = c.within-seen.result in
    answers-stop c.args.limits.now (length c.args.model.now) c.args.bytes.now seen.past (lines_of seen.ahead) (reading_of c.new-progress.result) c.in-Err.stop c.refusal_of.result
    c.within-seen.ensures.past c.within-seen.ensures.lines c.new-progress.ensures c.in-Err.ensures c.refusal_of.ensures.memory c.refusal_of.ensures.told

pub returns : goal.returns
returns c =
    let seen = c.within-seen.result in
    reads-lines c.args.limits.now (length c.args.model.now) c.args.bytes.now seen.past (lines_of seen.ahead) (reading_of c.new-progress.result) (Ok (reading_of c.take_lines.new.progress).given)
    c.within-seen.ensures.past c.within-seen.ensures.lines c.new-progress.ensures c.in_default.ensures ∙ ap (λ (vs : List Bool). Ok vs) (sym c.fill.ensures)
