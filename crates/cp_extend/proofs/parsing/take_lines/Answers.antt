use Rattle.std.proofs.Common.{◌+◌, ◌∙◌, arith}
use Rattle.std.proofs.lemmas.Result.{err_from_is_err_and}
use Rattle.cp_text.specs.Cut.{lines_seen}
use Rattle.cp_text.specs.Ahead.{lines_of}
use Rattle.cp_extend.specs.Grammar.{document}
use Rattle.cp_extend.specs.Held.{reading_of}
use Rattle.cp_extend.proofs.Steps.{any_end, lines-stopped}
use Rattle.cp_extend.proofs.parsing.take_lines.Goals as goal

pub lines-init : goal.lines-init
lines-init c = record { goes_on = λ end. any_end c.args.limits.now (reading_of c.args.progress.now) c.args.text.cut c.args.text.at c.args.text.text.now 0 end; later = omega arith; length = omega arith }

pub returns-in_err-stop : goal.returns-in_err-stop
returns-in_err-stop c =
    let p = err_from_is_err_and c.from_residual.result c.from_residual.ensures.1 in
    rw (p.1, p.2) (lines-stopped c.args.limits.now c.args.text.cut (document c.args.limits.now (reading_of c.args.progress.now) 0 (lines_of c.args.text))
    (document c.args.limits.now (reading_of c.lines.progress) 0 (lines_seen c.args.text.cut c.lines.at c.lines.rest.now)) c.in_err-stop.field-0.0 (reading_of c.take_line.new.progress) (c.lines.invariant.goes_on 0) (c.in_err-stop.ensures.takes 0))

pub returns-in_default : goal.returns-in_default
returns-in_default c =
    let takes = rw c.in_default.is at c.in_ok-stop.ensures.takes in
    c.lines.invariant.goes_on 0 ∙ takes 0

pub returns-in_default-rest : goal.returns-in_default-rest
returns-in_default-rest c = λ _.
    let takes = rw c.in-Some.is at c.in_ok-stop.ensures.takes in
    let none = rw c.in_default-rest.is at takes in
    rw c.bad.ensures (c.lines.invariant.goes_on 0 ∙ none 0)

pub lines-smaller : goal.lines-smaller
lines-smaller c =
    let within = rw c.in-Some.is at c.in_ok-stop.ensures.within in
    let fits = rw c.in-Some-rest.is at within in
    omega (arith, fits.0, fits.1)

pub lines-preserved : goal.lines-preserved
lines-preserved c =
    let takes = rw c.in-Some.is at c.in_ok-stop.ensures.takes in
    let line = rw c.in-Some-rest.is at takes in
    let within = rw c.in-Some.is at c.in_ok-stop.ensures.within in
    let fits = rw c.in-Some-rest.is at within in
    record {
      goes_on = λ end. c.lines.invariant.goes_on 0 ∙ line 0 ∙ any_end c.args.limits.now (reading_of c.take_line.new.progress) c.args.text.cut (c.in-Some.stop.at + 1) c.in-Some-rest.after.now c.in-Some.stop.at end;
      later = omega (arith, fits.0, c.lines.invariant.later);
      length = omega (arith, fits.1, c.lines.invariant.length);
    }
