use Rattle.std.proofs.Common.{◌≡◌, ◌+◌, true, false, length, sym, ◌∙◌}
use Rattle.std.specs.Prelude.{codes}
use Rattle.std.specs.Str.{bytes_eq}
use Rattle.cp_text.specs.Text.{Word}
use Rattle.cp_text.specs.Cut.{lines_seen}
use Rattle.cp_text.specs.Ahead.{lines_of}
use Rattle.cp_extend.specs.Grammar.{document}
use Rattle.cp_extend.specs.Held.{reading_of}
use Rattle.cp_extend.specs.Steps.{in_values, in_status}
use Rattle.cp_text.proofs.LinesAhead.{some_line_seen, begins_not}
use Rattle.cp_extend.proofs.Steps.{BeginsLine, line-values, line-bad, line-second, line-status, goes-on}
use Rattle.cp_extend.proofs.parsing.take_line.Goals as goal

pub returns-then-eq-clause-takes : goal.returns-then-eq-clause-takes
returns-then-eq-clause-takes c = λ end.
    let w : Word = record { at = c.in-Word.at; bytes = c.in-Word.word.now } in
    let lines = lines_of c.args.text in
    let after = lines_seen c.args.text.cut (c.in-Word.at + length c.in-Word.word.now) c.in-Word.rest.now in
    let h : BeginsLine lines w after = record { is = c.in-Word.ensures.seen.0; some = some_line_seen c.args.text.cut (c.in-Word.at + length c.in-Word.word.now) c.in-Word.rest.now } in
    let read = reading_of c.args.progress.now in
    let values : bytes_eq c.in-Word.word.now (codes "v") ≡ true = cc (c.if-eq.ensures, c.as_slice.ensures) in
    goes-on c.args.limits.now c.args.text.cut (document c.args.limits.now read end lines) (in_values c.args.limits.now read after) c.take_values.result (reading_of c.take_values.new.progress)
    (line-values c.args.limits.now read lines after w h (begins_not 99 w.bytes c.if-word-eq99.false) values end) c.take_values.ensures.takes

pub returns-clause-takes : goal.returns-clause-takes
returns-clause-takes c = λ end not.
    let w : Word = record { at = c.in-Word.at; bytes = c.in-Word.word.now } in
    let lines = lines_of c.args.text in
    let after = lines_seen c.args.text.cut (c.in-Word.at + length c.in-Word.word.now) c.in-Word.rest.now in
    let h : BeginsLine lines w after = record { is = c.in-Word.ensures.seen.0; some = some_line_seen c.args.text.cut (c.in-Word.at + length c.in-Word.word.now) c.in-Word.rest.now } in
    let read = reading_of c.args.progress.now in
    let values : bytes_eq c.in-Word.word.now (codes "v") ≡ false = cc (c.if-eq.ensures, c.as_slice.ensures) in
    let status : bytes_eq c.in-Word.word.now (codes "s") ≡ false = cc (c.if-eq-2.ensures, c.as_slice-2.ensures) in
    rw c.bad-2.ensures (line-bad c.args.limits.now read lines after w h (begins_not 99 w.bytes c.if-word-eq99.false) values status end)

pub returns-then-has_status-clause-takes : goal.returns-then-has_status-clause-takes
returns-then-has_status-clause-takes c = λ end not.
    let w : Word = record { at = c.in-Word.at; bytes = c.in-Word.word.now } in
    let lines = lines_of c.args.text in
    let after = lines_seen c.args.text.cut (c.in-Word.at + length c.in-Word.word.now) c.in-Word.rest.now in
    let h : BeginsLine lines w after = record { is = c.in-Word.ensures.seen.0; some = some_line_seen c.args.text.cut (c.in-Word.at + length c.in-Word.word.now) c.in-Word.rest.now } in
    let read = reading_of c.args.progress.now in
    let values : bytes_eq c.in-Word.word.now (codes "v") ≡ false = cc (c.if-eq.ensures, c.as_slice.ensures) in
    let status : bytes_eq c.in-Word.word.now (codes "s") ≡ true = cc (c.if-eq-2.ensures, c.as_slice-2.ensures) in
    rw c.bad.ensures (line-second c.args.limits.now read lines after w h (begins_not 99 w.bytes c.if-word-eq99.false) values status (sym c.has_status.ensures ∙ c.if-has_status.true) end)

pub returns-then-eq-2-clause-takes : goal.returns-then-eq-2-clause-takes
returns-then-eq-2-clause-takes c = λ end.
    let w : Word = record { at = c.in-Word.at; bytes = c.in-Word.word.now } in
    let lines = lines_of c.args.text in
    let after = lines_seen c.args.text.cut (c.in-Word.at + length c.in-Word.word.now) c.in-Word.rest.now in
    let h : BeginsLine lines w after = record { is = c.in-Word.ensures.seen.0; some = some_line_seen c.args.text.cut (c.in-Word.at + length c.in-Word.word.now) c.in-Word.rest.now } in
    let read = reading_of c.args.progress.now in
    let values : bytes_eq c.in-Word.word.now (codes "v") ≡ false = cc (c.if-eq.ensures, c.as_slice.ensures) in
    let status : bytes_eq c.in-Word.word.now (codes "s") ≡ true = cc (c.if-eq-2.ensures, c.as_slice-2.ensures) in
    goes-on c.args.limits.now c.args.text.cut (document c.args.limits.now read end lines) (in_status c.args.limits.now read after) c.take_status.result (reading_of c.take_status.new.progress)
    (line-status c.args.limits.now read lines after w h (begins_not 99 w.bytes c.if-word-eq99.false) values status (sym c.has_status.ensures ∙ c.if-has_status.false) end) (c.take_status.ensures.takes c.args.limits.now)
