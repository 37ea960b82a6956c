use Rattle.std.proofs.Common.{◌∙◌, sym, arith}
use Rattle.cp_text.specs.Text.{Word}
use Rattle.cp_extend.specs.Held.{reading_of}
use Rattle.cp_extend.proofs.Steps.{too_great-word}
use Rattle.cp_extend.proofs.parsing.take_word.Goals as goal

pub returns-in_default-size : goal.returns-in_default-size
returns-in_default-size c =
    let w : Word = record { at = c.args.at; bytes = c.args.word.now } in
    rw c.too_great.ensures (λ _. too_great-word c.args.limits.now (reading_of c.args.progress.now) w c.in-Some.number (omega arith) (sym c.in-Some.is ∙ c.parse_number.ensures) c.in_default-size.is)
