use Rattle.std.proofs.Common.{◌≡◌, ◌∙◌, Some}
use Rattle.std.specs.Str.Parse.{ParsesUnsigned, ExplainsUnsignedError, HasUnsignedDigitsIfOk}
use Rattle.clap.specs.Words.{found_of, one_text, without_minus}
use Rattle.clap.proofs.CallerReads.{signed_reads}
use Rattle.clap.proofs.WalkLemmas.{one_text-rows}
use Rattle.cp_words.proofs.Taken.{number_is}
use Rattle.cp_words.proofs.command.number_32_at.Goals as goal

pub returns : goal.returns
returns c low high small has =
    let text : one_text (found_of c.args.matches.now) c.args.id.now ≡ Some (without_minus has.0) = one_text-rows (found_of c.args.matches.now) c.args.id.now ∙ has.1 in
    let read = c.get_one.ensures.value (without_minus has.0) text in
    let got = signed_reads _ (λ bs r. ParsesUnsigned 32 10 bs r × ExplainsUnsignedError 10 bs r × HasUnsignedDigitsIfOk bs r) 32 low high has.0 c.get_one.result read (λ u x g. g.0) small has.2 in
    let is = number_is _ (λ bs r. ParsesUnsigned 32 10 bs r × ExplainsUnsignedError 10 bs r × HasUnsignedDigitsIfOk bs r) 32 (without_minus has.0) c.get_one.result got.0 got.1 read (λ u x g. g.0) in
    let result : c.unwrap_or.result ≡ got.0 = rw got.1 at c.unwrap_or.ensures in
    (rw has.1 (result ∙ is), rw result got.2, rw result got.3)
