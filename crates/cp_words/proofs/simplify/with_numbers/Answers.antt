use Rattle.std.proofs.Common.{codes, refl}
use Rattle.std.proofs.lemmas.Result.{IfOk-weaker}
use Rattle.cp_words.specs.Commands.{numbers_32, numbers_64}
use Rattle.cp_words.proofs.Commands.{with_number}
use Rattle.cp_words.proofs.simplify.with_numbers.Goals as goal

pub returns : goal.returns
returns c =
    let with_1 = with_number (codes "workers") (numbers_32 0 64) c.numbers_32.result (codes "4") _ c.args.command c.in_ok-arg.field-0 c.number_option.result refl c.numbers_32.ensures c.number_option.ensures c.in_ok-arg.ensures in
    let with_2 = with_number (codes "rounds") (numbers_32 0 16) c.numbers_32-2.result (codes "2") _ c.in_ok-arg.field-0 c.in_ok-arg-2.field-0 c.number_option-2.result with_1 c.numbers_32-2.ensures c.number_option-2.ensures c.in_ok-arg-2.ensures in
    let with_3 = with_number (codes "hood") (numbers_32 1 4096) c.numbers_32-3.result (codes "512") _ c.in_ok-arg-2.field-0 c.in_ok-arg-3.field-0 c.number_option-3.result with_2 c.numbers_32-3.ensures c.number_option-3.ensures c.in_ok-arg-3.ensures in
    let with_4 = with_number (codes "bound") (numbers_64 0 1000) c.numbers_64.result (codes "0") _ c.in_ok-arg-3.field-0 c.in_ok-arg-4.field-0 c.number_option-4.result with_3 c.numbers_64.ensures c.number_option-4.ensures c.in_ok-arg-4.ensures in
    IfOk-weaker c.arg-5.result _ _ (λ new adds. with_number (codes "budget") (numbers_64 0 1099511627776) c.numbers_64-2.result (codes "0") _ c.in_ok-arg-4.field-0 new c.number_option-5.result with_4 c.numbers_64-2.ensures c.number_option-5.ensures adds) c.arg-5.ensures
