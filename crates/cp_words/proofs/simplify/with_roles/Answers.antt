use Rattle.std.proofs.Common.{codes, refl}
use Rattle.std.proofs.lemmas.Result.{IfOk-weaker}
use Rattle.cp_words.specs.Commands.{text_option}
use Rattle.cp_words.proofs.Commands.{with_one}
use Rattle.cp_words.proofs.simplify.with_roles.Goals as goal

pub returns : goal.returns
returns c =
    let with_1 = with_one (text_option (codes "cnf") (codes "std")) _ c.args.command c.in_ok-arg.field-0 c.text_option.result refl c.text_option.ensures c.in_ok-arg.ensures in
    let with_2 = with_one (text_option (codes "reduced") (codes "std")) _ c.in_ok-arg.field-0 c.in_ok-arg-2.field-0 c.text_option-2.result with_1 c.text_option-2.ensures c.in_ok-arg-2.ensures in
    let with_3 = with_one (text_option (codes "stack") (codes "none")) _ c.in_ok-arg-2.field-0 c.in_ok-arg-3.field-0 c.text_option-3.result with_2 c.text_option-3.ensures c.in_ok-arg-3.ensures in
    let with_4 = with_one (text_option (codes "proof") (codes "none")) _ c.in_ok-arg-3.field-0 c.in_ok-arg-4.field-0 c.text_option-4.result with_3 c.text_option-4.ensures c.in_ok-arg-4.ensures in
    IfOk-weaker c.arg-5.result _ _ (λ new adds. with_one (text_option (codes "summary") (codes "none")) _ c.in_ok-arg-4.field-0 new c.text_option-5.result with_4 c.text_option-5.ensures adds) c.arg-5.ensures
