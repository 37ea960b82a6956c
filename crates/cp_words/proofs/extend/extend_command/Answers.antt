use Rattle.std.proofs.Common.{◌≡◌, codes, [], ◌∷◌}
use Rattle.std.proofs.lemmas.Result.{IfOk-weaker}
use Rattle.clap.specs.Words.{app_of}
use Rattle.cp_words.specs.Commands.{command, extend_command, required_option, text_option}
use Rattle.cp_words.proofs.Commands.{added}
use Rattle.cp_words.proofs.extend.extend_command.Goals as goal

pub returns : goal.returns
unfolding extend_command
returns c =
    let start : app_of c.new.result ≡ command (codes "extend") [] = c.new.ensures.app in
    let with_1 : app_of c.in_ok-arg.field-0 ≡ command (codes "extend") (required_option (codes "stack") ∷ []) =
    added (codes "extend") [] (required_option (codes "stack")) c.new.result c.in_ok-arg.field-0 c.required_option.result start c.required_option.ensures c.in_ok-arg.ensures in
    let with_2 : app_of c.in_ok-arg-2.field-0 ≡ command (codes "extend") (required_option (codes "stack") ∷ text_option (codes "model") (codes "std") ∷ []) =
    added (codes "extend") (required_option (codes "stack") ∷ []) (text_option (codes "model") (codes "std")) c.in_ok-arg.field-0 c.in_ok-arg-2.field-0 c.text_option.result with_1 c.text_option.ensures c.in_ok-arg-2.ensures in
    IfOk-weaker c.arg-3.result _ _ (λ new adds. added (codes "extend") (required_option (codes "stack") ∷ text_option (codes "model") (codes "std") ∷ []) (text_option (codes "full") (codes "std")) c.in_ok-arg-2.field-0 new c.text_option-2.result with_2 c.text_option-2.ensures adds) c.arg-3.ensures
