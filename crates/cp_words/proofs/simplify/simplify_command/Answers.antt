use Rattle.std.proofs.Common.{◌≡◌, ◌∙◌, [], ap, codes}
use Rattle.std.proofs.lemmas.Result.{IfOk-weaker}
use Rattle.clap.specs.Words.{App, app_of}
use Rattle.cp_words.specs.Commands.{command, numeric_options, role_options, simplify_command, text_option, with_options}
use Rattle.cp_words.proofs.Commands.{with_one}
use Rattle.cp_words.proofs.simplify.simplify_command.Goals as goal

pub returns : goal.returns
unfolding simplify_command
returns c =
    let roles : app_of c.in_ok-with_roles.field-0 ≡ with_options (command (codes "simplify") []) role_options =
    c.in_ok-with_roles.ensures ∙ ap (λ (a : App). with_options a role_options) c.new.ensures.app in
    let numbers : app_of c.in_ok-with_numbers.field-0 ≡ with_options (with_options (command (codes "simplify") []) role_options) numeric_options =
    c.in_ok-with_numbers.ensures ∙ ap (λ (a : App). with_options a numeric_options) roles in
    let with_only = with_one (text_option (codes "only") (codes "tsxbe")) _ c.in_ok-with_numbers.field-0 c.in_ok-arg.field-0 c.text_option.result numbers c.text_option.ensures c.in_ok-arg.ensures in
    IfOk-weaker c.arg-2.result _ _ (λ new adds. with_one (text_option (codes "proof-form") (codes "text")) _ c.in_ok-arg.field-0 new c.text_option-2.result with_only c.text_option-2.ensures adds) c.arg-2.ensures
