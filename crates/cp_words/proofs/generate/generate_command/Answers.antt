use Rattle.std.proofs.Common.{◌≡◌, codes, [], ◌∷◌, subst}
use Rattle.std.proofs.lemmas.Result.{IfOk-weaker}
use Rattle.clap.specs.Words.{app_of}
use Rattle.clap.specs.declared.builder.value_parser.ValueParser.{ValueParser}
use Rattle.cp_words.specs.Commands.{IsOption, command, generate_command, number_option, numbers_32, text_option}
use Rattle.cp_words.proofs.Commands.{added}
use Rattle.cp_words.proofs.generate.generate_command.Goals as goal

pub returns : goal.returns
unfolding generate_command
returns c =
    let start : app_of c.new.result ≡ command (codes "generate") [] = c.new.ensures.app in
    let seed : IsOption (number_option (codes "seed") (numbers_32 0 2147483647) (codes "1")) c.number_option-seed.result =
    subst (λ (q : ValueParser). IsOption (number_option (codes "seed") q (codes "1")) c.number_option-seed.result) c.numbers_32.ensures c.number_option-seed.ensures in
    let with_1 : app_of c.in_ok-arg.field-0 ≡ command (codes "generate") (number_option (codes "seed") (numbers_32 0 2147483647) (codes "1") ∷ []) =
    added (codes "generate") [] (number_option (codes "seed") (numbers_32 0 2147483647) (codes "1")) c.new.result c.in_ok-arg.field-0 c.number_option-seed.result start seed c.in_ok-arg.ensures in
    let vars : IsOption (number_option (codes "vars") (numbers_32 1 2000000) (codes "1000")) c.number_option-vars.result =
    subst (λ (q : ValueParser). IsOption (number_option (codes "vars") q (codes "1000")) c.number_option-vars.result) c.numbers_32-2.ensures c.number_option-vars.ensures in
    let with_2 : app_of c.in_ok-arg-2.field-0 ≡ command (codes "generate") (number_option (codes "seed") (numbers_32 0 2147483647) (codes "1") ∷ number_option (codes "vars") (numbers_32 1 2000000) (codes "1000") ∷ []) =
    added (codes "generate") (number_option (codes "seed") (numbers_32 0 2147483647) (codes "1") ∷ []) (number_option (codes "vars") (numbers_32 1 2000000) (codes "1000")) c.in_ok-arg.field-0 c.in_ok-arg-2.field-0 c.number_option-vars.result with_1 vars c.in_ok-arg-2.ensures in
    let clauses : IsOption (number_option (codes "clauses") (numbers_32 0 8000000) (codes "3000")) c.number_option-clauses.result =
    subst (λ (q : ValueParser). IsOption (number_option (codes "clauses") q (codes "3000")) c.number_option-clauses.result) c.numbers_32-3.ensures c.number_option-clauses.ensures in
    let with_3 : app_of c.in_ok-arg-3.field-0 ≡ command (codes "generate") (number_option (codes "seed") (numbers_32 0 2147483647) (codes "1") ∷ number_option (codes "vars") (numbers_32 1 2000000) (codes "1000") ∷ number_option (codes "clauses") (numbers_32 0 8000000) (codes "3000") ∷ []) =
    added (codes "generate") (number_option (codes "seed") (numbers_32 0 2147483647) (codes "1") ∷ number_option (codes "vars") (numbers_32 1 2000000) (codes "1000") ∷ []) (number_option (codes "clauses") (numbers_32 0 8000000) (codes "3000")) c.in_ok-arg-2.field-0 c.in_ok-arg-3.field-0 c.number_option-clauses.result with_2 clauses c.in_ok-arg-3.ensures in
    IfOk-weaker c.arg-4.result _ _ (λ new adds. added (codes "generate") (number_option (codes "seed") (numbers_32 0 2147483647) (codes "1") ∷ number_option (codes "vars") (numbers_32 1 2000000) (codes "1000") ∷ number_option (codes "clauses") (numbers_32 0 8000000) (codes "3000") ∷ []) (text_option (codes "summary") (codes "std")) c.in_ok-arg-3.field-0 new c.text_option.result with_3 c.text_option.ensures adds) c.arg-4.ensures
