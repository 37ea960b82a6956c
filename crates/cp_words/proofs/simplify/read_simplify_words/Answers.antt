use Rattle.std.proofs.Common.{◌∙◌, ap, codes, map, string_bytes}
use Rattle.clap.specs.Words.{app_of, is_simple_and_free}
use Rattle.cp_words.specs.Answers.{simplify_seen}
use Rattle.cp_words.specs.Commands.{simplify_command, taken}
use Rattle.cp_words.specs.Words.{is_command, simplify_found}
use Rattle.cp_words.proofs.Commands.{no_command, refused_by, simplify_never, simplify_simple, simplify_numbers}
use Rattle.cp_words.proofs.simplify.read_simplify_words.Goals as goal

pub parse-requires : goal.parse-requires
parse-requires c = ap is_simple_and_free c.in-Ok.ensures ∙ simplify_simple

pub simplify_options-requires : goal.simplify_options-requires
simplify_options-requires c = simplify_numbers c.in-Ok.command c.in_ok-matches.matches c.in_ok-matches.ensures.parsed c.in-Ok.ensures

pub returns-in_err-matches-clause-answer : goal.returns-in_err-matches-clause-answer
returns-in_err-matches-clause-answer c =
    refused_by simplify_seen (codes "simplify") simplify_command (app_of c.in-Ok.command) simplify_found (map string_bytes c.args.words.now) c.in_err-matches.field-0.0 c.from_residual.result
    simplify_never (cc (c.is_command.ensures, c.if-not-is_command.false)) c.from_residual.ensures.1 c.in-Ok.ensures c.in_err-matches.ensures.refused

pub returns-in_default-clause-answer : goal.returns-in_default-clause-answer
returns-in_default-clause-answer c =
    let words = map string_bytes c.args.words.now in
    no_command simplify_found (is_command (codes "simplify") words) (taken simplify_command words) simplify_never (cc (c.is_command.ensures, c.if-not-is_command.false))
