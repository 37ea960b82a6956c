use Rattle.std.proofs.Common.{◌∙◌, ap, codes, map, string_bytes}
use Rattle.clap.specs.Words.{app_of, is_simple_and_free}
use Rattle.cp_words.specs.Answers.{extend_seen}
use Rattle.cp_words.specs.Commands.{extend_command}
use Rattle.cp_words.specs.Words.{extend_found}
use Rattle.cp_words.proofs.Commands.{refused_by, extend_never, extend_simple}
use Rattle.cp_words.proofs.extend.read_extend_words.Goals as goal

pub parse-requires : goal.parse-requires
parse-requires c = ap is_simple_and_free c.in-Ok.ensures ∙ extend_simple

pub returns-in_err-matches : goal.returns-in_err-matches
returns-in_err-matches c =
    refused_by extend_seen (codes "extend") extend_command (app_of c.in-Ok.command) extend_found (map string_bytes c.args.words.now) c.in_err-matches.field-0.0 c.from_residual.result
    extend_never (cc (c.is_command.ensures, c.if-not-is_command.false)) c.from_residual.ensures.1 c.in-Ok.ensures c.in_err-matches.ensures.refused
