use Rattle.std.proofs.Common.{◌≡◌, ◌∙◌, ap, codes, map, Some, string_bytes, sym, subst, true}
use Rattle.std.specs.Prelude.{Ok}
use Rattle.clap.specs.Words.{App, found_of, is_simple_and_free, rows_of}
use Rattle.cp_words.specs.Commands.{generate_command, taken}
use Rattle.cp_words.specs.Words.{generate_found, is_command}
use Rattle.cp_words.proofs.Commands.{generate_numbers, generate_simple, given_ok}
use Rattle.cp_words.proofs.generate.read_generate_words.Goals as goal

pub parse-requires : goal.parse-requires
parse-requires c = ap is_simple_and_free c.in-Ok.ensures ∙ generate_simple

pub generate_options-requires : goal.generate_options-requires
generate_options-requires c = generate_numbers c.in-Ok.command c.in_ok-matches.matches c.in_ok-matches.ensures.parsed c.in-Ok.ensures

pub returns : goal.returns
returns c =
    let words = map string_bytes c.args.words.now in
    let first : is_command (codes "generate") words ≡ true = cc (c.is_command.ensures, c.if-not-is_command.false) in
    let found : taken generate_command words ≡ Some (rows_of (found_of c.in_ok-matches.matches)) =
    subst (λ (a : App). taken a words ≡ Some (rows_of (found_of c.in_ok-matches.matches))) c.in-Ok.ensures c.in_ok-matches.ensures.found in
    record {
      answer = given_ok (codes "generate") generate_command generate_found words _ _ first found (ap Ok (sym c.generate_options.ensures.options));
      limits = c.generate_options.ensures.limits;
    }
