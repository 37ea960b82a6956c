use Rattle.std.proofs.Common.{sym, ◌∙◌, map, string_bytes}
use Rattle.cp_words.specs.Answers.{generate_seen}
use Rattle.cp_top.proofs.WordsTaken.{generate-refused}
use Rattle.cp_top.proofs.Generating.{numbers-left, prints-summary, prints-summary-front}
use Rattle.cp_top.proofs.generation.run_gen.Goals as goal

pub returns-in-Err-clause-cause : goal.returns-in-Err-clause-cause
returns-in-Err-clause-cause g c = generate-refused (map string_bytes c.args.words.now) (g.D.Desk.port c.args.desk.now) (g.D.Desk.port c.args.desk.now) c.in-Err.refusal c.of_options.result c.in-Err.ensures.answer c.of_options.ensures

pub simplify-requires : goal.simplify-requires
simplify-requires g c = record {
  numbers = numbers-left c.in-Ok-generate.formula.formula c.in-Ok.options.seed c.in-Ok.options.vars c.in-Ok.options.clauses c.in-Ok-generate.ensures c.in-Ok.ensures.limits.3;
}

pub returns-then-is_err-clause-written : goal.returns-then-is_err-clause-written
returns-then-is_err-clause-written g c =
    prints-summary-front (map string_bytes c.args.words.now) (g.D.Desk.port c.args.desk.now) (g.D.Desk.port c.bind_generate.new.desk) (g.D.Desk.port c.print_counts.new.desk)
    (generate_seen c.in-Ok.options) c.in-Ok.ensures.answer c.in_default.ensures c.in-Ok-generate.formula.formula c.in-Ok-generate.ensures c.of-sizes.ensures.valid c.of-sizes.result c.of-sizes.ensures.value
    c.in-Ok-simplify.swept c.in-Ok-simplify.ensures.swept c.in-Ok-simplify.ensures.pairs c.in-Ok-simplify.ensures.unspent c.print_counts.result c.print_counts.ensures (sym c.is_err.ensures.value ∙ c.if-is_err.true)

pub returns-clause-written : goal.returns-clause-written
returns-clause-written g c =
    prints-summary (map string_bytes c.args.words.now) (g.D.Desk.port c.args.desk.now) (g.D.Desk.port c.bind_generate.new.desk) (g.D.Desk.port c.print_counts.new.desk)
    (generate_seen c.in-Ok.options) c.in-Ok.ensures.answer c.in_default.ensures c.in-Ok-generate.formula.formula c.in-Ok-generate.ensures c.of-sizes.ensures.valid c.of-sizes.result c.of-sizes.ensures.value
    c.in-Ok-simplify.swept c.in-Ok-simplify.ensures.swept c.in-Ok-simplify.ensures.pairs c.in-Ok-simplify.ensures.unspent c.print_counts.result c.print_counts.ensures (sym c.is_err.ensures.value ∙ c.if-is_err.false)
