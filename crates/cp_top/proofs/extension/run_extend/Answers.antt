use Rattle.std.proofs.Common.{sym, ◌∙◌, map, string_bytes}
use Rattle.cp_words.specs.Answers.{extend_seen}
use Rattle.cp_top.proofs.WordsTaken.{extend-refused}
use Rattle.cp_top.proofs.Extending.{prints_full, prints_full_front, model-refused-bound}
use Rattle.cp_top.proofs.extension.run_extend.Goals as goal

pub returns-then-is_err-clause-written : goal.returns-then-is_err-clause-written
returns-then-is_err-clause-written g c =
    prints_full_front (g.D.Desk.port c.args.desk.now) (g.D.Desk.port c.bind_extend.new.desk) (g.D.Desk.port c.read_stack.new.desk) (g.D.Desk.port c.read_model.new.desk) (g.D.Desk.port c.print_model.new.desk)
    (extend_seen c.in-Ok.options) c.in-Ok-read_stack.stack c.in-Ok-read_model.model c.extend.new.model c.in_default.ensures c.in-Ok-read_stack.ensures c.in-Ok-read_model.ensures c.extend.ensures c.print_model.result c.print_model.ensures
    c.new.result.items c.new.ensures (sym c.is_err.ensures.value ∙ c.if-is_err.true)

pub returns-clause-written : goal.returns-clause-written
returns-clause-written g c =
    prints_full (g.D.Desk.port c.args.desk.now) (g.D.Desk.port c.bind_extend.new.desk) (g.D.Desk.port c.read_stack.new.desk) (g.D.Desk.port c.read_model.new.desk) (g.D.Desk.port c.print_model.new.desk)
    (extend_seen c.in-Ok.options) c.in-Ok-read_stack.stack c.in-Ok-read_model.model c.extend.new.model c.in_default.ensures c.in-Ok-read_stack.ensures c.in-Ok-read_model.ensures c.extend.ensures c.print_model.result c.print_model.ensures
    (sym c.is_err.ensures.value ∙ c.if-is_err.false)

pub returns-in-Err-clause-cause : goal.returns-in-Err-clause-cause
returns-in-Err-clause-cause g c = extend-refused (map string_bytes c.args.words.now) (g.D.Desk.port c.args.desk.now) (g.D.Desk.port c.args.desk.now) c.in-Err.refusal c.of_options.result c.in-Err.ensures c.of_options.ensures

pub returns-in-Err-read_model-clause-bound : goal.returns-in-Err-read_model-clause-bound
returns-in-Err-read_model-clause-bound g c =
    model-refused-bound (map string_bytes c.args.words.now) (g.D.Desk.port c.args.desk.now) (g.D.Desk.port c.bind_extend.new.desk) (g.D.Desk.port c.read_stack.new.desk) (g.D.Desk.port c.read_model.new.desk)
    (extend_seen c.in-Ok.options) c.in-Ok.ensures c.in-Ok-read_stack.stack c.in_default.ensures c.in-Ok-read_stack.ensures c.in-Err-read_model.refusal c.in-Err-read_model.ensures
