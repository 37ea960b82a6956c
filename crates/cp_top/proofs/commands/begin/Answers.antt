use Rattle.std.proofs.Common.{map, string_bytes}
use Rattle.cp_words.specs.Answers.{simplify_seen}
use Rattle.cp_top.proofs.Refusals.{begun-bound}
use Rattle.cp_top.proofs.commands.begin.Goals as goal

pub returns-in-Err-bind_and_read-clause-bound : goal.returns-in-Err-bind_and_read-clause-bound
returns-in-Err-bind_and_read-clause-bound g c = begun-bound (map string_bytes c.args.words.now) (g.D.Desk.port c.args.desk.now) (g.D.Desk.port c.bind_and_read.new.desk) (simplify_seen c.in-Ok.options) c.in-Ok.ensures.answer c.in-Err-bind_and_read.refusal c.in-Err-bind_and_read.ensures
