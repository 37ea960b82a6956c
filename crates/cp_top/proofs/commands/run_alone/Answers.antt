use Rattle.std.proofs.Common.{map, string_bytes}
use Rattle.cp_words.specs.Answers.{simplify_seen}
use Rattle.cp_top.specs.Run.{no_workers}
use Rattle.cp_top.proofs.Refusals.{lacking-cause, lacking-written, lacking-bound}
use Rattle.cp_top.proofs.Simplify.{finished-cause, finished-written, finished-bound}
use Rattle.cp_top.proofs.commands.run_alone.Goals as goal

pub returns-in-Err-clause-written : goal.returns-in-Err-clause-written
returns-in-Err-clause-written g c = c.in-Err.ensures.written no_workers

pub returns-in_default-clause-cause : goal.returns-in_default-clause-cause
returns-in_default-clause-cause g c = lacking-cause (map string_bytes c.args.words.now) (g.D.Desk.port c.args.desk.now) (g.D.Desk.port c.begin.new.desk) (simplify_seen c.in-Ok.begun.0) c.in-Ok.ensures.begun.0

pub returns-in_default-clause-written : goal.returns-in_default-clause-written
returns-in_default-clause-written g c = lacking-written (map string_bytes c.args.words.now) (g.D.Desk.port c.args.desk.now) (g.D.Desk.port c.begin.new.desk) (simplify_seen c.in-Ok.begun.0) c.in-Ok.ensures.begun.0 no_workers c.in-Ok.begun.1 c.in-Ok.ensures.begun.1

pub returns-in_default-clause-bound : goal.returns-in_default-clause-bound
returns-in_default-clause-bound g c = lacking-bound (map string_bytes c.args.words.now) (g.D.Desk.port c.args.desk.now) (g.D.Desk.port c.begin.new.desk) (simplify_seen c.in-Ok.begun.0) c.in-Ok.ensures.begun.0 c.in-Ok.begun.1 c.in-Ok.ensures.begun.1

pub returns-clause-cause : goal.returns-clause-cause
returns-clause-cause g c =
    finished-cause no_workers (map string_bytes c.args.words.now) (g.D.Desk.port c.args.desk.now) (g.D.Desk.port c.begin.new.desk) (g.D.Desk.port c.finish.new.desk) (simplify_seen c.in-Ok.begun.0) c.in-Ok.ensures.begun.0
    c.in-Ok.begun.1 c.in-Ok.ensures.begun.1 c.of-sizes.result c.of-sizes.ensures.value c.in-Ok-simplify_alone.simplified c.in-Ok-simplify_alone.ensures c.finish.result c.finish.ensures.outcome

pub returns-clause-written : goal.returns-clause-written
returns-clause-written g c =
    finished-written no_workers (map string_bytes c.args.words.now) (g.D.Desk.port c.args.desk.now) (g.D.Desk.port c.begin.new.desk) (g.D.Desk.port c.finish.new.desk) (simplify_seen c.in-Ok.begun.0) c.in-Ok.ensures.begun.0
    c.in-Ok.begun.1 c.in-Ok.ensures.begun.1 c.of-sizes.result c.of-sizes.ensures.value c.in-Ok-simplify_alone.simplified c.in-Ok-simplify_alone.ensures c.finish.result c.finish.ensures.outcome

pub returns-clause-bound : goal.returns-clause-bound
returns-clause-bound g c =
    finished-bound no_workers (map string_bytes c.args.words.now) (g.D.Desk.port c.args.desk.now) (g.D.Desk.port c.begin.new.desk) (g.D.Desk.port c.finish.new.desk) (simplify_seen c.in-Ok.begun.0) c.in-Ok.ensures.begun.0
    c.in-Ok.begun.1 c.in-Ok.ensures.begun.1 c.of-sizes.result c.of-sizes.ensures.value c.in-Ok-simplify_alone.simplified c.in-Ok-simplify_alone.ensures c.finish.result c.finish.ensures.outcome
