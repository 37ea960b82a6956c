use Rattle.cp_hood.proofs.Going.{GoesOn-back}
use Rattle.cp_worker.proofs.visiting.visit_under.Goals as goal

pub returns-clause-visit : goal.returns-clause-visit
returns-clause-visit g c =
    let k = c.commit_unless_silent-answer.ensures.visit in
    (k.0, k.1, GoesOn-back c.args.seat.now.view c.commit_unless_silent-answer.new.seat.view c.release.new.seat.view k.0 k.1 k.2 c.release.ensures.same, k.3)
