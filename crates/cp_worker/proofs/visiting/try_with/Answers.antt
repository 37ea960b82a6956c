use Rattle.std.proofs.Common.{◌++◌, [], length}
use Rattle.std.proofs.lemmas.Result.{IfOk-weaker}
use Rattle.cp_hood.proofs.Going.{GoesOn-then}
use Rattle.cp_worker.specs.Visits.{notes_of, IsVisit}
use Rattle.cp_worker.specs.Posting.{IsLeft}
use Rattle.cp_worker.proofs.Commits.{visited}
use Rattle.cp_worker.proofs.visiting.try_with.Goals as goal

pub returns-in-Ok-clause-visit : goal.returns-in-Ok-clause-visit
returns-in-Ok-clause-visit g c =
    let t = c.in-Ok.ensures.tries in let k = c.visit_under.ensures.visit in
    let v = c.args.seat.now.view in let w = c.try_again.new.seat.view in (
      (notes_of t.0 ++ t.1) ++ k.0,
      k.1,
      GoesOn-then v w c.visit_under.new.seat.view (notes_of t.0 ++ t.1) k.0 [] k.1 t.2 k.2,
      visited v w c.args.x c.args.round c.args.opts.now.hood (length v.own.posts) t.0 t.1 k.0 k.1 c.in-Ok.hood c.visit_under.result t.2 t.5.0 t.3 t.4 k.3,
    )

pub returns-in-Err-clause-visit : goal.returns-in-Err-clause-visit
returns-in-Err-clause-visit g c =
    let t = c.in-Err.ensures.tries in let v = c.args.seat.now.view in (
      notes_of t.0 ++ t.1,
      [],
      t.2,
      IfOk-weaker c.left.result (IsLeft c.in-Err.answer) (IsVisit v.base v.number c.args.x c.args.round c.args.opts.now.hood (length v.own.posts) (notes_of t.0 ++ t.1) [])
          (λ a h. h v.base v.number c.args.x c.args.round c.args.opts.now.hood (length v.own.posts) t.0 t.1 t.3 t.4 t.5) c.left.ensures,
    )
