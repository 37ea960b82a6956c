use Rattle.std.proofs.lemmas.Result.{err_from_is_err_and, on_ok_weaker}
use Rattle.cp_worker.specs.Listing.{IsListing}
use Rattle.cp_worker.proofs.working.visit.Goals as goal

pub returns-in_err-answer-clause-visit : goal.returns-in_err-answer-clause-visit
returns-in_err-answer-clause-visit g c =
    let k = c.in_err-answer.ensures.visit in
    let p = err_from_is_err_and c.from_residual.result c.from_residual.ensures.1 in
    rw p.1 (k.0, k.1, k.2, tt)

pub returns-clause-visit : goal.returns-clause-visit
returns-clause-visit g c =
    let k = c.in_ok-answer.ensures.visit in
    (k.0, k.1, k.2, on_ok_weaker c.list.result (λ (h : IsListing c.args.candidate c.in_ok-answer.answer c.args.shift.now c.list.new.self). (c.in_ok-answer.answer, k.3, h)) c.list.ensures.listing)
