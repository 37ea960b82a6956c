use Rattle.std.proofs.Common.{◌≡◌, ◌∙◌, None, sym, ap}
use Rattle.cp_logic.specs.Legality.{first_in}
use Rattle.cp_yard.specs.Views.{Base}
use Rattle.cp_hood.specs.Hoods.{centre_clauses}
use Rattle.cp_worker.proofs.Centres.{found-at}
use Rattle.cp_worker.proofs.Commits.{begins, settles}
use Rattle.cp_worker.proofs.visiting.commit_unless_silent.Goals as goal

pub returns-then-is_silent-clause-visit : goal.returns-then-is_silent-clause-visit
returns-then-is_silent-clause-visit c =
    let v = c.args.seat.now.view in let h = c.args.hood.now in
    let way = begins v h.centre c.args.round (centre_clauses h) c.new-commits.result.items c.new-commits.ensures in
    let none : first_in (centre_clauses h) v.base.rules 1 h.centre ≡ None =
    found-at h c.centre.result.now c.args.rules.now v.base.rules None c.centre.ensures.variable c.centre.ensures.clauses
    (c.requires.rules ∙ sym (ap (λ (f : Base). f.rules) c.requires.base)) (sym (c.is_silent.ensures c.if-is_silent.true 1)) in
    (way.noted, way.posted, way.goes, settles v v h.centre c.args.round (centre_clauses h) (centre_clauses h) c.new-commits.result way none)
