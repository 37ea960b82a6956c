use Rattle.std.proofs.Common.{length, subst, refl}
use Rattle.std.specs.Prelude.{Err}
use Rattle.cp_hood.specs.declared.answers.HoodAnswer.{HoodAnswer}
use Rattle.cp_hood.specs.Tries.{IsTry}
use Rattle.cp_worker.specs.Posting.{IsEnough}
use Rattle.cp_worker.proofs.Commits.{visit-busy, visit-wide}
use Rattle.cp_worker.proofs.visiting.left.Goals as goal

pub returns-in-Busy : goal.returns-in-Busy
returns-in-Busy c = λ f worker x in_round limit before held last all t n. let var = c.in-Busy.var in let by = c.in-Busy.by in
    let m = subst (λ (a : HoodAnswer). IsEnough (length held) (Err a)) c.in-Busy.is n in
    visit-busy f worker x in_round limit before held last m.0 all var by (m.1 var by refl) (subst (λ (a : HoodAnswer). IsTry x limit before last (Err a)) c.in-Busy.is t)

pub returns-in-Wide : goal.returns-in-Wide
returns-in-Wide c = λ f worker x in_round limit before held last all t n.
    visit-wide f worker x in_round limit before held last n.0 all c.in-Wide.count (subst (λ (a : HoodAnswer). IsTry x limit before last (Err a)) c.in-Wide.is t)
