use Rattle.std.proofs.Common.{refl, sym, subst}
use Rattle.cp_logic.specs.declared.stop.Stop.{Stop}
use Rattle.cp_logic.specs.declared.stop.Stop.TheVariants.{Spent, Numbers, Refuted}
use Rattle.cp_hood.specs.declared.answers.CommitAnswer.{CommitAnswer}
use Rattle.cp_worker.specs.declared.answer.AtAnswer.TheVariants.{TurnHeld, Stopped}
use Rattle.cp_worker.specs.Posting.{IsCauseOf}
use Rattle.cp_worker.proofs.Commits.{caused-late, caused-refuted, caused-spent, caused-numbers}
use Rattle.cp_worker.proofs.visiting.refused.Goals as goal
use Rattle.cp_worker.proofs.visiting.refused.Goals.{in-Refuted, in-Spent, in-Numbers}

pub returns-in-TurnHeld : goal.returns-in-TurnHeld
returns-in-TurnHeld c = let by = c.in-TurnHeld.by in let commits = c.args.commits in
    (refl, subst (λ (a : CommitAnswer). IsCauseOf a (TurnHeld by commits)) (sym c.in-TurnHeld.is) (caused-late by commits))

pub returns : goal.returns
returns c = let commits = c.args.commits in (
  refl,
  elim c.match-answer.branch [
    | in-Refuted w ↦ subst (λ (s : Stop). IsCauseOf c.args.answer (Stopped s commits)) (sym w.stop-is)
        (subst (λ (a : CommitAnswer). IsCauseOf a (Stopped Refuted commits)) (sym w.in-Refuted.is) (caused-refuted w.in-Refuted.empty commits))
    | in-Spent w ↦ subst (λ (s : Stop). IsCauseOf c.args.answer (Stopped s commits)) (sym w.stop-is)
        (subst (λ (a : CommitAnswer). IsCauseOf a (Stopped Spent commits)) (sym w.in-Spent.is) (caused-spent w.in-Spent.len commits))
    | in-Numbers w ↦ subst (λ (s : Stop). IsCauseOf c.args.answer (Stopped s commits)) (sym w.stop-is)
        (subst (λ (a : CommitAnswer). IsCauseOf a (Stopped Numbers commits)) (sym w.in-Numbers.is) (caused-numbers w.in-Numbers.next commits))
  ],
)
