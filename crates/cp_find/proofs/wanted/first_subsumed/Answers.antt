use Rattle.std.proofs.Common.{◌≡◌, ◌∙◌, Some, false, cond, not, sym, ap}
use Rattle.std.specs.Prelude.{◌==◌}
use Rattle.std.proofs.lemmas.Bool.{and_parts, false≢true, false_from_ne_true}
use Rattle.cp_logic.specs.Clauses.{is_subset}
use Rattle.std.specs.List.{find}
use Rattle.cp_logic.proofs.ListFacts.{find-here}
use Rattle.cp_find.specs.Finds.{subsumes}
use Rattle.cp_find.proofs.wanted.first_subsumed.Goals as goal

pub returns-then-subsumes : goal.returns-then-subsumes
returns-then-subsumes c =
    sym (sym c.loop-other.invariant ∙ find-here (subsumes c.args.by.now) c.loop-other.other-iterator c.in-Some.other.now c.next.new.self c.in-Some.ensures.steps (sym c.subsumes.ensures ∙ c.if-subsumes.true))

pub returns : goal.returns
returns c = sym (sym c.loop-other.invariant ∙ ap (find (subsumes c.args.by.now)) c.in-None.ensures.steps.0)

pub loop-other-preserved-then-not-may_subsume : goal.loop-other-preserved-then-not-may_subsume
loop-other-preserved-then-not-may_subsume c =
    let by = c.args.by.now in let other = c.in-Some.other.now in
    let none : subsumes by other ≡ false =
    false_from_ne_true (subsumes by other) (λ t. false≢true (sym c.if-not-may_subsume.true
    ∙ c.may_subsume.ensures (and_parts (not (by.number == other.number)) (is_subset by.clause other.clause) t).1)) in
    sym (ap (find (subsumes by)) c.in-Some.ensures.steps ∙ ap (λ b. cond b (Some other) (find (subsumes by) c.next.new.self)) none) ∙ c.loop-other.invariant
