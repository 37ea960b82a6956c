use Rattle.std.proofs.Common.{◌≡◌, ◌∙◌, Some, false, cond, sym, ap}
use Rattle.std.proofs.lemmas.Bool.{false≢true, false_from_ne_true}
use Rattle.cp_logic.specs.Literals.{negated}
use Rattle.cp_logic.specs.Clauses.{contains, is_subset, without}
use Rattle.cp_find.proofs.Turned.{strengthened-has}
use Rattle.std.specs.List.{find}
use Rattle.cp_logic.proofs.ListFacts.{find-here}
use Rattle.cp_find.specs.Finds.{strengthens}
use Rattle.cp_find.proofs.wanted.first_strengthened.Goals as goal

pub returns-then-strengthens : goal.returns-then-strengthens
returns-then-strengthens c =
    sym (sym c.loop-other.invariant ∙ find-here (strengthens c.args.lit c.args.by.now) c.loop-other.other-iterator c.in-Some.other.now c.next.new.self c.in-Some.ensures.steps (sym c.strengthens.ensures ∙ c.if-strengthens.true))

pub returns : goal.returns
returns c = sym (sym c.loop-other.invariant ∙ ap (find (strengthens c.args.lit c.args.by.now)) c.in-None.ensures.steps.0)

pub loop-other-preserved-then-not-may_strengthen : goal.loop-other-preserved-then-not-may_strengthen
loop-other-preserved-then-not-may_strengthen c =
    let by = c.args.by.now in let other = c.in-Some.other.now in let lit = c.args.lit in
    let none : strengthens lit by other ≡ false =
    false_from_ne_true (strengthens lit by other) (λ t.
    let p = strengthened-has by other lit c.requires t in
    false≢true (sym c.if-not-may_strengthen.true
    ∙ c.may_strengthen.ensures (ap (λ m. contains other.clause (negated m)) c.negated.ensures ∙ p.0) (ap (λ m. is_subset (without by.clause m) other.clause) c.negated.ensures ∙ p.1))) in
    sym (ap (find (strengthens lit by)) c.in-Some.ensures.steps ∙ ap (λ b. cond b (Some other) (find (strengthens lit by) c.next.new.self)) none) ∙ c.loop-other.invariant
