use Rattle.std.proofs.Common.{◌≡◌, ◌+◌, ◌++◌, ◌∷◌, [], ◌∙◌, length, take, sym, ap, subst, ℕ, Option, Some}
use Rattle.std.specs.Prelude.{SomeIff}
use Rattle.cp_logic.specs.declared.named.Named.{Named}
use Rattle.cp_logic.specs.Lists.{Roomy}
use Rattle.cp_logic.specs.Literals.{positive, negative}
use Rattle.cp_logic.specs.Clauses.{contains, is_tautology, resolvent}
use Rattle.cp_logic.specs.Entries.{numbered_from}
use Rattle.cp_logic.proofs.LiteralFacts.{negated-positive}
use Rattle.cp_logic.specs.Resolvents.{resolvents_by}
use Rattle.cp_occ.specs.Against.{AgainstView}
use Rattle.cp_eliminate.proofs.Pairs.{take-item, resolvent-more, tautology-more}
use Rattle.cp_eliminate.proofs.resolvents.add_resolvents.Goals as goal
use Rattle.cp_eliminate.proofs.resolvents.add_resolvents.Goals.{then-not-resolves_to_tautology+in_ok-number+in_ok-built+in_ok-push, else-not-resolves_to_tautology}

-- the sum that a checked addition gives
is_sum : (o : Option ℕ) (P : Type 0) (v n : ℕ) → SomeIff o P v → o ≡ Some n → n ≡ v
is_sum o P v n h e = (subst (λ p. SomeIff p P v) e h).1

pub resolve-requires-clause-other_has : goal.resolve-requires-clause-other_has
resolve-requires-clause-other_has c =
    ap (contains c.clause-other.result.now) (negated-positive c.args.var)
    ∙ ap (λ ls. contains ls (negative c.args.var)) c.clause-other.ensures
    ∙ ap (λ (d : Named). contains d.clause (negative c.args.var)) c.second-item.is
    ∙ c.requires.others_have c.loop-second.second-index c.second-item.result c.loop-second-test.true

pub loop-second-preserved : goal.loop-second-preserved
loop-second-preserved c =
    let old = c.args.new.now.items in let so_far = take c.loop-second.second-index c.args.neg.now in
    let clause = c.args.first.now.clause in let l = positive c.args.var in let d = c.second-item.result in
    let next_one = ap (λ ds. old ++ numbered_from (c.args.next + length old) (resolvents_by l clause ds)) (sym (take-item c.args.neg.now c.loop-second.second-index d c.loop-second-test.true c.second-item.is)) in
    let test = c.resolves_to_tautology.ensures.value ∙ ap (λ (a : AgainstView). is_tautology (resolvent a.literal a.clause c.occurrence-in-loop-second.result.now.clause)) c.loop-second.invariant.same
    ∙ ap (λ (n : Named). is_tautology (resolvent l clause n.clause)) c.occurrence-in-loop-second.ensures in
    record {
      same = c.resolves_to_tautology.ensures.same ∙ c.loop-second.invariant.same;
      added =
          elim c.if-not-resolves_to_tautology.branch [
            | then-not-resolves_to_tautology+in_ok-number+in_ok-built+in_ok-push w ↦
                let k = is_sum w.checked_add.result _ (c.args.next + w.len.result) w.in_ok-number.number w.checked_add.ensures w.in_ok-number.ensures.ok_part ∙ ap (λ n. c.args.next + n) w.len.ensures in
                ap (λ (r : Roomy Named). r.items) w.new-is ∙ w.in_ok-push.ensures.ok
                ∙ ap (λ ls. c.loop-second.new.items ++ (let one : Named = record { number = w.in_ok-number.number; clause = ls } in one) ∷ []) (w.in_ok-built.ensures ∙ ap (λ ls. resolvent l ls c.clause-other.result.now) c.clause-clause.ensures ∙ ap (resolvent l clause) c.clause-other.ensures)
                ∙ resolvent-more c.args.next l clause so_far d old c.loop-second.new.items w.in_ok-number.number c.loop-second.invariant.added (sym test ∙ w.if-not-resolves_to_tautology.true) k
                ∙ next_one
            | else-not-resolves_to_tautology w ↦
                ap (λ (r : Roomy Named). r.items) w.new-is
                ∙ tautology-more c.args.next l clause so_far d old c.loop-second.new.items c.loop-second.invariant.added (sym test ∙ w.if-not-resolves_to_tautology.false)
                ∙ next_one
          ];
    }
