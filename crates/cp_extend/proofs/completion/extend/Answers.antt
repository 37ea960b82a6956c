use Rattle.std.proofs.Common.{◌≡◌, ◌≤◌, ◌∷◌, [], ◌++◌, List, length, map, Some, sym, ◌∙◌, ap, arith}
use Rattle.std.proofs.lemmas.List.Elements.{All-pop}
use Rattle.cp_logic.specs.declared.pairs.Pair.{Pair}
use Rattle.cp_logic.specs.Assignments.{completed}
use Rattle.cp_logic.specs.Formulas.{IsWithin}
use Rattle.cp_logic.specs.Pairs.{pair_of}
use Rattle.cp_logic.proofs.Filling.{within-more}
use Rattle.cp_extend.proofs.Completions.{completed-last}
use Rattle.cp_extend.proofs.completion.extend.Goals as goal

pub repair-requires : goal.repair-requires
repair-requires c =
    let s = c.args.stack.now in
    let pair = c.in-Some.pair.now in
    let parts = All-pop (λ (p : Pair). IsWithin s.vars p.clause) c.loop-pair.left.now c.in-Some.before.now (Some pair) c.in-Some.ensures.cases.0 c.loop-pair.invariant.within in
    let more : s.vars ≤ length c.loop-pair.model = omega (arith, c.requires, c.loop-pair.invariant.len) in
    within-more s.vars (length c.loop-pair.model) pair.clause more parts.1

pub loop-pair-preserved : goal.loop-pair-preserved
loop-pair-preserved c =
    let s = c.args.stack.now in
    let pair = c.in-Some.pair.now in
    let before = c.in-Some.before.now in
    let last : c.loop-pair.left.now ≡ before ++ pair ∷ [] = c.in-Some.ensures.cases.0 in
    let parts = All-pop (λ (p : Pair). IsWithin s.vars p.clause) c.loop-pair.left.now before (Some pair) last c.loop-pair.invariant.within in
    record {
      len = c.repair.ensures.len ∙ c.loop-pair.invariant.len;
      within = parts.0;
      completed = ap (λ v. completed v (map pair_of before)) c.repair.ensures.value ∙ sym (completed-last c.loop-pair.model before pair)
          ∙ ap (λ (ps : List Pair). completed c.loop-pair.model (map pair_of ps)) (sym last) ∙ c.loop-pair.invariant.completed;
    }
