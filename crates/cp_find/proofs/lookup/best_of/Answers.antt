use Rattle.std.proofs.Common.{List, take, bit_and, not, sym, ◌∙◌, ap, subst}
use Rattle.std.specs.Prelude.{◌==◌}
use Rattle.std.proofs.lemmas.Bool.{and_parts}
use Rattle.std.specs.Option.{option_map}
use Rattle.std.proofs.lemmas.List.{take_more}
use Rattle.cp_logic.specs.Clauses.{is_subset}
use Rattle.cp_find.specs.declared.lookup.Signed.{Signed}
use Rattle.cp_find.specs.Lookups.{IsBest}
use Rattle.cp_find.proofs.Lookups.{best-passed}
use Rattle.cp_find.proofs.lookup.best_of.Goals as goal
use Rattle.cp_find.proofs.lookup.best_of.Goals.{then-bits-candidate, else-bits-candidate}

pub loop-candidate-preserved : goal.loop-candidate-preserved
loop-candidate-preserved c =
    let wanted = c.args.wanted.now.sought in
    let cs = c.args.cell.now.clauses in let before = take c.loop-candidate.candidate-index c.args.candidates.now in
    let more = sym (take_more c.args.candidates.now c.loop-candidate.candidate-index _ c.loop-candidate-test.true) in
    elim c.if-bits-candidate.branch [
      | then-bits-candidate w ↦ rw w.best-is
          (subst (λ (list : List Signed). IsBest wanted cs c.args.from list (option_map (λ o. o.now) w.better-best.result)) more
          (w.better-best.ensures before c.loop-candidate.invariant))
      | else-bits-candidate w ↦ rw w.best-is
          (subst (λ (list : List Signed). IsBest wanted cs c.args.from list (option_map (λ o. o.now) c.loop-candidate.best)) more
          (best-passed wanted cs c.args.from before _ (option_map (λ o. o.now) c.loop-candidate.best) c.loop-candidate.invariant
          (λ d m a e. absurd (w.if-bits-candidate.false (ap (λ (s : Signed). bit_and c.bits-bits.result s.bits) e
          ∙ c.bits-bits.ensures d.clause (and_parts (not (wanted.number == d.number)) (is_subset wanted.clause d.clause) m.subsumed).1)))))
    ]
