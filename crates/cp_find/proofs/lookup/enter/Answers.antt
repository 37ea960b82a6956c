use Rattle.std.proofs.Common.{◌≡◌, ◌≤◌, ◌<◌, ℕ, List, length, take, get_or, slice_index_or, sym, ◌∙◌, subst, arith}
use Rattle.std.specs.List.{Contains}
use Rattle.std.proofs.lemmas.List.{take_all}
use Rattle.cp_find.specs.declared.lookup.Signed.{Signed}
use Rattle.cp_find.specs.Lookups.{AreListed, place}
use Rattle.cp_find.proofs.Lookups.{take-item, listed-more}
use Rattle.cp_find.proofs.lookup.enter.Goals as goal

pub loop-lit-preserved : goal.loop-lit-preserved
loop-lit-preserved c =
    let old = c.loop-lit.buckets.items in let new = c.enter_at.new.buckets.items in
    let clause : List ℕ = c.args.clause.now.clause in let lit : ℕ = c.lit-item.result in let i = c.loop-lit.lit-index in
    let len = c.loop-lit.invariant.len in
    let within : c.args.count ≤ length old = omega (arith, c.requires.within, len) in
    let lits : c.lits-lit-items.result.now ≡ clause = c.lits-lit-items.ensures.value ∙ c.clause.ensures in
    record {
      len = c.in_ok-enter_at.ensures.len ∙ len;
      kept = λ j d e l h. c.in_ok-enter_at.ensures.kept j d e (omega (arith, l, len)) (c.loop-lit.invariant.kept j d e l h);
      entered = subst (λ (ls : List ℕ). AreListed c.args.var c.args.count new ls c.of-entry.result)
          (sym (take-item clause i lit (subst (λ (z : List ℕ). i < length z) lits c.loop-lit-test.true) (subst (λ (z : List ℕ). lit ≡ get_or z i lit) lits c.lit-item.is)))
          (listed-more c.args.var c.args.count old new (take i clause) lit c.of-entry.result c.requires.some within c.in_ok-enter_at.ensures.kept c.in_ok-enter_at.ensures.entered
          c.loop-lit.invariant.entered);
    }

pub returns-clause-entered : goal.returns-clause-entered
returns-clause-entered c = λ l d i n.
    let clause : List ℕ = c.args.clause.now.clause in let end = c.loop-lit-test.false in
    let done : length clause ≤ c.loop-lit.lit-index = subst (λ (z : List ℕ). length z ≤ c.loop-lit.lit-index) (c.lits-lit-items.ensures.value ∙ c.clause.ensures) end in
    subst (λ (e : Signed). Contains (slice_index_or c.loop-lit.buckets.items (place l c.args.count) d) e) c.of-entry.ensures
    (c.loop-lit.invariant.entered l d (subst (λ (z : List ℕ). Contains z l) (sym (take_all c.loop-lit.lit-index clause done)) i) n)
