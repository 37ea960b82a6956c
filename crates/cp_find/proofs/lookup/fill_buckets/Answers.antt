use Rattle.std.proofs.Common.{List, subst, inl, inr, arith}
use Rattle.std.specs.List.{Contains}
use Rattle.std.specs.Prelude.{◌⊎◌}
use Rattle.cp_logic.specs.declared.named.Named.{Named}
use Rattle.cp_logic.proofs.Members.{none_in}
use Rattle.cp_find.specs.Lookups.{AreListed, signed}
use Rattle.cp_find.proofs.Lookups.{entered-next}
use Rattle.cp_find.proofs.lookup.fill_buckets.Goals as goal

pub loop-clause-preserved : goal.loop-clause-preserved
loop-clause-preserved c =
    let x = c.args.cell.now.variable in let n : Named = c.in-Some.clause.now in
    let old = c.loop-clause.buckets.items in let new = c.enter.new.buckets.items in
    let len = c.in_ok-enter.ensures.len in
    record {
      len = omega (arith, c.loop-clause.invariant.len, len);
      entered = λ d i. entered-next x c.args.count old new n c.next.new.self d c.requires c.loop-clause.invariant.len c.in_ok-enter.ensures.kept
          (subst (λ y. AreListed y c.args.count new n.clause (signed n)) c.var-var.ensures.value c.in_ok-enter.ensures.entered)
          (subst (λ (left : List Named). (Contains left d) ⊎ (AreListed x c.args.count old d.clause (signed d))) c.in-Some.ensures.steps (c.loop-clause.invariant.entered d i));
    }

pub returns-clause-covers : goal.returns-clause-covers
returns-clause-covers c = λ d i p. elim (c.loop-clause.invariant.entered d i) [
  | inl j ↦ absurd (none_in d (subst (λ (left : List Named). Contains left d) c.in-None.ensures.steps.0 j))
  | inr a ↦ a
]
