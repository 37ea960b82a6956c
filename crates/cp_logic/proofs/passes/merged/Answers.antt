use Rattle.std.proofs.Common.{◌≡◌, ◌<◌, ◌+◌, ◌++◌, ◌∷◌, [], ◌∙◌, ℕ, List, get_or, sym, ap, subst, arith}
use Rattle.cp_logic.proofs.Merges.{Merging, merge-none, merge-all, merge-left_pivot, merge-right_pivot, merge-both, merge-left, merge-right, within-read, read_same}
use Rattle.cp_logic.proofs.passes.merged.Goals as goal
use Rattle.cp_logic.proofs.passes.merged.Goals.{then-i-left, else-i-left+then-j-right}

-- the literal that was read and pushed
pushed : (pivot : ℕ) (left right xs : List ℕ) (i j k x : ℕ) (done new : List ℕ) → get_or xs k 4000002 < 4000002 → x ≡ get_or xs k x → new ≡ done ++ x ∷ []
    → Merging pivot left right i j (done ++ get_or xs k 4000002 ∷ []) → Merging pivot left right i j new
pushed pivot left right xs i j k x done new l e n g =
    subst (Merging pivot left right i j) (ap (λ z. done ++ z ∷ []) (sym (e ∙ read_same xs k x 4000002 (within-read xs k 4000002 l))) ∙ sym n) g

pub loop-i-init : goal.loop-i-init
loop-i-init c = rw c.new-all.ensures.items (merge-none c.args.pivot c.args.left.now c.args.right.now)

pub loop-i-preserved-then-first-positive : goal.loop-i-preserved-then-first-positive
loop-i-preserved-then-first-positive c =
    merge-left_pivot c.args.pivot c.args.left.now c.args.right.now c.loop-i.i c.loop-i.j 4000002 c.loop-i.all.items c.requires.left c.requires.right c.loop-i.invariant
    (sym c.code_at-first.ensures.value ∙ c.if-first-positive.true ∙ c.code-positive.ensures.value)
    (omega (arith, c.code_at-first.ensures.value, c.if-first-positive.true, c.code-positive.ensures.high))

pub loop-i-preserved-then-second-negative : goal.loop-i-preserved-then-second-negative
loop-i-preserved-then-second-negative c =
    merge-right_pivot c.args.pivot c.args.left.now c.args.right.now c.loop-i.i c.loop-i.j 4000002 c.loop-i.all.items c.requires.left c.requires.right c.loop-i.invariant
    (sym c.code_at-second.ensures.value ∙ c.if-second-negative.true ∙ c.code-negative.ensures.value ∙ c.negated.ensures)
    (omega (arith, c.code_at-second.ensures.value, c.if-second-negative.true, c.code-negative.ensures.high))

pub loop-i-preserved-then-first-second : goal.loop-i-preserved-then-first-second
loop-i-preserved-then-first-second c =
    let below : get_or c.args.left.now c.loop-i.i 4000002 < 4000002 =
    elim c.if-i-left.branch [
      | then-i-left w ↦ let l : c.code_at-first.result < 4000002 = c.code_at-first.ensures.low w.if-i-left.true in omega (arith, c.code_at-first.ensures.value)
      | else-i-left+then-j-right w ↦
          let l : c.code_at-second.result < 4000002 = c.code_at-second.ensures.low w.if-j-right.true in omega (arith, c.code_at-first.ensures.value, c.if-first-second.true)
    ] in
    pushed c.args.pivot c.args.left.now c.args.right.now c.args.left.now (c.loop-i.i + 1) (c.loop-i.j + 1) c.loop-i.i c.index-left-i.result c.loop-i.all.items c.push.new.self.items below c.index-left-i.is
    c.in_ok-push.ensures.ok
    (merge-both c.args.pivot c.args.left.now c.args.right.now c.loop-i.i c.loop-i.j 4000002 c.loop-i.all.items c.requires.left c.requires.right c.loop-i.invariant
    (λ e. c.if-first-positive.false (c.code_at-first.ensures.value ∙ e ∙ sym c.code-positive.ensures.value))
    (λ e. c.if-second-negative.false (c.code_at-second.ensures.value ∙ e ∙ sym c.negated.ensures ∙ sym c.code-negative.ensures.value))
    (sym c.code_at-first.ensures.value ∙ c.if-first-second.true ∙ c.code_at-second.ensures.value) below)

pub loop-i-preserved-then-first-second-2 : goal.loop-i-preserved-then-first-second-2
loop-i-preserved-then-first-second-2 c =
    let below : get_or c.args.left.now c.loop-i.i 4000002 < 4000002 = omega (arith, c.code_at-first.ensures.value, c.if-first-second-2.true, c.code_at-second.ensures.high) in
    pushed c.args.pivot c.args.left.now c.args.right.now c.args.left.now (c.loop-i.i + 1) c.loop-i.j c.loop-i.i c.index-left-i-then-first-second-2.result c.loop-i.all.items
    c.push-then-first-second-2.new.self.items below c.index-left-i-then-first-second-2.is c.in_ok-push-2.ensures.ok
    (merge-left c.args.pivot c.args.left.now c.args.right.now c.loop-i.i c.loop-i.j 4000002 c.loop-i.all.items c.requires.left c.requires.right c.loop-i.invariant
    (λ e. c.if-first-positive.false (c.code_at-first.ensures.value ∙ e ∙ sym c.code-positive.ensures.value))
    (omega (arith, c.code_at-first.ensures.value, c.code_at-second.ensures.value, c.if-first-second-2.true)) below)

pub loop-i-preserved : goal.loop-i-preserved
loop-i-preserved c =
    let other : c.code_at-first.result ≡ c.code_at-second.result → ⊥ = c.if-first-second.false in
    let below : get_or c.args.right.now c.loop-i.j 4000002 < 4000002 = omega (arith, other, c.code_at-second.ensures.value, c.if-first-second-2.false, c.code_at-first.ensures.high) in
    pushed c.args.pivot c.args.left.now c.args.right.now c.args.right.now c.loop-i.i (c.loop-i.j + 1) c.loop-i.j c.index-right-j.result c.loop-i.all.items
    c.push-else-first-second-2.new.self.items below c.index-right-j.is c.in_ok-push-3.ensures.ok
    (merge-right c.args.pivot c.args.left.now c.args.right.now c.loop-i.i c.loop-i.j 4000002 c.loop-i.all.items c.requires.left c.requires.right c.loop-i.invariant
    (λ e. c.if-second-negative.false (c.code_at-second.ensures.value ∙ e ∙ sym c.negated.ensures ∙ sym c.code-negative.ensures.value))
    (omega (arith, other, c.code_at-first.ensures.value, c.code_at-second.ensures.value, c.if-first-second-2.false)) below)

pub returns : goal.returns
returns c = merge-all c.args.pivot c.args.left.now c.args.right.now c.loop-i.i c.loop-i.j c.loop-i.all.items c.loop-i.invariant (omega arith) (omega arith)
