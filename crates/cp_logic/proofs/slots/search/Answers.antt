use Rattle.std.proofs.Common.{◌<◌, ◌≤◌, ◌+◌, ◌-◌, ◌/◌, length, ap, subst, ◌∙◌, arith}
use Rattle.cp_logic.specs.Slots.{Slot}
use Rattle.cp_logic.proofs.SlotFacts.{narrows-up, narrows-down, narrows-splits, read-slot}
use Rattle.cp_logic.proofs.slots.search.Goals as goal

pub loop-low-preserved-then-number : goal.loop-low-preserved-then-number
loop-low-preserved-then-number c =
    let middle = c.loop-low.low + (c.loop-low.high - c.loop-low.low) / 2 in
    let below : middle < c.loop-low.high = omega arith in
    let top : c.loop-low.high ≤ length c.args.slots.now = c.loop-low.invariant.high_le in
    narrows-up c.args.slots.now c.args.number c.loop-low.low c.loop-low.high middle c.index-slots-middle.result c.requires c.loop-low.invariant below (omega arith)
    (λ d. read-slot (λ (s : Slot). s.number < c.args.number) c.args.slots.now middle c.index-slots-middle.result d (omega arith) c.index-slots-middle.is (subst (λ n. n < c.args.number) (c.number.ensures.value ∙ ap (λ (s : Slot). s.number) c.index-slots-middle.is) c.if-number.true))

pub loop-low-preserved : goal.loop-low-preserved
loop-low-preserved c =
    let middle = c.loop-low.low + (c.loop-low.high - c.loop-low.low) / 2 in
    let below : middle < c.loop-low.high = omega arith in
    let top : c.loop-low.high ≤ length c.args.slots.now = c.loop-low.invariant.high_le in
    narrows-down c.args.slots.now c.args.number c.loop-low.low c.loop-low.high middle c.requires c.loop-low.invariant below (omega arith)
    (λ d. read-slot (λ (s : Slot). c.args.number ≤ s.number) c.args.slots.now middle c.index-slots-middle.result d (omega arith) c.index-slots-middle.is (subst (λ n. c.args.number ≤ n) (c.number.ensures.value ∙ ap (λ (s : Slot). s.number) c.index-slots-middle.is) c.if-number.false))

pub returns : goal.returns
returns c = narrows-splits c.args.slots.now c.args.number c.loop-low.low c.loop-low.high c.loop-low.invariant c.loop-low-test.false
