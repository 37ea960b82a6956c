use Rattle.std.proofs.Common.{◌≡◌, ◌<◌, ◌∙◌, ap, sym, subst, List, length, set, Some, arith}
use Rattle.std.specs.Prelude.{◌≢◌}
use Rattle.cp_logic.specs.Slots.{Slot}
use Rattle.cp_logic.specs.Slots.{Splits, IsFilled}
use Rattle.cp_logic.proofs.SlotFacts.{read-slot}
use Rattle.cp_logic.proofs.Filling.{filled-new, filled-empty}
use Rattle.cp_logic.proofs.slots.fill.Goals as goal
use Rattle.cp_logic.proofs.slots.fill.Goals.{else-at-len-via-then-at-len+else-number, else-at-len-via-else-at-len}

pub returns-then-number-clause-ok : goal.returns-then-number-clause-ok
returns-then-number-clause-ok c =
    let h : c.spot-at.result < length c.args.slots.now.items = omega (arith, c.if-at-len.true, c.len.ensures) in
    subst (IsFilled c.args.slots.now.items c.args.number c.args.clause)
    (ap (λ (s : Slot). set c.args.slots.now.items c.spot-at.result (record { number = s.number; clause = Some c.args.clause })) (sym c.index_mut.ensures.value)
    ∙ ap (set c.args.slots.now.items c.spot-at.result) (sym c.fill.ensures))
    (filled-empty c.args.slots.now.items c.spot-at.result c.args.number c.index_mut.result.now c.args.clause c.requires.rising h
    (read-slot (λ (s : Slot). s.number ≡ c.args.number) c.args.slots.now.items c.spot-at.result c.index.result.now c.index_mut.result.now h c.index.ensures
    (ap (λ (s : Slot). s.number) (sym c.index.ensures) ∙ (sym c.number.ensures.value ∙ c.if-number.true))) c.requires.free)

pub returns-clause-ok : goal.returns-clause-ok
returns-clause-ok c =
    let splits = subst (λ (xs : List Slot). Splits xs c.args.number c.spot-at.result) c.as_slice.ensures.value c.spot-at.ensures in
    rw (c.in_ok-insert.ensures.items, c.new.ensures)
    (filled-new c.args.number c.args.clause c.args.slots.now.items c.spot-at.result c.requires.rising splits
    (λ d h. elim c.else-at-len.branch [
      | else-at-len-via-then-at-len+else-number w ↦
          read-slot (λ (s : Slot). s.number ≢ c.args.number) c.args.slots.now.items c.spot-at.result w.index.result.now d h w.index.ensures
          (λ e. w.if-number.false (w.number.ensures.value ∙ ap (λ (s : Slot). s.number) w.index.ensures ∙ e))
      | else-at-len-via-else-at-len w ↦ absurd (omega (arith, c.len.ensures))
    ]))
