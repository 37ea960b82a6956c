use Rattle.std.proofs.Common.{◌≡◌, ◌∙◌, ap, sym}
use Rattle.cp_logic.specs.Slots.{Slot}
use Rattle.cp_logic.proofs.SlotFacts.{splits-at, read-slot}
use Rattle.cp_logic.proofs.slots.spot.Goals as goal

pub returns-then-number : goal.returns-then-number
returns-then-number c =
    splits-at c.args.slots.now c.args.number _ c.requires c.if-guess-slots.true
    (λ d. read-slot (λ (s : Slot). s.number ≡ c.args.number) c.args.slots.now _ c.index-slots-guess.result d c.if-guess-slots.true c.index-slots-guess.is (ap (λ (s : Slot). s.number) (sym c.index-slots-guess.is) ∙ (sym c.number-then-guess-slots.ensures.value ∙ c.if-number.true)))
