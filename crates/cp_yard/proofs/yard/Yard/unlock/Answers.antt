use Rattle.std.proofs.Common.{◌≡◌, ◌+◌, ◌∷◌, ap, ◌∙◌, inr, rules}
use Rattle.atomic_table.specs.Table.{rest}
use Rattle.cp_yard.specs.declared.item.Item.TheVariants.{OfVariable}
use Rattle.cp_yard.specs.Views.{SeatView, base_of, held_of, with_hand}
use Rattle.cp_yard.proofs.Steps.{take-allowed, unlock-allowed}
use Rattle.cp_yard.proofs.yard.Yard.unlock.Goals as goal

pub load-requires : goal.load-requires
load-requires c = let i = c.seat.invariant in (
  search rules,
  search rules,
  take-allowed (base_of c.self.inside.table.shared.key.value) _ _ _ c.args.var i.1 i.2 (inr (c.args.cell.clauses, ap (λ z. held_of c.args.var z.view.held) c.seat.view_is ∙ c.requires.held)) i.0 (search rules),
)

pub store-requires : goal.store-requires
store-requires c = let i = c.seat.invariant in let t = c.load.ensures.2 in let now = c.exchange.ensures.3 in let v : SeatView = c.seat.inside.place.me.0 in
    let is : c.exchange.new.seat.me.0 ≡ with_hand (c.args.var + 1) v = ap (λ m. m.0) now ∙ t.0 in (
      search rules,
      search rules,
      unlock-allowed (base_of c.self.inside.table.shared.key.value) _ _ _ c.args.var c.args.cell c.requires.cell (ap (λ (w : SeatView). w.lives) is ∙ i.1) (ap (λ (w : SeatView). w.hand) is)
          (ap (λ (w : SeatView). held_of c.args.var w.held) is ∙ (ap (λ z. held_of c.args.var z.view.held) c.seat.view_is ∙ c.requires.held))
          (ap (λ m. m.1) now ∙ (λ j. (c.args.var, OfVariable c.args.cell) ∷ rest (t.1 j))) (search rules),
    )
