use Rattle.std.proofs.Common.{◌≡◌, ◌∷◌, sym, refl, ap, ◌∙◌, inl, rules}
use Rattle.atomic_table.specs.Table.{rest}
use Rattle.cp_yard.specs.declared.item.Item.TheVariants.{OfTurn}
use Rattle.cp_yard.specs.Views.{SeatView, base_of, with_hand}
use Rattle.cp_yard.proofs.Steps.{take-allowed}
use Rattle.cp_yard.proofs.Turns.{end-allowed, book_of-base}
use Rattle.cp_yard.proofs.yard.Yard.end_turn.Goals as goal

pub load-requires : goal.load-requires
load-requires c = let i = c.seat.invariant in (
  search rules,
  search rules,
  take-allowed (base_of c.self.inside.table.shared.key.value) _ _ _ 0 i.1 i.2 (inl (refl, (c.args.book.posts, ap (λ z. z.view.turn) c.seat.view_is ∙ c.requires.turn))) i.0 (search rules),
)

pub store-requires : goal.store-requires
store-requires c = let i = c.seat.invariant in let t = c.load.ensures.2 in let now = c.exchange.ensures.3 in let v : SeatView = c.seat.inside.place.me.0 in
    let is : c.exchange.new.seat.me.0 ≡ with_hand 1 v = ap (λ m. m.0) now ∙ t.0 in
    let base : base_of c.args.book ≡ c.exchange.new.seat.me.0.base = c.requires.base ∙ (ap (λ z. z.view.base) (sym c.seat.view_is) ∙ ap (λ (w : SeatView). w.base) (sym is)) in (
      search rules,
      search rules,
      end-allowed (base_of c.self.inside.table.shared.key.value) _ _ _ c.args.book.posts (ap (λ (w : SeatView). w.lives) is ∙ i.1) (ap (λ (w : SeatView). w.hand) is)
          (ap (λ (w : SeatView). w.turn) is ∙ (ap (λ z. z.view.turn) c.seat.view_is ∙ c.requires.turn))
          c.args.book (book_of-base _ c.args.book _ base refl)
          (ap (λ m. m.1) now ∙ (λ j. (0, OfTurn c.args.book) ∷ rest (t.1 j))) (search rules),
    )
