use Rattle.std.proofs.Common.{◌≡◌, ℕ, ◌+◌, List, ◌∷◌, sym, refl, ap, ◌∙◌, inl, rules}
use Rattle.atomic_table.specs.Table.{rest}
use Rattle.cp_book.specs.Views.{BookView}
use Rattle.cp_yard.specs.declared.item.Item.{Item}
use Rattle.cp_yard.specs.declared.item.Item.TheVariants.{OfTurn, Nothing}
use Rattle.cp_yard.specs.Views.{SeatView, base_of, held_of, reached_turn, with_turn, with_hand}
use Rattle.cp_yard.specs.Rule.{clauses_at}
use Rattle.cp_yard.proofs.Steps.{return-allowed}
use Rattle.cp_yard.proofs.Turns.{turn-allowed, base_of-book}
use Rattle.cp_yard.proofs.Items.{same_item, same_book, in_hand}
use Rattle.cp_yard.proofs.yard.Yard.try_turn.Goals as goal

pub compare_exchange-found-requires : goal.compare_exchange-found-requires
compare_exchange-found-requires c = let i = c.seat.invariant in (
  search rules,
  search rules,
  turn-allowed (base_of c.self.inside.table.shared.key.value) _ _ _ _ i.1 i.2 (c.word-word.ensures ∙ ap (λ z. z.view.number + 1) (sym c.seat.view_is)) (ap (λ z. z.view.turn) c.seat.view_is ∙ c.requires.turn) (search rules),
)

pub exchange-item-requires : goal.exchange-item-requires
exchange-item-requires c = let t = c.compare_exchange-found.ensures.2.0 c.if-found-ne0.false in (search rules, (OfTurn t.1, in_hand _ _ _ t.4))

pub load-requires : goal.load-requires
load-requires c = let t = c.compare_exchange-found.ensures.2.0 c.if-found-ne0.false in let i = c.seat.invariant in let now = c.exchange-item.ensures.3 in
    let is : c.exchange-item.new.seat.me.0 ≡ reached_turn t.0 c.seat.inside.place.me.0 = ap (λ m. m.0) now ∙ t.3 in (
      search rules,
      search rules,
      return-allowed (base_of c.self.inside.table.shared.key.value) _ _ _ 0 (ap (λ (w : SeatView). w.lives) is ∙ i.1) (ap (λ (w : SeatView). w.hand) is) (inl (refl, (t.0, ap (λ (w : SeatView). w.turn) is)))
          (ap (λ m. m.1) now ∙ (ap (λ (cs : List (ℕ × Item)). (0, Nothing) ∷ rest cs) t.4 ∙ ap (λ (cs : List (ℕ × Item)). (0, Nothing) ∷ cs) i.0)) (search rules),
    )

pub returns-clause-base : goal.returns-clause-base
returns-clause-base c = let t = c.compare_exchange-found.ensures.2.0 c.if-found-ne0.false in
    let book : t.1 ≡ c.in-OfTurn.book = same_book _ _ (same_item _ _ _ _ _ _ _ t.4 c.exchange-item.ensures.2 ∙ c.in-OfTurn.is) in
    ap base_of (sym book) ∙ (base_of-book _ t.0 t.1 t.2 ∙ ap (λ z. z.view.base) c.seat.view_is)

pub returns-clause-got : goal.returns-clause-got
returns-clause-got c = let t = c.compare_exchange-found.ensures.2.0 c.if-found-ne0.false in let now = c.exchange-item.ensures.3 in let v : SeatView = c.seat.inside.place.me.0 in
    let is : c.exchange-item.new.seat.me.0 ≡ reached_turn t.0 v = ap (λ m. m.0) now ∙ t.3 in
    let book : t.1 ≡ c.in-OfTurn.book = same_book _ _ (same_item _ _ _ _ _ _ _ t.4 c.exchange-item.ensures.2 ∙ c.in-OfTurn.is) in
    let posts : t.0 ≡ c.in-OfTurn.book.posts = sym t.2.2 ∙ ap (λ (b : BookView). b.posts) book in
    c.load.ensures.2.0 ∙ (ap (with_hand 0) is ∙ (λ j. with_turn (posts j) (c.seat.view_is j).view))

pub returns-clause-held : goal.returns-clause-held
returns-clause-held c = let t = c.compare_exchange-found.ensures.2.0 c.if-found-ne0.false in
    let book : t.1 ≡ c.in-OfTurn.book = same_book _ _ (same_item _ _ _ _ _ _ _ t.4 c.exchange-item.ensures.2 ∙ c.in-OfTurn.is) in
    let posts : t.0 ≡ c.in-OfTurn.book.posts = sym t.2.2 ∙ ap (λ (b : BookView). b.posts) book in
    let base : c.seat.inside.place.me.0.base ≡ base_of c.in-OfTurn.book = sym (base_of-book _ t.0 t.1 t.2) ∙ ap base_of book in
    λ x l e. t.5 x l (ap (λ z. held_of x z.view.held) c.seat.view_is ∙ e) ∙ (λ j. clauses_at (base j) (posts j) x)
