use Rattle.std.proofs.Common.{◌≡◌, [], ◌∷◌, ◌++◌, length, sym, refl, ap, ◌∙◌, subst, inl, rules, List}
use Rattle.atomic_table.specs.Table.{rest}
use Rattle.cp_logic.specs.Journals.{Post}
use Rattle.cp_yard.specs.declared.item.Item.TheVariants.{OfTurn}
use Rattle.cp_yard.specs.Views.{Base, SeatView, base_of, with_hand, with_post}
use Rattle.cp_yard.specs.Rule.{IsLegal, HoldsAll, clauses_at}
use Rattle.cp_yard.proofs.Steps.{take-allowed}
use Rattle.cp_yard.proofs.Turns.{post-allowed, book_of-base}
use Rattle.cp_yard.proofs.yard.Yard.end_turn_with.Goals as goal

pub load-requires : goal.load-requires
load-requires c = let i = c.seat.invariant in let q = c.requires.post in (
  search rules,
  search rules,
  take-allowed (base_of c.self.inside.table.shared.key.value) _ _ _ 0 i.1 i.2 (inl (refl, (q.0, ap (λ z. z.view.turn) c.seat.view_is ∙ q.2))) i.0 (search rules),
)

pub store-requires : goal.store-requires
store-requires c = let i = c.seat.invariant in let q = c.requires.post in let t = c.load.ensures.2 in let now = c.exchange.ensures.3 in let v : SeatView = c.seat.inside.place.me.0 in
    let is : c.exchange.new.seat.me.0 ≡ with_hand 1 v = ap (λ m. m.0) now ∙ t.0 in
    let base : base_of c.args.book ≡ c.exchange.new.seat.me.0.base = c.requires.base ∙ (ap (λ z. z.view.base) (sym c.seat.view_is) ∙ ap (λ (w : SeatView). w.base) (sym is)) in
    let legal : IsLegal c.exchange.new.seat.me.0.base (q.0 ++ q.1 ∷ []) = subst (λ (z : Base × List Post). IsLegal z.0 z.1) (λ j. (base j, q.3 j)) (c.is_legal.ensures.first, c.is_legal.ensures.journal) in (
      search rules,
      search rules,
      post-allowed (base_of c.self.inside.table.shared.key.value) _ _ _ q.0 q.1 (ap (λ (w : SeatView). w.lives) is ∙ i.1) (ap (λ (w : SeatView). w.hand) is)
          (ap (λ (w : SeatView). w.turn) is ∙ (ap (λ z. z.view.turn) c.seat.view_is ∙ q.2))
          c.args.book (book_of-base _ c.args.book _ base q.3)
          (ap (λ m. m.1) now ∙ (λ j. (0, OfTurn c.args.book) ∷ rest (t.1 j)))
          (q.4 ∙ (ap (λ z. z.view.number) (sym c.seat.view_is) ∙ ap (λ (w : SeatView). w.number) (sym is)))
          (subst (λ (w : SeatView). HoldsAll q.1.entry w.held) (sym is) (subst (λ z. HoldsAll q.1.entry z.view.held) (sym c.seat.view_is) q.5))
          legal (search rules),
    )

pub invariant_of-seat : goal.invariant_of-seat
invariant_of-seat c = let i = c.seat.invariant in let q = c.requires.post in let t = c.load.ensures.2 in let now = c.exchange.ensures.3 in let v : SeatView = c.seat.inside.place.me.0 in
    let is : c.exchange.new.seat.me.0 ≡ with_hand 1 v = ap (λ m. m.0) now ∙ t.0 in
    let w = (c.store.ensures.2.1 c.args.book (ap (λ m. m.1) now ∙ (λ j. (0, OfTurn c.args.book) ∷ rest (t.1 j)))).0 q.0 q.1 (ap (λ (w : SeatView). w.turn) is ∙ (ap (λ z. z.view.turn) c.seat.view_is ∙ q.2)) q.3 ∙ ap (with_post (length q.0) q.1) is in
    (c.store.ensures.2.0, ap (λ (w : SeatView). w.lives) w ∙ i.1, ap (λ (w : SeatView). w.hand) w, ap (λ (w : SeatView). w.number) w ∙ i.3, (λ z. ap (λ (w : SeatView). w.made) w ∙ i.4 z))

pub returns-clause-seat : goal.returns-clause-seat
returns-clause-seat c = λ h p turn is_posts. let t = c.load.ensures.2 in let now = c.exchange.ensures.3 in let v : SeatView = c.seat.inside.place.me.0 in
    let is : c.exchange.new.seat.me.0 ≡ with_hand 1 v = ap (λ m. m.0) now ∙ t.0 in
    (c.store.ensures.2.1 c.args.book (ap (λ m. m.1) now ∙ (λ j. (0, OfTurn c.args.book) ∷ rest (t.1 j)))).0 h p (ap (λ (w : SeatView). w.turn) is ∙ (ap (λ z. z.view.turn) c.seat.view_is ∙ turn)) is_posts
    ∙ (ap (with_post (length h) p) is ∙ ap (λ z. with_post (length h) p z.view) c.seat.view_is)

pub returns-clause-held : goal.returns-clause-held
returns-clause-held c = λ x cs e. let t = c.load.ensures.2 in let now = c.exchange.ensures.3 in let v : SeatView = c.seat.inside.place.me.0 in
    let is : c.exchange.new.seat.me.0 ≡ with_hand 1 v = ap (λ m. m.0) now ∙ t.0 in
    let base : base_of c.args.book ≡ c.exchange.new.seat.me.0.base = c.requires.base ∙ (ap (λ z. z.view.base) (sym c.seat.view_is) ∙ ap (λ (w : SeatView). w.base) (sym is)) in
    (c.store.ensures.2.1 c.args.book (ap (λ m. m.1) now ∙ (λ j. (0, OfTurn c.args.book) ∷ rest (t.1 j)))).1 x cs e ∙ ap (λ (z : Base). clauses_at z c.args.book.posts x) (sym base)
