use Rattle.std.proofs.Common.{◌≡◌, ℕ, ◌+◌, List, ◌∷◌, sym, ap, ◌∙◌, subst, inr, rules}
use Rattle.atomic_table.specs.Table.{rest}
use Rattle.cp_logic.specs.declared.named.Named.{Named}
use Rattle.cp_occ.specs.Cells.{CellView}
use Rattle.cp_yard.specs.declared.item.Item.{Item}
use Rattle.cp_yard.specs.declared.item.Item.TheVariants.{OfVariable, Nothing}
use Rattle.cp_yard.specs.Views.{Base, SeatView, base_of, held_of, reached_lock, with_lock, with_hand}
use Rattle.cp_yard.specs.Rule.{AreClausesAt}
use Rattle.cp_yard.proofs.Lists.{held_of-same}
use Rattle.cp_yard.proofs.Steps.{lock-allowed, return-allowed}
use Rattle.cp_yard.proofs.Items.{same_item, same_cell, in_hand}
use Rattle.cp_yard.proofs.yard.Yard.try_lock.Goals as goal

pub compare_exchange-found-requires : goal.compare_exchange-found-requires
compare_exchange-found-requires c = let i = c.seat.invariant in (
  search rules,
  search rules,
  lock-allowed (base_of c.self.inside.table.shared.key.value) _ _ _ _ c.args.var i.1 i.2 (c.word-word.ensures ∙ ap (λ z. z.view.number + 1) (sym c.seat.view_is)) (ap (λ z. held_of c.args.var z.view.held) c.seat.view_is ∙ c.requires.free) c.requires.low (search rules),
)

pub exchange-item-requires : goal.exchange-item-requires
exchange-item-requires c = let t = c.compare_exchange-found.ensures.2.0 c.if-found-ne0.false in (search rules, (OfVariable t.0, in_hand _ _ _ t.4))

pub load-requires : goal.load-requires
load-requires c = let t = c.compare_exchange-found.ensures.2.0 c.if-found-ne0.false in let i = c.seat.invariant in let now = c.exchange-item.ensures.3 in
    let is : c.exchange-item.new.seat.me.0 ≡ reached_lock c.args.var t.0.clauses c.seat.inside.place.me.0 = ap (λ m. m.0) now ∙ t.3 in (
      search rules,
      search rules,
      return-allowed (base_of c.self.inside.table.shared.key.value) _ _ _ c.args.var (ap (λ (w : SeatView). w.lives) is ∙ i.1) (ap (λ (w : SeatView). w.hand) is)
          (inr (t.0.clauses, ap (λ (w : SeatView). held_of c.args.var w.held) is ∙ held_of-same c.args.var t.0.clauses c.seat.inside.place.me.0.held))
          (ap (λ m. m.1) now ∙ (ap (λ (cs : List (ℕ × Item)). (c.args.var, Nothing) ∷ rest cs) t.4 ∙ ap (λ (cs : List (ℕ × Item)). (c.args.var, Nothing) ∷ cs) i.0)) (search rules),
    )

pub returns-clause-got : goal.returns-clause-got
returns-clause-got c = let t = c.compare_exchange-found.ensures.2.0 c.if-found-ne0.false in let now = c.exchange-item.ensures.3 in
    let is : c.exchange-item.new.seat.me.0 ≡ reached_lock c.args.var t.0.clauses c.seat.inside.place.me.0 = ap (λ m. m.0) now ∙ t.3 in
    let cell : t.0 ≡ c.in-OfVariable.cell = same_cell _ _ (same_item _ _ _ _ _ _ _ t.4 c.exchange-item.ensures.2 ∙ c.in-OfVariable.is) in (
      ap (λ (r : CellView). r.variable) (sym cell) ∙ t.1,
      c.load.ensures.2.0 ∙ (ap (with_hand 0) is ∙ (λ j. with_lock c.args.var (cell j).clauses (c.seat.view_is j).view)),
    )

pub returns-clause-clauses : goal.returns-clause-clauses
returns-clause-clauses c = let t = c.compare_exchange-found.ensures.2.0 c.if-found-ne0.false in
    let cell : t.0 ≡ c.in-OfVariable.cell = same_cell _ _ (same_item _ _ _ _ _ _ _ t.4 c.exchange-item.ensures.2 ∙ c.in-OfVariable.is) in
    subst (λ (z : Base × List Named). AreClausesAt z.0 c.args.var z.1) (λ j. ((c.seat.view_is j).view.base, (cell j).clauses)) t.2
