use Rattle.std.proofs.Common.{◌≡◌, ℕ, ◌+◌, ◌<◌, List, length, sym, ap, ◌∙◌, subst, rules, arith}
use mathlib.Core.Option.{some-injective}
use lib.ListN.{get_elem?}
use Rattle.std.specs.Slots.{slots_items}
use Rattle.cp_logic.specs.Journals.{Post}
use Rattle.cp_book.specs.Views.{BookView}
use Rattle.cp_occ.specs.Cells.{CellView}
use Rattle.cp_yard.specs.declared.item.Item.{Item}
use Rattle.cp_yard.specs.Views.{Base, SeatView, base_of, all_shares}
use Rattle.cp_yard.specs.Rule.{IsCellOf, IsLegal, Account, IsAlone, clauses_at}
use Rattle.cp_yard.proofs.Items.{same_book, same_cell}
use Rattle.cp_yard.proofs.Turns.{base_of-book}
use Rattle.cp_yard.proofs.Closing.{closes, AreAfter, AreAfter-push, AreAfter-to}
use Rattle.cp_yard.proofs.yard.Yard.close.Goals as goal

pub take_book-book-requires-clause-book : goal.take_book-book-requires-clause-book
take_book-book-requires-clause-book c = let f : Base = base_of c.self.inside.table.shared.key.value in let o = c.into_place.ensures in
    let alone : IsAlone c.into_place.result.me.0 = subst IsAlone (sym o.view) c.requires.alone in
    let fin = closes f c.into_place.result.id c.into_place.result.me.0 (slots_items c.close_with-closed.result.words) (slots_items c.close_with-closed.result.slots) o.kept.1 alone c.close_with-closed.ensures.values.2 in
    (fin.1.0, fin.1.1)

pub take_cell-requires-clause-cell : goal.take_cell-requires-clause-cell
take_cell-requires-clause-cell c = let f : Base = base_of c.self.inside.table.shared.key.value in let x : ℕ = c.loop-x.x in let o = c.into_place.ensures in
    let alone : IsAlone c.into_place.result.me.0 = subst IsAlone (sym o.view) c.requires.alone in
    let fin = closes f c.into_place.result.id c.into_place.result.me.0 (slots_items c.close_with-closed.result.words) (slots_items c.close_with-closed.result.slots) o.kept.1 alone c.close_with-closed.ensures.values.2 in
    let items : slots_items c.loop-x.closed.slots ≡ slots_items c.close_with-closed.result.slots = c.loop-x.invariant.items ∙ c.take_book-book.ensures.others.0 in
    let small : x + 1 < length (slots_items c.close_with-closed.result.slots) = search rules in
    let at = fin.2 (x + 1) (omega arith) small in (at.0, ap (λ (z : List Item). get_elem? z (x + 1)) items ∙ at.1)

pub loop-x-preserved : goal.loop-x-preserved
loop-x-preserved c = let f : Base = base_of c.self.inside.table.shared.key.value in let x : ℕ = c.loop-x.x in let o = c.into_place.ensures in
    let alone : IsAlone c.into_place.result.me.0 = subst IsAlone (sym o.view) c.requires.alone in
    let fin = closes f c.into_place.result.id c.into_place.result.me.0 (slots_items c.close_with-closed.result.words) (slots_items c.close_with-closed.result.slots) o.kept.1 alone c.close_with-closed.ensures.values.2 in
    let items : slots_items c.loop-x.closed.slots ≡ slots_items c.close_with-closed.result.slots = c.loop-x.invariant.items ∙ c.take_book-book.ensures.others.0 in
    let small : x + 1 < length (slots_items c.close_with-closed.result.slots) = search rules in
    let book : fin.1.0 ≡ c.take_book-book.result = same_book _ _ (some-injective _ _ (sym fin.1.1 ∙ c.take_book-book.ensures.book)) in
    let posts : fin.0 ≡ c.take_book-book.result.posts = sym fin.1.2.2 ∙ ap (λ (b : BookView). b.posts) book in
    let at = fin.2 (x + 1) (omega arith) small in let cell : at.0 ≡ c.take_cell.result = same_cell _ _ (some-injective _ _ (sym (ap (λ (z : List Item). get_elem? z (x + 1)) items ∙ at.1) ∙ c.take_cell.ensures.cell)) in
    let base : f ≡ c.args.self.base = ap (λ z. z.base) c.self.view_is in
    let cell' : IsCellOf (x + 1) (clauses_at c.args.self.base c.take_book-book.result.posts (x + 1)) c.take_cell.result =
    (ap (λ (r : CellView). r.variable) (sym cell) ∙ at.2.0, ap (λ (r : CellView). r.clauses) (sym cell) ∙ (at.2.1 ∙ (λ i. clauses_at (base i) (posts i) (x + 1)))) in record {
      items = c.take_cell.ensures.others.0 ∙ c.loop-x.invariant.items;
      len = search rules;
      room = search rules;
      cells = subst (AreAfter c.args.self.base c.take_book-book.result.posts (x + 1)) (sym c.push_reserved.ensures.items)
          (AreAfter-push c.args.self.base c.take_book-book.result.posts x c.loop-x.cells.items c.take_cell.result c.loop-x.invariant.cells cell');
      full = search rules;
      gone = search rules;
    }

pub returns-clause-base : goal.returns-clause-base
returns-clause-base c = let f : Base = base_of c.self.inside.table.shared.key.value in let o = c.into_place.ensures in
    let alone : IsAlone c.into_place.result.me.0 = subst IsAlone (sym o.view) c.requires.alone in
    let fin = closes f c.into_place.result.id c.into_place.result.me.0 (slots_items c.close_with-closed.result.words) (slots_items c.close_with-closed.result.slots) o.kept.1 alone c.close_with-closed.ensures.values.2 in
    let book : fin.1.0 ≡ c.take_book-book.result = same_book _ _ (some-injective _ _ (sym fin.1.1 ∙ c.take_book-book.ensures.book)) in
    ap base_of (sym book) ∙ (base_of-book f fin.0 fin.1.0 fin.1.2 ∙ ap (λ z. z.base) c.self.view_is)

pub returns-clause-account : goal.returns-clause-account
returns-clause-account c = let f : Base = base_of c.self.inside.table.shared.key.value in let o = c.into_place.ensures in
    let alone : IsAlone c.into_place.result.me.0 = subst IsAlone (sym o.view) c.requires.alone in
    let fin = closes f c.into_place.result.id c.into_place.result.me.0 (slots_items c.close_with-closed.result.words) (slots_items c.close_with-closed.result.slots) o.kept.1 alone c.close_with-closed.ensures.values.2 in
    let book : fin.1.0 ≡ c.take_book-book.result = same_book _ _ (some-injective _ _ (sym fin.1.1 ∙ c.take_book-book.ensures.book)) in
    let posts : fin.0 ≡ c.take_book-book.result.posts = sym fin.1.2.2 ∙ ap (λ (b : BookView). b.posts) book in
    let base : f ≡ c.args.self.base = ap (λ z. z.base) c.self.view_is in
    let P : Base × List _ × SeatView → Type 0 = λ z. Account z.0 z.1 (all_shares z.2) z.2.made in
    subst P (λ i. (base i, posts i, o.view i)) fin.3

pub returns-clause-cells : goal.returns-clause-cells
returns-clause-cells c = let f : Base = base_of c.self.inside.table.shared.key.value in let o = c.into_place.ensures in
    let alone : IsAlone c.into_place.result.me.0 = subst IsAlone (sym o.view) c.requires.alone in
    let fin = closes f c.into_place.result.id c.into_place.result.me.0 (slots_items c.close_with-closed.result.words) (slots_items c.close_with-closed.result.slots) o.kept.1 alone c.close_with-closed.ensures.values.2 in
    let book : fin.1.0 ≡ c.take_book-book.result = same_book _ _ (some-injective _ _ (sym fin.1.1 ∙ c.take_book-book.ensures.book)) in
    let posts : fin.0 ≡ c.take_book-book.result.posts = sym fin.1.2.2 ∙ ap (λ (b : BookView). b.posts) book in
    let own : f ≡ base_of c.take_book-book.result = sym (base_of-book f fin.0 fin.1.0 fin.1.2) ∙ ap base_of book in
    let base : f ≡ c.args.self.base = ap (λ z. z.base) c.self.view_is in
    let legal : IsLegal (base_of c.take_book-book.result) c.take_book-book.result.posts = subst (λ (z : Base × List Post). IsLegal z.0 z.1) (λ i. (own i, posts i)) fin.3.legal in
    let all : c.loop-x.x ≡ c.self.inside.table.shared.key.value.first.variables = search rules in
    let vars : c.loop-x.x ≡ c.take_book-book.result.first.variables = all ∙ ap (λ (z : Base). z.formula.variables) own in
    AreAfter-to (base_of c.take_book-book.result) c.take_book-book.result.posts c.loop-x.cells.items legal
    (subst (λ (z : Base × ℕ). AreAfter z.0 c.take_book-book.result.posts z.1 c.loop-x.cells.items) (λ i. ((sym base ∙ own) i, vars i)) c.loop-x.invariant.cells)
