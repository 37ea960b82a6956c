-- What a seat has in hand.
use Rattle.std.proofs.Common.{◌≡◌, ℕ, List, [], ◌∷◌, sym, ap, ◌∙◌}
use Rattle.atomic_table.specs.Table.{rest}
use Rattle.cp_book.specs.Views.{BookView}
use Rattle.cp_occ.specs.Cells.{CellView}
use Rattle.cp_yard.specs.declared.item.Item.{Item}
use Rattle.cp_yard.specs.declared.item.Item.TheVariants.{OfVariable, OfTurn, Nothing}

abbrev first_or : Item → List (ℕ × Item) → Item
first_or d [] = d
first_or d (x ∷ xs) = x.1

abbrev cell_or : CellView → Item → CellView
cell_or d (OfVariable c) = c
cell_or d (OfTurn b) = d
cell_or d Nothing = d

abbrev book_or : BookView → Item → BookView
book_or d (OfVariable c) = d
book_or d (OfTurn b) = b
book_or d Nothing = d

pub same_item : (cs : List (ℕ × Item)) (k j : ℕ) (a b : Item) (xs ys : List (ℕ × Item)) → cs ≡ (k, a) ∷ xs → cs ≡ (j, b) ∷ ys → a ≡ b
same_item cs k j a b xs ys p q = ap (first_or a) (sym p ∙ q)

pub same_cell : (a b : CellView) → OfVariable a ≡ OfVariable b → a ≡ b
same_cell a b e = ap (cell_or a) e

pub same_book : (a b : BookView) → OfTurn a ≡ OfTurn b → a ≡ b
same_book a b e = ap (book_or a) e

pub in_hand : (cs xs : List (ℕ × Item)) (x : ℕ × Item) → cs ≡ x ∷ xs → cs ≡ x ∷ rest cs
in_hand cs xs x e = e ∙ ap (λ (ys : List (ℕ × Item)). x ∷ rest ys) (sym e)
