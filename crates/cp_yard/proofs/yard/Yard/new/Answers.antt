use Rattle.std.proofs.Common.{◌≡◌, ℕ, ◌+◌, ◌≤◌, List, ◌∷◌, map, length, replicate, sym, subst, ap, ◌∙◌, rules, arith}
use lib.ListN.{length-map, length-replicate}
use Rattle.atomic_table.specs.Table.{opening}
use Rattle.cp_logic.specs.Formulas.{Formula}
use Rattle.cp_book.specs.Views.{BookView, current}
use Rattle.cp_occ.specs.Cells.{CellView}
use Rattle.cp_yard.specs.declared.item.Item.{Item}
use Rattle.cp_yard.specs.declared.item.Item.TheVariants.{OfVariable, OfTurn}
use Rattle.cp_yard.specs.Views.{base_of, founder}
use Rattle.cp_yard.specs.Rule.{Stands, IsLegal}
use Rattle.cp_yard.proofs.Closing.{opens, variables-kept, AreAfter-from, AreCellsOf-length}
use Rattle.cp_yard.proofs.yard.Yard.new.Goals as goal

pub items_of-requires : goal.items_of-requires
items_of-requires c = let len = AreCellsOf-length (current c.args.book) c.args.cells.items c.requires.cells in
    let vars : c.vars-vars.result ≡ (current c.args.book).variables = c.vars-vars.ensures.value ∙ ap (λ (f : Formula). f.variables) c.clauses.ensures in
    let most = c.vars-vars.ensures.most in record { few = omega arith }

pub new-requires : goal.new-requires
new-requires c = let b : BookView = c.of-about.result.value in let b_is : b ≡ c.args.book = search rules in let cells = c.args.cells.items in
    let legal : IsLegal (base_of c.args.book) c.args.book.posts = (c.is_legal.ensures.first, c.is_legal.ensures.journal) in
    let len = AreCellsOf-length (current c.args.book) c.args.cells.items c.requires.cells in
    let vars : c.vars-vars.result ≡ length cells = c.vars-vars.ensures.value ∙ (ap (λ (f : Formula). f.variables) c.clauses.ensures ∙ sym len) in
    let ws : c.as_slice.result.now ≡ replicate (length cells + 1) 0 = c.as_slice.ensures.value ∙ (c.in_ok-words.ensures ∙ ap (λ (n : ℕ). replicate (n + 1) 0) vars) in
    let xs : c.in_ok-items.items.items ≡ OfTurn c.args.book ∷ map (λ r. OfVariable r) cells = c.in_ok-items.ensures.items in
    let P : BookView × List ℕ × List Item → Type 0 = λ z. Stands (base_of z.0) (opening z.1 z.2 (founder z.0)) in
    subst P (λ i. (sym b_is i, sym ws i, sym xs i)) (opens c.args.book cells c.args.book.first.variables legal c.requires.posts (AreAfter-from (base_of c.args.book) c.args.book.posts cells legal c.requires.cells))

pub invariant_of-result : goal.invariant_of-result
invariant_of-result c = let o = c.in-Ok.ensures.ok in let cells = c.args.cells.items in
    let legal : IsLegal (base_of c.args.book) c.args.book.posts = (c.is_legal.ensures.first, c.is_legal.ensures.journal) in
    let len = AreCellsOf-length (current c.args.book) c.args.cells.items c.requires.cells in
    let now : c.vars-vars.result ≡ (current c.args.book).variables = c.vars-vars.ensures.value ∙ ap (λ (f : Formula). f.variables) c.clauses.ensures in
    let book : c.of-about.result.value ≡ c.args.book = search rules in
    let mapped = length-map cells (λ (r : CellView). OfVariable r) in
    let count : length (OfTurn c.args.book ∷ map (λ (r : CellView). OfVariable r) cells) ≡ c.vars-vars.result + 1 = omega arith in
    let room : length cells ≤ c.items_of.new.cells.spare = c.in_ok-items.ensures.room in (
      o.0 ∙ (ap length (c.as_slice.ensures.value ∙ c.in_ok-words.ensures) ∙ length-replicate (c.vars-vars.result + 1) 0),
      o.1 ∙ (ap length c.in_ok-items.ensures.items ∙ count),
      c.in_ok-items.ensures.empty,
      omega arith,
      now ∙ (variables-kept (base_of c.args.book) c.args.book.posts legal ∙ (ap (λ (b : BookView). b.first.variables) (sym book) ∙ ap (λ k. k.value.first.variables) (sym o.5))),
      c.vars-vars.ensures.most,
    )
