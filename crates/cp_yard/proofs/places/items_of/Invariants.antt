use Rattle.std.proofs.Common.{◌≡◌, ◌+◌, ◌++◌, map, length, reverse}
use Rattle.cp_yard.specs.declared.item.Item.TheVariants.{OfVariable}
use Rattle.cp_yard.proofs.places.items_of.Given as goal

abbrev pub invariant-loop-cell : goal.invariant-loop-cell
invariant-loop-cell l = record {
  items : map (λ c. OfVariable c) l.initial.cells.items ≡ map (λ c. OfVariable c) l.cells.items ++ reverse l.items.items;
  room : l.cells.spare + length l.cells.items ≡ l.initial.cells.spare + length l.initial.cells.items;
}

abbrev pub decreases-loop-cell : goal.decreases-loop-cell
decreases-loop-cell l = length l.cells.items
