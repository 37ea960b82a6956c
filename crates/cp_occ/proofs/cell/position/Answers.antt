use Rattle.std.proofs.Common.{rules}
use Rattle.std.specs.List.Sorted.{IsBinarySearchResult}
use Rattle.std.specs.Ordering.{nat_cmp}
use Rattle.std.proofs.lemmas.List.Sorted.{answers_always}
use Rattle.cp_logic.specs.declared.named.Named.{Named}
use Rattle.cp_occ.proofs.Numbered.{searched-some, searched-none}
use Rattle.cp_occ.proofs.cell.position.Goals as goal

-- the closure gives the number of an occurrence
module _ (c : goal.After-ok) where
  by_number : IsBinarySearchResult (λ (n : Named). nat_cmp n.number c.args.number) c.args.occurrences.now c.binary_search_by_key.result
  by_number = c.binary_search_by_key.ensures.position (λ (n : Named). n.number) (answers_always _ _ _ (λ f a r g called. search rules))

pub returns-clause-some : goal.returns-clause-some
returns-clause-some c = rw c.ok.ensures.value (searched-some (λ (n : Named). n.number) c.args.occurrences.now c.args.number c.binary_search_by_key.result c.binary_search_by_key.ensures.bound (by_number c))

pub returns-clause-none : goal.returns-clause-none
returns-clause-none c = rw c.ok.ensures.value (searched-none (λ (n : Named). n.number) c.args.occurrences.now c.args.number c.binary_search_by_key.result c.requires c.binary_search_by_key.ensures.bound (by_number c))
