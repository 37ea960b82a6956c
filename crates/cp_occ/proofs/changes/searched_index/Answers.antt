use Rattle.std.proofs.Common.{Ok, Err, rules}
use Rattle.std.proofs.lemmas.List.Sorted.{answers_always}
use Rattle.cp_occ.specs.Cells.{CellView}
use Rattle.cp_occ.proofs.Numbered.{searched-some, searched-none}
use Rattle.cp_occ.proofs.Changed.{has-cell}
use Rattle.cp_occ.proofs.changes.searched_index.Goals as goal

-- the closure gives the variable of a cell
pub unreachable-requires : goal.unreachable-requires
unreachable-requires c =
    has-cell c.args.cells.now c.args.var c.requires.has
    (searched-none (λ (x : CellView). x.variable) c.args.cells.now c.args.var (Err c.in-Err.field-0) c.requires.ascending c.in-Err.ensures.bound
    (c.in-Err.ensures.position (λ (x : CellView). x.variable) (answers_always _ _ _ (λ f a r g called. search rules))))

pub returns-clause-variable : goal.returns-clause-variable
returns-clause-variable c =
    (searched-some (λ (x : CellView). x.variable) c.args.cells.now c.args.var (Ok c.in-Ok.index) c.in-Ok.ensures.bound
    (c.in-Ok.ensures.position (λ (x : CellView). x.variable) (answers_always _ _ _ (λ f a r g called. search rules)))).1
