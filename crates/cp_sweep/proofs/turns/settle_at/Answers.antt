use Rattle.std.proofs.Common.{◌∙◌, ap}
use Rattle.cp_logic.specs.declared.settings.Rules.{Rules}
use Rattle.cp_logic.specs.Legality.{first_in}
use Rattle.cp_book.specs.Views.{current}
use Rattle.cp_find.proofs.Searches.{first-from_cell}
use Rattle.cp_sweep.proofs.CellReading.{cell-is}
use Rattle.cp_sweep.proofs.turns.settle_at.Goals as goal

pub settle-requires : goal.settle-requires
settle-requires c = λ cell got.
    let f = current c.args.book.now in let rules = c.args.book.now.rules in let x = c.args.var in
    let is = cell-is f c.args.cells.now.items c.requires.cells x c.requires.low c.requires.high cell got in (
      f.next,
      ap (λ (r : Rules). first_in cell.clauses r f.next cell.variable) c.rules.ensures ∙ ap (first_in cell.clauses rules f.next) is.0
          ∙ first-from_cell f rules x cell.clauses c.requires.filled is.1 ∙ c.requires.none,
    )
