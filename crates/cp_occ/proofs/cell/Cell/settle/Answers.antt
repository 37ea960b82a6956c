use Rattle.std.proofs.Common.{◌≡◌, ◌∙◌, None, subst, sym}
use Rattle.cp_logic.specs.Legality.{first_in}
use Rattle.cp_occ.specs.Cells.{CellView}
use Rattle.cp_occ.proofs.Searches.{silent-by}
use Rattle.cp_occ.proofs.cell.Cell.settle.Goals as goal

pub invariant_of-self : goal.invariant_of-self
invariant_of-self c =
    let none = subst (λ (v : CellView). first_in v.clauses c.args.rules.now c.requires.0 v.variable ≡ None) (sym c.self.view_is) c.requires.1 in (
      c.self.invariant.0,
      λ rules choice bound.
          silent-by c.self.inside.var c.self.inside.occurrences.items c.args.rules.now c.requires.0 none rules (choice ∙ c.by.ensures.choice) (bound ∙ c.by.ensures.bound),
      c.self.invariant.2,
    )
