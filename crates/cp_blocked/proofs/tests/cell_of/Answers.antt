use Rattle.std.proofs.Common.{◌≡◌, ◌+◌, ◌∙◌, subst, sym}
use Rattle.cp_occ.specs.Cells.{CellView}
use Rattle.cp_occ.proofs.lemmas.Growing.{AreBelow, below-later, below-grown}
use Rattle.cp_blocked.proofs.tests.cell_of.Goals as goal
use Rattle.cp_blocked.proofs.tests.cell_of.Goals.{then-has_variable+in_ok-place+in_ok-reserve, else-has_variable}

pub loop-i-preserved : goal.loop-i-preserved
loop-i-preserved c =
    let n = c.loop-i.i + 1 in
    elim c.if-has_variable.branch [
      | then-has_variable+in_ok-place+in_ok-reserve w ↦
          subst (λ (cell : CellView). (cell.variable ≡ c.args.var) × AreBelow (n + 1) cell.clauses) (sym w.cell-is) (
            w.insert.ensures.variable ∙ w.reserve.ensures.variable ∙ c.loop-i.invariant.0,
            below-grown n w.reserve.new.self w.insert.new.self _ (subst (AreBelow n) (sym w.reserve.ensures.clauses) c.loop-i.invariant.1) w.insert.ensures.clauses,
          )
      | else-has_variable w ↦
          subst (λ (cell : CellView). (cell.variable ≡ c.args.var) × AreBelow (n + 1) cell.clauses) (sym w.cell-is) (c.loop-i.invariant.0, below-later n c.loop-i.cell.clauses c.loop-i.invariant.1)
    ]
