use Rattle.std.proofs.Common.{[], ◌∷◌, List, length, sym, subst, ap, ◌∙◌}
use Rattle.cp_logic.specs.declared.named.Named.{Named}
use Rattle.cp_logic.specs.Items.{named_item}
use Rattle.cp_occ.specs.Cells.{CellView}
use Rattle.cp_occ.proofs.Entered.{Filled, above-cells, Filled-step, Filled-variables, Filled-lists, lent-back}
use Rattle.cp_occ.proofs.cells.Cells.of_formula.Goals as goal

-- the clauses that are left begin with this one
module _ (c : goal.After-as_mut_slice) where
  filled : Filled c.args.formula.now.formula (named_item (c.in-Some.number, c.in-Some.clause) ∷ c.next.new.self) c.loop-number.cells.items
  filled = subst (λ (left : List Named). Filled c.args.formula.now.formula left c.loop-number.cells.items) c.in-Some.ensures.steps c.loop-number.invariant

pub enter-requires-clause-above : goal.enter-requires-clause-above
enter-requires-clause-above c = rw c.as_mut_slice.ensures.value (above-cells _ _ _ _ c.vars.ensures.valid (filled c))

pub loop-number-preserved : goal.loop-number-preserved
loop-number-preserved c =
    let n : Named = record { number = c.in-Some.number; clause = c.in-Some.clause.now } in
    let enters = subst (λ (cells : List CellView). Rattle.cp_occ.specs.Cells.Enters n cells c.enter.new.cells) c.as_mut_slice.ensures.value c.in_ok-enter.ensures in
    subst (Filled c.args.formula.now.formula c.next.new.self) (sym (lent-back c.loop-number.cells.len c.loop-number.cells.items c.enter.new.cells (sym c.as_mut_slice.ensures.len ∙ ap length c.as_mut_slice.ensures.value) enters.len))
    (Filled-step c.args.formula.now.formula n c.next.new.self c.loop-number.cells.items c.vars.ensures.valid
    (subst (λ (left : List Named). Filled c.args.formula.now.formula left c.loop-number.cells.items) c.in-Some.ensures.steps c.loop-number.invariant)
    c.enter.new.cells enters)

module _ (c : goal.After-drop-counted-2) where
  at-end : Filled c.args.formula.now.formula [] c.loop-number.cells.items
  at-end = subst (λ (left : List Named). Filled c.args.formula.now.formula left c.loop-number.cells.items) c.in-None.ensures.steps.0 c.loop-number.invariant

pub returns-clause-variables : goal.returns-clause-variables
returns-clause-variables c = Filled-variables c.args.formula.now.formula c.loop-number.cells.items (at-end c)

pub returns-clause-clauses : goal.returns-clause-clauses
returns-clause-clauses c = Filled-lists c.args.formula.now.formula c.loop-number.cells.items (at-end c)
