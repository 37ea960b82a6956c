use Rattle.std.proofs.Common.{◌≡◌, ◌<◌, ◌-◌, ℕ, [], ◌∷◌, ◌++◌, List, get_or, sym, subst, ap, ◌∙◌, arith}
use Rattle.std.specs.List.{All}
use Rattle.cp_logic.specs.declared.named.Named.{Named}
use Rattle.cp_occ.proofs.Entered.{Entering, Entering-start, v-low, v-high, v-old, v-clauses, v-variable, v-has, Entering-step}
use Rattle.cp_occ.proofs.filling.enter.Goals as goal

pub loop-var-init : goal.loop-var-init
loop-var-init c =
    subst (Entering (record { number = c.args.number; clause = c.args.clause.now }) c.args.cells.now c.args.cells.now) (sym (c.into_iter-var-iterator.ensures.into_iter_gives ∙ c.of-var-items.ensures.value))
    (Entering-start (record { number = c.args.number; clause = c.args.clause.now }) c.args.cells.now c.requires.numbered c.of-var-items.ensures.ascending c.requires.within)

-- the variables that are left begin with this one
module _ (c : goal.After-place) where
  entering : Entering (record { number = c.args.number; clause = c.args.clause.now }) c.args.cells.now c.loop-var.cells (c.in-Some.var ∷ c.next.new.self)
  entering = subst (Entering (record { number = c.args.number; clause = c.args.clause.now }) c.args.cells.now c.loop-var.cells) c.in-Some.ensures.steps c.loop-var.invariant

pub overflow_sub-cells : goal.overflow_sub-cells
overflow_sub-cells c = let low = v-low _ _ _ _ _ (entering c) in omega arith

pub bounds-cells-var : goal.bounds-cells-var
bounds-cells-var c = v-high _ _ _ _ _ (entering c)

module _ (c : goal.In_ok-again-2) where
  entering-there : Entering (record { number = c.args.number; clause = c.args.clause.now }) c.args.cells.now c.loop-var.cells (c.in-Some.var ∷ c.next.new.self)
  entering-there = subst (Entering (record { number = c.args.number; clause = c.args.clause.now }) c.args.cells.now c.loop-var.cells) c.in-Some.ensures.steps c.loop-var.invariant

  same-clause : c.in_ok-again-2.field-0 ≡ c.args.clause.now
  same-clause = cc (c.in_ok-again-2.ensures, c.in_ok-place.ensures.place, c.in_ok-again.ensures)

pub put-requires-clause-above : goal.put-requires-clause-above
put-requires-clause-above c =
    let s = entering-there c in
    subst (All (λ (n : Named). n.number < c.args.number)) (sym (v-clauses _ _ _ _ _ s c.index-cells-var.result))
    (c.requires.above (c.in-Some.var - 1) c.index-cells-var.result (v-old _ _ _ _ _ s))

pub put-requires-clause-has : goal.put-requires-clause-has
put-requires-clause-has c =
    let s = entering-there c in
    rw (v-variable _ _ _ _ _ s c.index-cells-var.result, same-clause c) (v-has _ _ _ _ _ s)

pub loop-var-preserved : goal.loop-var-preserved
loop-var-preserved c =
    let place-is : c.in_ok-again-2.field-0 ≡ c.args.clause.now = cc (c.in_ok-again-2.ensures, c.in_ok-place.ensures.place, c.in_ok-again.ensures) in
    Entering-step (record { number = c.args.number; clause = c.args.clause.now }) c.args.cells.now c.loop-var.cells c.in-Some.var c.next.new.self
    (subst (Entering (record { number = c.args.number; clause = c.args.clause.now }) c.args.cells.now c.loop-var.cells) c.in-Some.ensures.steps c.loop-var.invariant)
    c.index-cells-var.result c.put.new.cell c.in_ok-put.ensures.variable
    (c.in_ok-put.ensures.clauses
    ∙ ap (λ (ls : List ℕ). (get_or c.loop-var.cells (c.in-Some.var - 1) c.index-cells-var.result).clauses ++ record { number = c.args.number; clause = ls } ∷ []) place-is)
