use Rattle.std.proofs.Common.{◌+◌, sym, subst}
use Rattle.cp_sweep.specs.Sweeping.{AreTouched}
use Rattle.cp_sweep.proofs.Beginning.{touched-none, touched-one, silent-one}
use Rattle.cp_sweep.proofs.turns.first_touched.Goals as goal
use Rattle.cp_sweep.proofs.turns.first_touched.Goals.{then-not-is_silent_at, else-not-is_silent_at}

pub loop-index-init : goal.loop-index-init
loop-index-init c = touched-none c.args.cells.now.items c.args.rules.now c.args.vars c.in_ok-touched.touched c.in_ok-touched.ensures.room c.in_ok-touched.ensures.none

pub loop-index-preserved : goal.loop-index-preserved
loop-index-preserved c =
    let cells = c.args.cells.now.items in let rules = c.args.rules.now in let last = c.args.vars in let n = c.loop-index.index in let ms = c.loop-index.touched in
    elim c.if-not-is_silent_at.branch [
      | then-not-is_silent_at w ↦ subst (AreTouched cells rules last (n + 1)) (sym w.touched-is)
          (subst (AreTouched cells rules last (n + 1)) (sym w.insert.ensures) (touched-one cells rules last n ms c.loop-index.invariant c.loop-index-test.true))
      | else-not-is_silent_at w ↦ subst (AreTouched cells rules last (n + 1)) (sym w.touched-is)
          (silent-one cells rules last n ms c.loop-index.invariant (c.is_silent_at.ensures w.if-not-is_silent_at.false))
    ]
