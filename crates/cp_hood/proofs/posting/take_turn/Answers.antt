use Rattle.std.proofs.Common.{[], ◌∷◌, ◌++◌, length-append, refl, ap, ◌∙◌, arith}
use Rattle.cp_yard.specs.Views.{MetTurn, noted}
use Rattle.cp_hood.proofs.Turns.{noted-none, noted-push}
use Rattle.cp_hood.proofs.posting.take_turn.Goals as goal

pub loop-made-init : goal.loop-made-init
loop-made-init c = (refl, ([], refl, noted-none c.args.seat.now.view))

pub loop-made-preserved : goal.loop-made-preserved
loop-made-preserved c =
    let i = c.loop-made.invariant in let by = c.in_default.field-0.by in (
      c.try_turn.ensures.table ∙ i.0,
      (
        i.1.0 ++ by ∷ [],
        omega (arith, length-append i.1.0 (by ∷ []), i.1.1),
        c.in_default.ensures.met.1 ∙ ap (noted (MetTurn by)) i.1.2 ∙ noted-push c.args.seat.now.view i.1.0 by,
      ),
    )
