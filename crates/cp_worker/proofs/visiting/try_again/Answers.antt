use Rattle.std.proofs.Common.{◌∙◌, ◌++◌, ◌∷◌, [], length, length-append, refl, subst, arith}
use Rattle.std.specs.Prelude.{Err}
use Rattle.cp_hood.specs.declared.answers.HoodAnswer.{HoodAnswer}
use Rattle.cp_hood.specs.Tries.{IsTry}
use Rattle.std.proofs.lemmas.List.Elements.{All-nil}
use Rattle.cp_hood.proofs.Going.{GoesOn-none}
use Rattle.cp_worker.specs.Visits.{IsHeld, notes_of}
use Rattle.cp_worker.proofs.Commits.{tried_again, unposted}
use Rattle.cp_worker.proofs.visiting.try_again.Goals as goal

pub loop-k-init : goal.loop-k-init
loop-k-init c = record { table = refl; idle = c.requires.idle; going = ([], refl, All-nil (IsHeld c.args.x c.args.limit (length c.args.seat.now.view.own.posts)), GoesOn-none c.args.seat.now.view) }

pub loop-k-preserved : goal.loop-k-preserved
loop-k-preserved c =
    let i = c.loop-k.invariant in let t = c.in-Err-Busy.ensures.tries in
    let tried = subst (λ n. IsTry c.args.x c.args.limit n t.0 (Err c.in-Err-Busy.field-0)) (unposted c.args.seat.now.view c.loop-k.seat.view (notes_of i.going.0) i.going.3) t.2 in
    let more = tried_again c.args.seat.now.view c.loop-k.seat.view c.try_hood.new.seat.view c.args.x c.args.limit (length c.args.seat.now.view.own.posts) i.going.0 t.0 c.in-Err-Busy.field-0-0 c.in-Err-Busy.field-0-1 i.going.2 i.going.3 t.1 (subst (λ (a : HoodAnswer). IsTry c.args.x c.args.limit (length c.args.seat.now.view.own.posts) t.0 (Err a)) c.in-Err-Busy.field-0-is tried) in
    record {
      table = c.in-Err-Busy.ensures.table ∙ i.table;
      idle = c.in-Err-Busy.ensures.idle;
      going = (i.going.0 ++ t.0 ∷ [], (let n = i.going.1 in let long = length-append i.going.0 (t.0 ∷ []) in omega arith), more.0, more.1);
    }
