use Rattle.std.proofs.Common.{◌≡◌, length, true, ltb, refl, arith}
use Rattle.std.proofs.lemmas.Bool.Decides.{nat_tests}
use Rattle.cp_text.proofs.Cuts.{seen-whole, seen-front}
use Rattle.cp_text.proofs.cut.within.Goals as goal

pub returns-then-input-limit : goal.returns-then-input-limit
returns-then-input-limit c =
    let all = seen-whole c.args.limit c.args.input.now c.if-input-limit.true in
    record { text = all.0; start = refl; cut = all.1; past = all.2; lines = all.3 }

pub returns : goal.returns
returns c =
    let front = c.split_at.ensures.front in
    let back = c.split_at.ensures.back in
    let past : true ≡ ltb c.args.limit (length c.args.input.now) = grind (arith, nat_tests) in
    record { text = front; start = refl; cut = rw (← back) c.begins_in_word.ensures; past = past; lines = seen-front c.args.limit c.args.input.now c.split_at.result.0.now c.split_at.result.1.now c.begins_in_word.result front back c.begins_in_word.ensures }
