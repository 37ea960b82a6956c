use Rattle.std.proofs.Common.{◌≡◌, ◌+◌, length, refl, arith}
use Rattle.std.proofs.lemmas.Bool.Decides.{nat_tests}
use Rattle.cp_text.specs.declared.text.Item.TheVariants as items
use Rattle.cp_text.proofs.Wholes.{cut_ahead, seen_is}
use Rattle.cp_text.proofs.cut.next_seen.Goals as goal

pub returns-in-Word-clause-whole : goal.returns-in-Word-clause-whole
returns-in-Word-clause-whole c =
    let none : length c.in-Word.rest.now ≡ 0 = grind (arith, nat_tests) in
    (cut_ahead c.args.cut c.args.place c.args.text.now (record { at = c.in-Word.at; bytes = c.in-Word.word.now }) c.in-Word.rest.now c.if-cut.true none c.in-Word.ensures.0 c.in-Word.ensures.3, refl)

pub returns-in-Word-clause-seen : goal.returns-in-Word-clause-seen
returns-in-Word-clause-seen c =
    let none : length c.in-Word.rest.now ≡ 0 = grind (arith, nat_tests) in
    let ahead = cut_ahead c.args.cut c.args.place c.args.text.now (record { at = c.in-Word.at; bytes = c.in-Word.word.now }) c.in-Word.rest.now c.if-cut.true none c.in-Word.ensures.0 c.in-Word.ensures.3 in
    seen_is c.args.cut c.args.place c.args.text.now (items.End (c.args.place + length c.args.text.now)) (ahead, refl)
