use Rattle.std.proofs.Common.{sym, ◌∙◌, arith}
use Rattle.cp_text.proofs.WordFronts.{next_word_is}
use Rattle.cp_text.proofs.text.next_item.Goals as goal

pub returns-then-not-is_blank_byte : goal.returns-then-not-is_blank_byte
returns-then-not-is_blank_byte c =
    let word = next_word_is c.loop-rest.at c.loop-rest.rest.now c.word_len.result c.split_at.result.0.now c.split_at.result.1.now c.word_len.ensures (omega arith) c.if-first-eq10.false (sym c.is_blank_byte.ensures ∙ c.if-not-is_blank_byte.true) c.split_at.ensures.front c.split_at.ensures.back in
    (sym c.loop-rest.invariant.lines ∙ word.0, word.1, c.loop-rest.invariant.later, omega (arith, word.2, c.loop-rest.invariant.length))
