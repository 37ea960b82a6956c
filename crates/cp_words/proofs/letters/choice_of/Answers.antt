use Rattle.std.proofs.Common.{◌≡◌, ◌∙◌, false, true, ap, length, sym}
use Rattle.std.specs.Prelude.{◌==◌}
use Rattle.std.specs.List.{list_all}
use Rattle.cp_words.specs.Letters.{choice_of, is_technique}
use Rattle.cp_words.proofs.Chosen.{chosen}
use Rattle.cp_words.proofs.letters.choice_of.Goals as goal

pub returns : goal.returns
returns c =
    let some : (length c.as_bytes-letters.result.now == 0) ≡ false = sym c.is_empty.ensures ∙ c.if-is_empty.false in
    let every : list_all is_technique c.as_bytes-letters.result.now ≡ true = cc (c.are_techniques.ensures, c.if-not-are_techniques.false) in
    chosen c.as_bytes-letters.result.now _ some every
    (λ i. record { t = c.contains.ensures.value i; s = c.contains-2.ensures.value i; x = c.contains-3.ensures.value i; b = c.contains-4.ensures.value i; e = c.contains-5.ensures.value i })
    ∙ ap choice_of c.as_bytes-letters.ensures.value
