use Rattle.std.proofs.Common.{◌≡◌, ◌+◌, ℕ, ◌∷◌, ◌++◌, List, drop, length, sym, ◌∙◌, ap, arith}
use Rattle.cp_logic.specs.declared.named.Named.{Named}
use Rattle.cp_logic.specs.Clauses.{is_empty}
use Rattle.cp_logic.specs.Lists.{Roomy}
use Rattle.cp_logic.proofs.ListFacts.{drop-at}
use Rattle.cp_book.specs.Empties.{empty_numbers}
use Rattle.cp_book.proofs.EmptyFacts.{empty_numbers-read, empty_numbers-passed, empty-length}
use Rattle.cp_book.proofs.changes.push_empties.Goals.{then-is_empty, else-is_empty}
use Rattle.cp_book.proofs.changes.push_empties.Goals as goal

pub loop-named-preserved : goal.loop-named-preserved
loop-named-preserved c =
    let items = c.new_clauses-named-items.result.now in let i = c.loop-named.named-index in let named = c.named-item.result in
    let less : length (drop i items) ≡ length (named ∷ drop (i + 1) items) = ap (λ (cs : List Named). length cs) (drop-at items i named c.loop-named-test.true c.named-item.is) in
    let test : c.is_empty.result ≡ is_empty named.clause = c.is_empty.ensures ∙ empty-length c.lits.result.now ∙ ap is_empty c.lits.ensures.value in
    elim c.if-is_empty.branch [
      | then-is_empty w ↦ record {
        items =
            ap (λ (l : Roomy ℕ). l.items ++ empty_numbers (drop (i + 1) items)) w.numbers-is
            ∙ ap (λ ns. ns ++ empty_numbers (drop (i + 1) items)) w.push_reserved.ensures.items
            ∙ empty_numbers-read items i named c.loop-named.numbers.items _ c.loop-named-test.true c.named-item.is (sym test ∙ w.if-is_empty.true) c.loop-named.invariant.items;
        room = omega (arith, less, c.loop-named.invariant.room, w.push_reserved.ensures.spare, ap (λ (l : Roomy ℕ). l.spare) w.numbers-is);
      }
      | else-is_empty w ↦ record {
        items =
            ap (λ (l : Roomy ℕ). l.items ++ empty_numbers (drop (i + 1) items)) w.numbers-is
            ∙ empty_numbers-passed items i named c.loop-named.numbers.items _ c.loop-named-test.true c.named-item.is (sym test ∙ w.if-is_empty.false) c.loop-named.invariant.items;
        room = omega (arith, less, c.loop-named.invariant.room, ap (λ (l : Roomy ℕ). l.spare) w.numbers-is);
      }
    ]
