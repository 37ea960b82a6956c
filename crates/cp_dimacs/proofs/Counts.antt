-- The number that a reader found, as the number that a word says.
use Rattle.std.proofs.Common.{◌≡◌, ℕ, ◌<◌, ◌≤◌, ◌^◌, min, Bool, true, false, ltb, not, Option, Some, None, Ok, refl, sym, ◌∙◌, ap, arith}
use Rattle.std.specs.Option.{option_map, unwrap_or}
use Rattle.std.proofs.lemmas.Bool.{not-false}
use Rattle.std.proofs.lemmas.Bool.Decides.{nat_tests}
use Rattle.cp_text.specs.declared.numbers.Number.{Number}
use Rattle.cp_text.specs.Text.{Word}
use Rattle.cp_text.specs.Numbers.{NumberWord, number_of, kept_size, kept}
use Rattle.cp_dimacs.specs.Grammar.{count_in}

size_of : (k : ℕ) → unwrap_or (kept_size k) 18446744073709551615 ≡ min k 18446744073709551615
size_of k = go (ltb k (2 ^ 64)) refl
  where
    go : (b : Bool) → ltb k (2 ^ 64) ≡ b → unwrap_or (kept_size k) 18446744073709551615 ≡ min k 18446744073709551615
    go true e = let low : k < 2 ^ 64 = grind (arith, nat_tests) in rw e (omega arith)
    go false e = let high : 2 ^ 64 ≤ k = grind (arith, nat_tests) in rw e (omega arith)

positive_count : (w : Word) (k : NumberWord) → number_of w.bytes ≡ Some k → k.positive ≡ true → count_in w ≡ Ok k.size
positive_count w k is positive = rw (is, positive) refl

pub count_is : (w : Word) (number : Number) (n : ℕ) → Some number ≡ option_map kept (number_of w.bytes) → not number.positive ≡ false → n ≡ unwrap_or number.size 18446744073709551615 → (k : ℕ) × (count_in w ≡ Ok k) × (n ≡ min k 18446744073709551615)
count_is w number n found positive is = go (number_of w.bytes) refl
  where
    go : (o : Option NumberWord) → number_of w.bytes ≡ o → (k : ℕ) × (count_in w ≡ Ok k) × (n ≡ min k 18446744073709551615)
    go None e = let none : Some number ≡ option_map kept None = rw e at found in absurd cc
    go (Some k) e =
        let some : Some number ≡ option_map kept (Some k) = rw e at found in
        let same : number ≡ kept k = cc in
        let sign : k.positive ≡ true = sym (ap (λ (m : Number). m.positive) same) ∙ not-false number.positive positive in
        (k.size, positive_count w k e sign, is ∙ ap (λ (m : Number). unwrap_or m.size 18446744073709551615) same ∙ size_of k.size)
