-- What each change of a view makes of its shares and of its numbers.
use Rattle.std.proofs.Common.{◌≡◌, ℕ, Option, Some, None, true≢false, ◌+◌, ◌<◌, ◌≤◌, eqb, Bool, true, List, [], ◌∷◌, sym, refl, ap, ◌∙◌, arith, eq-eqb, if◌then◌else◌}
use Rattle.std.specs.Prelude.{is_some, ◌==◌, All}
use Rattle.std.specs.Option.{ForSome}
use Rattle.std.proofs.lemmas.List.Elements.{All-nil, All-cons}
use Rattle.std.proofs.lemmas.List.Sums.{sum_by-cons}
use Rattle.cp_claim.specs.Views.{View, Share, all_shares, times, times_named, once_below, with_end}
use Rattle.cp_claim.specs.Rule.{shares_of, drawn_of}

pub shares_of-living : (v : View) → v.lives ≡ true → shares_of v ≡ all_shares v
shares_of-living v e = ap (λ (b : Bool). if b then all_shares v else []) e

pub drawn_of-living : (v : View) → v.lives ≡ true → drawn_of v ≡ v.drawn
drawn_of-living v e = ap (λ (b : Bool). if b then v.drawn else []) e

pub times-own : (w : ℕ) (k : Share) (ks : List Share) → k.number ≡ w → 0 < times_named w (k ∷ ks)
times-own w k ks e = let b : eqb k.number w ≡ true = eq-eqb k.number w e in let f : Share → ℕ = λ k. if k.number == w then 1 else 0 in
    let g : f k ≡ 1 = ap (λ (z : Bool). if z then 1 else 0) b in let a : times_named w (k ∷ ks) ≡ f k + times_named w ks = sum_by-cons f k ks in omega arith

pub once_below-le : (x n : ℕ) → once_below x n ≤ 1
once_below-le x n = grind arith

pub once_below-suc : (x n : ℕ) → once_below x (n + 1) ≡ once_below x n + (if n == x then 1 else 0)
once_below-suc x n = grind arith

-- numbers of which none stands more often than those below a bound lie below it
pub below-counted : (n : ℕ) (xs : List ℕ) → ((x : ℕ) → times x xs ≤ once_below x n) → All (λ y. y < n) xs
below-counted n [] few = All-nil (λ (y : ℕ). y < n)
below-counted n (x ∷ xs) few = All-cons (λ (y : ℕ). y < n) x xs
    (let f : ℕ → ℕ = λ y. if y == x then 1 else 0 in let one : f x ≡ 1 = ap (λ (b : Bool). if b then 1 else 0) (eq-eqb x x refl) in
    let a : times x (x ∷ xs) ≡ f x + times x xs = sum_by-cons f x xs in let b = few x in within x (omega arith))
    (below-counted n xs (λ z. let f : ℕ → ℕ = λ y. if y == z then 1 else 0 in let a : times z (x ∷ xs) ≡ f x + times z xs = sum_by-cons f x xs in let b = few z in omega arith))
  where
    within : (x : ℕ) → 1 ≤ once_below x n → x < n
    within x e = grind arith

-- a seat that has ended keeps its view, whatever it is asked
pub ended_word : (v : View) → is_some v.mine.end ≡ true → ForSome v.mine.end (λ e. v.limit ≤ e) → (word : ℕ) × (v.limit ≤ word) × (v ≡ with_end word v)
ended_word v some_end past = by_case v.mine.end refl
  where
    by_case : (o : Option ℕ) → v.mine.end ≡ o → (word : ℕ) × (v.limit ≤ word) × (v ≡ with_end word v)
    by_case None e = absurd (true≢false (sym some_end ∙ ap is_some e))
    by_case (Some word) e = (word, past word e, λ i. record v { mine = record v.mine { end = e i } })
