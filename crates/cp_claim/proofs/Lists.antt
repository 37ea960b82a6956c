-- Sums over lists of which one element changes, and lists read by place.
use Rattle.std.proofs.Common.{◌≡◌, ◌≢◌, ℕ, zero, suc, ◌+◌, ◌<◌, ◌≤◌, ◌⊎◌, List, [], ◌∷◌, ◌++◌, length, set, sym, refl, ap, subst, inl, inr, ⊎_elim, arith}
use Rattle.std.specs.Prelude.{sum_by}
use Rattle.std.proofs.lemmas.List.Sums.{sum_by-cons}
use mathlib.Core.Option.{some, some-injective, some-ne-none}
use lib.ListN.{get_elem?}
use Rattle.atomic_table.proofs.Lists.{at_set}

module _ {A : Type 0} (f : A → ℕ) where
  pub sum_by-set_at : (l : List A) (i : ℕ) (v w : A) → get_elem? l i ≡ some v → sum_by f (set l i w) + f v ≡ sum_by f l + f w
  sum_by-set_at [] i v w e = absurd (some-ne-none v (sym e))
  sum_by-set_at (x ∷ xs) zero v w e = let g : f x ≡ f v = ap f (some-injective x v e) in let a = sum_by-cons f x xs in let b = sum_by-cons f w xs in omega arith
  sum_by-set_at (x ∷ xs) (suc i) v w e = let a = sum_by-cons f x xs in let b = sum_by-cons f x (set xs i w) in let c = sum_by-set_at xs i v w e in omega arith

  pub term-le-sum_by : (l : List A) (i : ℕ) (v : A) → get_elem? l i ≡ some v → f v ≤ sum_by f l
  term-le-sum_by [] i v e = absurd (some-ne-none v (sym e))
  term-le-sum_by (x ∷ xs) zero v e = let g : f x ≡ f v = ap f (some-injective x v e) in let a = sum_by-cons f x xs in omega arith
  term-le-sum_by (x ∷ xs) (suc i) v e = let a = sum_by-cons f x xs in let b = term-le-sum_by xs i v e in omega arith

  pub two_terms-le-sum_by : (l : List A) (i j : ℕ) (v w : A) → i ≢ j → get_elem? l i ≡ some v → get_elem? l j ≡ some w → f v + f w ≤ sum_by f l
  two_terms-le-sum_by [] i j v w ne e g = absurd (some-ne-none v (sym e))
  two_terms-le-sum_by (x ∷ xs) zero zero v w ne e g = absurd (ne refl)
  two_terms-le-sum_by (x ∷ xs) zero (suc j) v w ne e g = let a : f x ≡ f v = ap f (some-injective x v e) in let b = sum_by-cons f x xs in let c = term-le-sum_by xs j w g in omega arith
  two_terms-le-sum_by (x ∷ xs) (suc i) zero v w ne e g = let a : f x ≡ f w = ap f (some-injective x w g) in let b = sum_by-cons f x xs in let c = term-le-sum_by xs i v e in omega arith
  two_terms-le-sum_by (x ∷ xs) (suc i) (suc j) v w ne e g = let b = sum_by-cons f x xs in let c = two_terms-le-sum_by xs i j v w (λ q. ne (ap suc q)) e g in omega arith

  sum_by-of_zeros : (l : List A) → ((j : ℕ) (w : A) → get_elem? l j ≡ some w → f w ≡ 0) → sum_by f l ≡ 0
  sum_by-of_zeros [] h = refl
  sum_by-of_zeros (y ∷ ys) h = let a = h 0 y refl in let b = sum_by-cons f y ys in let c = sum_by-of_zeros ys (λ j w e. h (suc j) w e) in omega arith

  -- a sum of which all other terms are 0
  pub sum_by-of_one : (l : List A) (i : ℕ) (v : A) → get_elem? l i ≡ some v → ((j : ℕ) (w : A) → j ≢ i → get_elem? l j ≡ some w → f w ≡ 0) → sum_by f l ≡ f v
  sum_by-of_one [] i v at blank = absurd (some-ne-none v (sym at))
  sum_by-of_one (x ∷ xs) zero v at blank = let a : f x ≡ f v = ap f (some-injective x v at) in let b = sum_by-cons f x xs in let c = sum_by-of_zeros xs (λ j w e. blank (suc j) w (λ q. omega arith) e) in omega arith
  sum_by-of_one (x ∷ xs) (suc i) v at blank = let a = blank 0 x (λ q. omega arith) refl in let b = sum_by-cons f x xs in let c = sum_by-of_one xs i v at (λ j w ne e. blank (suc j) w (λ q. ne (omega arith)) e) in omega arith

module _ {A : Type 0} where
  pub in_range : (l : List A) (i : ℕ) (v : A) → get_elem? l i ≡ some v → i < length l
  in_range [] i v e = absurd (some-ne-none v (sym e))
  in_range (x ∷ xs) zero v e = omega arith
  in_range (x ∷ xs) (suc i) v e = let h : i < length xs = in_range xs i v e in omega arith

  -- what stands in a list with one more at its end
  pub at_end : (l : List A) (a b : A) (j : ℕ) → get_elem? (l ++ a ∷ []) j ≡ some b → (get_elem? l j ≡ some b) ⊎ ((j ≡ length l) × (a ≡ b))
  at_end [] a b zero e = inr (refl, some-injective a b e)
  at_end [] a b (suc j) e = absurd (some-ne-none b (sym e))
  at_end (x ∷ xs) a b zero e = inl e
  at_end (x ∷ xs) a b (suc j) e = ⊎_elim (λ t. inl t) (λ t. inr (ap suc t.0, t.1)) (at_end xs a b j e)

  -- what holds of the new element, and of each other at its place
  pub each_of_set : (P : ℕ → A → Type 0) (l : List A) (i : ℕ) (w : A) → P i w → ((j : ℕ) (d : A) → j ≢ i → get_elem? l j ≡ some d → P j d)
      → (j : ℕ) (d : A) → get_elem? (set l i w) j ≡ some d → P j d
  each_of_set P l i w mine others j d e = ⊎_elim (λ (t : (j ≡ i) × (w ≡ d)). subst (λ (x : ℕ × A). P x.0 x.1) (λ k. (sym t.0 k, t.1 k)) mine)
      (λ (t : (j ≢ i) × (get_elem? l j ≡ some d)). others j d t.0 t.1) (at_set l i j w d e)
