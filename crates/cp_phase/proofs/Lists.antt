-- Lists read by place, cut in rows, filtered twice, and numbered; and ascending numbers.
use Rattle.std.proofs.Common.{◌≡◌, ◌≢◌, ℕ, zero, suc, ◌+◌, ◌<◌, ◌≤◌, Bool, true, false, cond, ◌⊎◌, List, [], ◌∷◌, ◌++◌, length, take, drop, get_or, slice_get, Some, All, AllPairs, Contains, filter, refl, sym, ap, subst, ◌∙◌, inl, inr, ⊎_elim, arith, take_all, append-nil, length-drop}
use Rattle.std.specs.Prelude.{◌==◌, if◌then◌else◌}
use Rattle.std.specs.List.{AllZip, enumerate_from, range_with_len}
use Rattle.std.proofs.lemmas.Bool.{cases_lt}
use Rattle.std.proofs.lemmas.List.Sums.{sum_by-cons}
use Rattle.std.proofs.lemmas.List.{take-append-le, drop-append-le, drop_all}
use Rattle.std.proofs.lemmas.List.Elements.{All-append, All-contains}
use Rattle.std.proofs.lemmas.List.Kept.{AllPairs-cons}
use Rattle.std.proofs.lemmas.List.FromFn.{length-enumerate_from, get_or-enumerate_from}
use Rattle.std.proofs.Math.Seq.{drop-append_seam}
use Rattle.std.proofs.lemmas.Option.{none-some, same_Some}
use Rattle.cp_claim.specs.Views.{times, once_below}
use Rattle.cp_logic.proofs.Members.{none_in, in_here, in_later, in_cases}

module _ {A : Type 0} where
  -- ---- places

  -- what stands in a list with one more at its end
  pub at_end : (l : List A) (a b : A) (i : ℕ) → slice_get (l ++ a ∷ []) i ≡ Some b → (slice_get l i ≡ Some b) ⊎ ((i ≡ length l) × (a ≡ b))
  at_end [] a b zero e = inr (refl, same_Some a b e)
  at_end [] a b (suc i) e = absurd (none-some b e)
  at_end (x ∷ xs) a b zero e = inl e
  at_end (x ∷ xs) a b (suc i) e = ⊎_elim (λ t. inl t) (λ t. inr (ap suc t.0, t.1)) (at_end xs a b i e)

  pub at_front : (l m : List A) (i : ℕ) → i < length l → slice_get (l ++ m) i ≡ slice_get l i
  at_front [] m i low = absurd (omega arith)
  at_front (x ∷ xs) m zero low = refl
  at_front (x ∷ xs) m (suc i) low = at_front xs m i (omega arith)

  pub at_back : (l m : List A) (i k : ℕ) → k ≡ length l + i → slice_get (l ++ m) k ≡ slice_get m i
  at_back [] m i k e = ap (slice_get m) (let e' : k ≡ i = omega arith in e')
  at_back (x ∷ xs) m i zero e = absurd (omega arith)
  at_back (x ∷ xs) m i (suc k) e = at_back xs m i k (omega arith)

  pub some_at : (l : List A) (i : ℕ) → i < length l → (a : A) × (slice_get l i ≡ Some a)
  some_at [] i low = absurd (omega arith)
  some_at (x ∷ xs) zero low = (x, refl)
  some_at (x ∷ xs) (suc i) low = some_at xs i (omega arith)

  -- ---- rows

  pub row_front : (n m : ℕ) (xs ys : List A) → n + m ≤ length xs → take m (drop n (xs ++ ys)) ≡ take m (drop n xs)
  row_front n m xs ys low = ap (take m) (drop-append-le n xs ys (omega arith)) ∙ take-append-le m (drop n xs) ys (omega (arith, length-drop n xs))

  pub row_back : (n m : ℕ) (xs ys : List A) → n ≡ length xs → length ys ≤ m → take m (drop n (xs ++ ys)) ≡ ys
  row_back n m xs ys e few = ap (λ (k : ℕ). take m (drop k (xs ++ ys))) e ∙ (ap (take m) (drop-append_seam xs ys) ∙ take_all m ys few)

  pub row_past : (n m : ℕ) (xs : List A) → length xs ≤ n → take m (drop n xs) ≡ []
  row_past n m xs past = ap (take m) (drop_all n xs past) ∙ take_all m [] (omega arith)

  -- a list that was written over as a whole
  pub written_over : (k : ℕ) (new old : List A) → length new ≡ length old → length old ≡ k → take k (new ++ drop (length new) old) ≡ new
  written_over k new old same long = ap (λ l. take k (new ++ l)) (drop_all (length new) old (omega arith)) ∙ (ap (take k) (append-nil new) ∙ take_all k new (omega arith))

  -- ---- filters

  pub filter-none : (p : A → Bool) (xs : List A) → All (λ x. p x ≡ false) xs → filter p xs ≡ []
  filter-none p [] none = refl
  filter-none p (x ∷ xs) none = ap (λ (b : Bool). cond b (x ∷ filter p xs) (filter p xs)) (none 0 x (omega arith)) ∙ filter-none p xs (λ k d low. none (suc k) d (omega arith))

  pub filter-all : (p : A → Bool) (xs : List A) → All (λ x. p x ≡ true) xs → filter p xs ≡ xs
  filter-all p [] all = refl
  filter-all p (x ∷ xs) all =
      ap (λ (b : Bool). cond b (x ∷ filter p xs) (filter p xs)) (all 0 x (omega arith)) ∙ ap (λ ys. x ∷ ys) (filter-all p xs (λ k d low. all (suc k) d (omega arith)))

  -- ---- pairs

  pub AllPairs-append : (R : A → A → Type 0) (xs ys : List A) → AllPairs R xs → AllPairs R ys → ((x : A) → Contains xs x → All (R x) ys) → AllPairs R (xs ++ ys)
  AllPairs-append R [] ys a b cross = b
  AllPairs-append R (x ∷ xs) ys a b cross =
      AllPairs-cons R x (xs ++ ys)
      (All-append (R x) xs ys (λ k d low. a 0 (suc k) d (omega arith) (omega arith)) (cross x (in_here x x xs refl)))
      (AllPairs-append R xs ys (λ i j d less low. a (suc i) (suc j) d (omega arith) (omega arith)) b (λ z m. cross z (in_later z x xs m)))

  -- of two elements of which the first can't come after the second
  pub before : (R S : A → A → Type 0) (xs : List A) → AllPairs R xs → AllPairs S xs → (x y : A) → Contains xs x → Contains xs y → (x ≡ y → ⊥) → (R y x → ⊥) → S x y
  before R S [] r s x y mx my apart late = absurd (none_in x mx)
  before R S (z ∷ zs) r s x y mx my apart late = elim (in_cases x z zs mx) [
    | inl a ↦ elim (in_cases y z zs my) [
      | inl b ↦ absurd (apart (sym a ∙ b))
      | inr n ↦ subst (λ (w : A). S w y) a (All-contains (S z) zs y (λ k d low. s 0 (suc k) d (omega arith) (omega arith)) n)
    ]
    | inr m ↦ elim (in_cases y z zs my) [
      | inl b ↦ absurd (late (subst (λ (w : A). R w x) b (All-contains (R z) zs x (λ k d low. r 0 (suc k) d (omega arith) (omega arith)) m)))
      | inr n ↦ before R S zs (λ i j d less low. r (suc i) (suc j) d (omega arith) (omega arith)) (λ i j d less low. s (suc i) (suc j) d (omega arith) (omega arith)) x y m n apart late
    ]
  ]

  pub ascending : (n : ℕ) (xs : List A) → AllPairs (λ p q. p.0 < q.0) (enumerate_from n xs)
  ascending n xs i j d less low =
      let long = length-enumerate_from n xs in
      let a : (get_or (enumerate_from n xs) i d).0 ≡ n + i = ap (λ (q : ℕ × A). q.0) (get_or-enumerate_from n xs i d (omega arith)) in
      let b : (get_or (enumerate_from n xs) j d).0 ≡ n + j = ap (λ (q : ℕ × A). q.0) (get_or-enumerate_from n xs j d (omega arith)) in
      omega arith

  pub in_enumerated : (n : ℕ) (xs : List A) (i : ℕ) (d : A) → i < length xs → Contains (enumerate_from n xs) (n + i, get_or xs i d)
  in_enumerated n xs i d low = (i, omega (arith, length-enumerate_from n xs), get_or-enumerate_from n xs i (n + i, get_or xs i d) low ∙ ap (λ (a : A). (n + i, a)) (same_read xs i (get_or xs i d) d low))
    where
      same_read : (l : List A) (k : ℕ) (a b : A) → k < length l → get_or l k a ≡ get_or l k b
      same_read [] k a b less = absurd (omega arith)
      same_read (x ∷ l) zero a b less = refl
      same_read (x ∷ l) (suc k) a b less = same_read l k a b (omega arith)

-- lists that are related place by place
pub zip_from : {A : Type 0} (R : A → A → Type 0) (xs ys : List A) → length ys ≡ length xs → ((i : ℕ) (d : A) → i < length xs → R (get_or xs i d) (get_or ys i d)) → AllZip R xs ys
zip_from R [] [] e h = tt
zip_from R [] (y ∷ ys) e h = absurd (omega arith)
zip_from R (x ∷ xs) [] e h = absurd (omega arith)
zip_from R (x ∷ xs) (y ∷ ys) e h = (h 0 x (omega arith), zip_from R xs ys (omega arith) (λ i d low. h (suc i) d (omega arith)))

-- ---- ascending numbers

-- how often the number stands at the front
abbrev here : ℕ → ℕ → ℕ
here x y = if y == x then 1 else 0

times-here : (x : ℕ) → here x x ≡ 1
times-here x = grind arith

times-else : (x y : ℕ) → x ≢ y → here x y ≡ 0
times-else x y apart = grind arith

times-above : (x : ℕ) (ys : List ℕ) → All (λ y. x < y) ys → times x ys ≡ 0
times-above x [] above = refl
times-above x (y ∷ ys) above =
    let a : times x (y ∷ ys) ≡ here x y + times x ys = sum_by-cons (here x) y ys in let b = times-else x y (λ e. let t = above 0 x (omega arith) in omega arith) in let c = times-above x ys (λ k d low. above (suc k) d (omega arith)) in omega arith

-- ascending numbers from a on, where below each of them stand all others from a on, are a, a + 1, ..
pub counts_up : (a : ℕ) (xs : List ℕ) → AllPairs (λ x y. x < y) xs → All (λ x. a ≤ x) xs → ((x y : ℕ) → a ≤ x → x < y → 0 < times y xs → 0 < times x xs) → xs ≡ range_with_len a (length xs)
counts_up a [] up from all = refl
counts_up a (y ∷ ys) up from all = ap (λ z. z ∷ ys) first ∙ ap (λ zs. a ∷ zs) (counts_up (a + 1) ys (λ i j d less low. up (suc i) (suc j) d (omega arith) (omega arith)) later rest)
  where
    above : All (λ z. y < z) ys
    above k d low = up 0 (suc k) d (omega arith) (omega arith)

    first : y ≡ a
    first = ⊎_elim
        (λ (less : a < y).
        let own : times y (y ∷ ys) ≡ here y y + times y ys = sum_by-cons (here y) y ys in let one = times-here y in
        let found = all a y (omega arith) less (omega arith) in
        let a' : times a (y ∷ ys) ≡ here a y + times a ys = sum_by-cons (here a) y ys in let b = times-else a y (λ e. omega arith) in
        let c = times-above a ys (λ k d low. let t = above k d low in omega arith) in absurd (omega arith))
        (λ (ge : y ≤ a). let low = from 0 a (omega arith) in (let e : y ≡ a = omega arith in e))
        (cases_lt a y)

    later : All (λ z. a + 1 ≤ z) ys
    later k d low = let t = above k d low in let e = first in omega arith

    rest : (x z : ℕ) → a + 1 ≤ x → x < z → 0 < times z ys → 0 < times x ys
    rest x z low less some =
        let e = first in let m : times z (y ∷ ys) ≡ here z y + times z ys = sum_by-cons (here z) y ys in let found = all x z (omega arith) less (omega arith) in
        let n : times x (y ∷ ys) ≡ here x y + times x ys = sum_by-cons (here x) y ys in let none = times-else x y (λ q. omega arith) in omega arith

-- ascending numbers of which each below the bound stands once, and no other stands, are 0, 1, ..
pub first_numbers : (n : ℕ) (xs : List ℕ) → AllPairs (λ x y. x < y) xs → ((x : ℕ) → times x xs ≡ once_below x n) → xs ≡ range_with_len 0 (length xs)
first_numbers n xs up each = counts_up 0 xs up (λ k d low. omega arith) (λ x y from less some. let a = each x in let b = each y in let c = once-before x y less (omega arith) in omega arith)
  where
    once-before : (x y : ℕ) → x < y → 0 < once_below y n → once_below x n ≡ 1
    once-before x y less some = grind arith
