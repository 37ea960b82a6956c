-- Lists of locks, posts, notes, shares and seats.
use Rattle.std.proofs.Common.{◌≡◌, ◌≢◌, ℕ, zero, suc, ◌+◌, ◌<◌, ◌≤◌, eqb, Bool, true, false, cond, ◌⊎◌, List, [], ◌∷◌, ◌++◌, length, set, Some, None, All, sym, refl, ap, ◌∙◌, inl, inr, ⊎_elim, arith, eq-eqb, ne_eqb, append-nil, zero-add}
use Rattle.std.specs.List.{Contains, filter, enumerate_from}
use Rattle.std.proofs.lemmas.List.Elements.{filter-append, Contains-append_left, Contains-append_right, Contains-append_cases}
use mathlib.Core.Option.{some, some-injective, some-ne-none}
use mathlib.Core.Logic.{dite}
use Rattle.std.specs.Prelude.{sum_by}
use Rattle.std.proofs.lemmas.List.Sums.{sum_by-cons}
use native.Mathlib.Decide.{ℕ_discrete}
use lib.ListN.{get_elem?}
use Rattle.cp_logic.specs.declared.named.Named.{Named}
use Rattle.cp_logic.specs.Entries.{Entry}
use Rattle.cp_logic.specs.Journals.{Post, posts_of}
use Rattle.cp_logic.specs.Locality.{after}
use Rattle.cp_logic.proofs.Members.{none_in, in_here, in_cases}
use Rattle.cp_yard.specs.Views.{Lock, lock, held_of, without_lock, locks_after, Share, times, once_below}

-- ---- locks

pub held_of-without : (x : ℕ) (ks : List Lock) → held_of x (without_lock x ks) ≡ None
held_of-without x [] = refl
held_of-without x (k ∷ ks) = grind (arith, held_of-without x ks)

pub held_of-others : (x y : ℕ) (ks : List Lock) → y ≢ x → held_of y (without_lock x ks) ≡ held_of y ks
held_of-others x y [] ne = refl
held_of-others x y (k ∷ ks) ne = grind (arith, held_of-others x y ks ne)

pub held_of-same : (x : ℕ) (cs : List Named) (ks : List Lock) → held_of x (lock x cs ∷ ks) ≡ Some cs
held_of-same x cs ks = grind arith

pub held_of-other : (x y : ℕ) (cs : List Named) (ks : List Lock) → y ≢ x → held_of y (lock x cs ∷ ks) ≡ held_of y ks
held_of-other x y cs ks ne = grind arith

pub held_of-after : (e : Entry) (x : ℕ) (ks : List Lock) (cs : List Named) → held_of x ks ≡ Some cs → held_of x (locks_after e ks) ≡ Some (after cs x e)
held_of-after e x [] cs h = grind arith
held_of-after e x (k ∷ ks) cs h = dite (ℕ_discrete k.variable x) (λ same. grind arith) (λ ne. grind (arith, held_of-after e x ks cs))

pub held_of-before : (e : Entry) (x : ℕ) (ks : List Lock) (cs : List Named) → held_of x (locks_after e ks) ≡ Some cs → (ds : List Named) × (held_of x ks ≡ Some ds) × (cs ≡ after ds x e)
held_of-before e x [] cs h = grind arith
held_of-before e x (k ∷ ks) cs h = dite (ℕ_discrete k.variable x) (λ same. (k.clauses, grind arith, grind arith)) (λ ne. let r = held_of-before e x ks cs (grind arith) in (r.0, grind arith, r.2))

-- ---- posts

enumerate_from-append : (n : ℕ) (h : List Post) (p : Post) → enumerate_from n (h ++ p ∷ []) ≡ enumerate_from n h ++ (n + length h, p) ∷ []
enumerate_from-append n [] p = ap (λ (k : ℕ). (k, p) ∷ []) (let e : n ≡ n + 0 = omega arith in e)
enumerate_from-append n (q ∷ qs) p = ap (λ zs. (n, q) ∷ zs) (enumerate_from-append (n + 1) qs p ∙ ap (λ (k : ℕ). enumerate_from (n + 1) qs ++ (k, p) ∷ []) (let e : n + 1 + length qs ≡ n + suc (length qs) = omega arith in e))

abbrev is_by : ℕ → ℕ × Post → Bool
is_by w q = eqb q.1.worker w

posts_of-append : (h : List Post) (p : Post) (w : ℕ) → posts_of (h ++ p ∷ []) w ≡ posts_of h w ++ filter (is_by w) ((length h, p) ∷ [])
posts_of-append h p w = ap (filter (is_by w)) (enumerate_from-append 0 h p) ∙ (filter-append (is_by w) (enumerate_from 0 h) ((0 + length h, p) ∷ []) ∙ ap (λ (k : ℕ). posts_of h w ++ filter (is_by w) ((k, p) ∷ [])) (zero-add (length h)))

pub posts_of-own : (h : List Post) (p : Post) (w : ℕ) → p.worker ≡ w → posts_of (h ++ p ∷ []) w ≡ posts_of h w ++ (length h, p) ∷ []
posts_of-own h p w e = posts_of-append h p w ∙ ap (λ (b : Bool). posts_of h w ++ cond b ((length h, p) ∷ []) []) (eq-eqb p.worker w e)

pub posts_of-other : (h : List Post) (p : Post) (w : ℕ) → p.worker ≢ w → posts_of (h ++ p ∷ []) w ≡ posts_of h w
posts_of-other h p w ne = posts_of-append h p w ∙ (ap (λ (b : Bool). posts_of h w ++ cond b ((length h, p) ∷ []) []) (ne_eqb p.worker w ne) ∙ append-nil (posts_of h w))

none_by : (n : ℕ) (h : List Post) (count w : ℕ) → All (λ p. p.worker < count) h → count ≤ w → filter (is_by w) (enumerate_from n h) ≡ []
none_by n [] count w all far = refl
none_by n (p ∷ ps) count w all far = let small : p.worker < count = all 0 p (omega arith) in let b : eqb p.worker w ≡ false = ne_eqb p.worker w (λ e. omega arith) in
    let rest : All (λ (q : Post). q.worker < count) ps = (λ k d l. all (suc k) d (omega arith)) in
    ap (λ (z : Bool). cond z ((n, p) ∷ filter (is_by w) (enumerate_from (n + 1) ps)) (filter (is_by w) (enumerate_from (n + 1) ps))) b ∙ none_by (n + 1) ps count w rest far

pub posts_of-none : (h : List Post) (count w : ℕ) → All (λ p. p.worker < count) h → count ≤ w → posts_of h w ≡ []
posts_of-none h count w all far = none_by 0 h count w all far

-- ---- elements

module _ {A : Type 0} where
  pub in_front : (x y : A) (ys : List A) → Contains (y ∷ ys) x → (x ≡ y) ⊎ Contains ys x
  in_front x y ys h = ⊎_elim (λ e. inl (sym e)) (λ t. inr t) (in_cases x y ys h)

  pub in_snoc : (x y : A) (xs : List A) → Contains (xs ++ y ∷ []) x → Contains xs x ⊎ (x ≡ y)
  in_snoc x y xs h = ⊎_elim (λ a. inl a) (λ b. ⊎_elim (λ e. inr e) (λ c. absurd (none_in x c)) (in_front x y [] b)) (Contains-append_cases xs (y ∷ []) x h)

  pub in_left : (x : A) (xs ys : List A) → Contains xs x → Contains (xs ++ ys) x
  in_left x xs ys h = Contains-append_left xs ys x h

  pub in_last : (x : A) (xs : List A) → Contains (xs ++ x ∷ []) x
  in_last x xs = Contains-append_right xs (x ∷ []) x (in_here x x [] refl)

  pub at_end : (l : List A) (a b : A) (j : ℕ) → get_elem? (l ++ a ∷ []) j ≡ some b → (get_elem? l j ≡ some b) ⊎ ((j ≡ length l) × (a ≡ b))
  at_end [] a b zero e = inr (refl, some-injective a b e)
  at_end [] a b (suc j) e = absurd (some-ne-none b (sym e))
  at_end (x ∷ xs) a b zero e = inl e
  at_end (x ∷ xs) a b (suc j) e = ⊎_elim (λ t. inl t) (λ t. inr (ap suc t.0, t.1)) (at_end xs a b j e)

  pub in_range : (l : List A) (i : ℕ) (v : A) → get_elem? l i ≡ some v → i < length l
  in_range [] i v e = absurd (some-ne-none v (sym e))
  in_range (x ∷ xs) zero v e = omega arith
  in_range (x ∷ xs) (suc i) v e = let h : i < length xs = in_range xs i v e in omega arith

-- ---- sums over seats

module _ {A : Type 0} (f : A → ℕ) where
  pub sum_by-set_at : (l : List A) (i : ℕ) (v w : A) → get_elem? l i ≡ some v → sum_by f (set l i w) + f v ≡ sum_by f l + f w
  sum_by-set_at [] i v w e = absurd (some-ne-none v (sym e))
  sum_by-set_at (x ∷ xs) zero v w e = let g : f x ≡ f v = ap f (some-injective x v e) in let a = sum_by-cons f x xs in let b = sum_by-cons f w xs in omega arith
  sum_by-set_at (x ∷ xs) (suc i) v w e = let a = sum_by-cons f x xs in let b = sum_by-cons f x (set xs i w) in let c = sum_by-set_at xs i v w e in omega arith

  pub term-le-sum_by : (l : List A) (i : ℕ) (v : A) → get_elem? l i ≡ some v → f v ≤ sum_by f l
  term-le-sum_by [] i v e = absurd (some-ne-none v (sym e))
  term-le-sum_by (x ∷ xs) zero v e = let g : f x ≡ f v = ap f (some-injective x v e) in let a = sum_by-cons f x xs in omega arith
  term-le-sum_by (x ∷ xs) (suc i) v e = let a = sum_by-cons f x xs in let b = term-le-sum_by xs i v e in omega arith

  pub two_terms-le-sum_by : (l : List A) (i j : ℕ) (v w : A) → i ≢ j → get_elem? l i ≡ some v → get_elem? l j ≡ some w → f v + f w ≤ sum_by f l
  two_terms-le-sum_by [] i j v w ne e g = absurd (some-ne-none v (sym e))
  two_terms-le-sum_by (x ∷ xs) zero zero v w ne e g = absurd (ne refl)
  two_terms-le-sum_by (x ∷ xs) zero (suc j) v w ne e g = let a : f x ≡ f v = ap f (some-injective x v e) in let b = sum_by-cons f x xs in let c = term-le-sum_by xs j w g in omega arith
  two_terms-le-sum_by (x ∷ xs) (suc i) zero v w ne e g = let a : f x ≡ f w = ap f (some-injective x w g) in let b = sum_by-cons f x xs in let c = term-le-sum_by xs i v e in omega arith
  two_terms-le-sum_by (x ∷ xs) (suc i) (suc j) v w ne e g = let b = sum_by-cons f x xs in let c = two_terms-le-sum_by xs i j v w (λ q. ne (ap suc q)) e g in omega arith

-- ---- shares

pub times_in : (w : ℕ) (k : Share) (ks : List Share) → Contains ks k → k.number ≡ w → 0 < times w ks
times_in w k [] h e = absurd (none_in k h)
times_in w k (j ∷ js) h e = ⊎_elim
    (λ (q : k ≡ j). let g : j.number ≡ w = ap (λ (z : Share). z.number) (sym q) ∙ e in let t : eqb j.number w ≡ true = eq-eqb j.number w g in grind arith)
    (λ (t : Contains js k). omega (arith, times_in w k js t e)) (in_front k j js h)

pub times-append : (w : ℕ) (ks js : List Share) → times w (ks ++ js) ≡ times w ks + times w js
times-append w [] js = omega arith
times-append w (k ∷ ks) js = omega (arith, times-append w ks js)

pub once_le : (w n : ℕ) → once_below w n ≤ 1
once_le w n = grind arith
