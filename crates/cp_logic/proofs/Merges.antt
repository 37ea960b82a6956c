-- Subsets and resolvents of ascending clauses, a literal at a time.
use Rattle.std.proofs.Common.{◌≡◌, ℕ, zero, suc, ◌+◌, ◌<◌, ◌≤◌, Bool, true, false, not, List, [], ◌∷◌, ◌++◌, length, take, drop, get_or, add-one, append_assoc, refl, sym, ◌∙◌, ap, subst, inl, inr, arith}
use Rattle.std.specs.Prelude.{◌⊎◌, ◌==◌}
use Rattle.std.specs.List.{Contains, All, list_all}
use Rattle.std.proofs.lemmas.Bool.{cases_eq, cases_lt, cases_order, and_parts, eq-eqb, ne_eqb, false≢true, false_from_ne_true}
use Rattle.std.proofs.lemmas.List.Elements.{All-push, All-append, All-filter, All-contains, Contains-append_left, Contains-append_right, Contains-append_cases}
use Rattle.std.proofs.lemmas.List.{append-nil}
use Rattle.cp_logic.specs.Literals.{negated, IsLiteral}
use Rattle.cp_logic.specs.Clauses.{contains, is_subset, without, clause_of, resolvent, IsAscending, IsClause}
use Rattle.cp_logic.proofs.Members.{all_from, in_cases, in_here, in_later, none_in, contains-in, in_contains}
use Rattle.cp_logic.proofs.Ascending.{below_others, IsAscending-cons, IsAscending-push, IsAscending-filter}
use Rattle.cp_logic.proofs.SetFacts.{same_set, IsAscending-clause_of, of_clause_of, in_clause_of, subset-in, of_without}
use Rattle.cp_logic.proofs.Locals.{same_bool}

-- ---- one literal

pub contains-passed : (x l : ℕ) (xs : List ℕ) → IsAscending (x ∷ xs) → l < x → contains (x ∷ xs) l ≡ false
contains-passed x l xs a h = false_from_ne_true (contains (x ∷ xs) l) (λ t. elim (in_cases l x xs (contains-in (x ∷ xs) l t)) [
  | inl e ↦ absurd (omega arith)
  | inr i ↦ let b : x < l = below_others x xs l a i in absurd (omega arith)
])

pub contains-later : (x l : ℕ) (xs : List ℕ) → x < l → contains (x ∷ xs) l ≡ contains xs l
contains-later x l xs h = rw (ne_eqb x l (omega arith))

pub contains-here : (x l : ℕ) (xs : List ℕ) → x ≡ l → contains (x ∷ xs) l ≡ true
contains-here x l xs e = in_contains (x ∷ xs) l (in_here l x xs e)

-- ---- subsets

pub subset-found : (l m : ℕ) (ls ms : List ℕ) → IsAscending (l ∷ ls) → l ≡ m → is_subset (l ∷ ls) (m ∷ ms) ≡ is_subset ls ms
subset-found l m ls ms a e = same_bool (is_subset (l ∷ ls) (m ∷ ms)) (is_subset ls ms)
    (λ t. all_from (contains ms) ls (λ x i. elim (in_cases x m ms (subset-in (l ∷ ls) (m ∷ ms) t x (in_later x l ls i))) [
      | inl d ↦ let b : l < x = below_others l ls x a i in absurd (omega arith)
      | inr j ↦ in_contains ms x j
    ]))
    (λ t. all_from (contains (m ∷ ms)) (l ∷ ls) (λ x i. elim (in_cases x l ls i) [
      | inl d ↦ in_contains (m ∷ ms) x (in_here x m ms (sym e ∙ d))
      | inr j ↦ in_contains (m ∷ ms) x (in_later x m ms (subset-in ls ms t x j))
    ]))

pub subset-later : (l m : ℕ) (ls ms : List ℕ) → IsAscending (l ∷ ls) → m < l → is_subset (l ∷ ls) (m ∷ ms) ≡ is_subset (l ∷ ls) ms
subset-later l m ls ms a h = same_bool (is_subset (l ∷ ls) (m ∷ ms)) (is_subset (l ∷ ls) ms)
    (λ t. all_from (contains ms) (l ∷ ls) (λ x i. elim (in_cases x m ms (subset-in (l ∷ ls) (m ∷ ms) t x i)) [
      | inl d ↦ elim (in_cases x l ls i) as (λ _. contains ms x ≡ true) [
        | inl e ↦ absurd (omega arith)
        | inr j ↦ let b : l < x = below_others l ls x a j in absurd (omega arith)
      ]
      | inr j ↦ in_contains ms x j
    ]))
    (λ t. all_from (contains (m ∷ ms)) (l ∷ ls) (λ x i. in_contains (m ∷ ms) x (in_later x m ms (subset-in (l ∷ ls) ms t x i))))

pub subset-passed : (l m : ℕ) (ls ms : List ℕ) → IsAscending (m ∷ ms) → l < m → is_subset (l ∷ ls) (m ∷ ms) ≡ false
subset-passed l m ls ms a h = false_from_ne_true (is_subset (l ∷ ls) (m ∷ ms))
    (λ t. false≢true (sym (contains-passed m l ms a h) ∙ (and_parts (contains (m ∷ ms) l) (list_all (contains (m ∷ ms)) ls) t).0))

subset-length : (ls ms : List ℕ) → IsAscending ls → IsAscending ms → is_subset ls ms ≡ true → length ls ≤ length ms
subset-length [] ms a b t = omega arith
subset-length (l ∷ ls) [] a b t = absurd (false≢true t)
subset-length (l ∷ ls) (m ∷ ms) a b t = go (cases_order l m) (subset-length ls ms a.1 b.1) (subset-length (l ∷ ls) ms a b.1)
  where
    go : (l ≡ m) ⊎ ((l < m) ⊎ (m < l)) → (is_subset ls ms ≡ true → length ls ≤ length ms) → (is_subset (l ∷ ls) ms ≡ true → length (l ∷ ls) ≤ length ms) → length (l ∷ ls) ≤ length (m ∷ ms)
    go (inl e) both one = let n : length ls ≤ length ms = both (sym (subset-found l m ls ms a e) ∙ t) in omega arith
    go (inr (inl h)) both one = absurd (false≢true (sym (subset-passed l m ls ms b h) ∙ t))
    go (inr (inr h)) both one = let n : length (l ∷ ls) ≤ length ms = one (sym (subset-later l m ls ms a h) ∙ t) in omega arith

pub subset-longer : (ls ms : List ℕ) → IsAscending ls → IsAscending ms → length ms < length ls → is_subset ls ms ≡ false
subset-longer ls ms a b h = false_from_ne_true (is_subset ls ms) (λ t. let n : length ls ≤ length ms = subset-length ls ms a b t in omega arith)

-- ---- resolvents

-- a clause of which the first literal is known
clause_of-cons : (l : ℕ) (us vs : List ℕ) → ((z : ℕ) → Contains us z → (l ≡ z) ⊎ Contains vs z) → Contains us l → ((z : ℕ) → Contains vs z → Contains us z) → ((z : ℕ) → Contains vs z → l < z)
    → clause_of us ≡ l ∷ clause_of vs
clause_of-cons l us vs split here back above =
    same_set (clause_of us) (l ∷ clause_of vs) (IsAscending-clause_of us) (IsAscending-cons l (clause_of vs) (λ z i. above z (of_clause_of vs z i)) (IsAscending-clause_of vs))
    (λ z i. elim (split z (of_clause_of us z i)) [ inl e ↦ in_here z l (clause_of vs) e | inr j ↦ in_later z l (clause_of vs) (in_clause_of vs z j) ])
    (λ z i. elim (in_cases z l (clause_of vs) i) [ inl e ↦ subst (Contains (clause_of us)) e (in_clause_of us l here) | inr j ↦ in_clause_of us z (back z (of_clause_of vs z j)) ])

pub without-here : (x l : ℕ) (xs : List ℕ) → x ≡ l → without (x ∷ xs) l ≡ without xs l
without-here x l xs e = rw (eq-eqb x l e)

pub without-other : (x l : ℕ) (xs : List ℕ) → (x ≡ l → ⊥) → without (x ∷ xs) l ≡ x ∷ without xs l
without-other x l xs n = rw (ne_eqb x l n)

pub resolvent-left_pivot : (p x : ℕ) (xs ys : List ℕ) → x ≡ p → resolvent p (x ∷ xs) ys ≡ resolvent p xs ys
resolvent-left_pivot p x xs ys e = ap (λ zs. clause_of (zs ++ without ys (negated p))) (without-here x p xs e)

pub resolvent-right_pivot : (p y : ℕ) (xs ys : List ℕ) → y ≡ negated p → resolvent p xs (y ∷ ys) ≡ resolvent p xs ys
resolvent-right_pivot p y xs ys e = ap (λ zs. clause_of (without xs p ++ zs)) (without-here y (negated p) ys e)

module _ (p : ℕ) (xs ys : List ℕ) where
  in_left : (z : ℕ) → Contains (without xs p) z → Contains (without xs p ++ without ys (negated p)) z
  in_left z i = Contains-append_left (without xs p) (without ys (negated p)) z i

  in_right : (z : ℕ) → Contains (without ys (negated p)) z → Contains (without xs p ++ without ys (negated p)) z
  in_right z i = Contains-append_right (without xs p) (without ys (negated p)) z i

  above-all : (l : ℕ) → ((z : ℕ) → Contains xs z → l < z) → ((z : ℕ) → Contains ys z → l < z) → (z : ℕ) → Contains (without xs p ++ without ys (negated p)) z → l < z
  above-all l h k z i = elim (Contains-append_cases (without xs p) (without ys (negated p)) z i) [
    | inl j ↦ h z (of_without xs p z j).0
    | inr j ↦ k z (of_without ys (negated p) z j).0
  ]

  pub resolvent-left : (x : ℕ) → (x ≡ p → ⊥) → IsAscending (x ∷ xs) → ((z : ℕ) → Contains ys z → x < z) → resolvent p (x ∷ xs) ys ≡ x ∷ resolvent p xs ys
  resolvent-left x n a h =
      ap (λ zs. clause_of (zs ++ without ys (negated p))) (without-other x p xs n)
      ∙ clause_of-cons x (x ∷ without xs p ++ without ys (negated p)) (without xs p ++ without ys (negated p))
      (λ z i. in_cases z x (without xs p ++ without ys (negated p)) i)
      (in_here x x (without xs p ++ without ys (negated p)) refl)
      (λ z i. in_later z x (without xs p ++ without ys (negated p)) i)
      (above-all x (λ z i. below_others x xs z a i) h)

  pub resolvent-right : (y : ℕ) → (y ≡ negated p → ⊥) → IsAscending (y ∷ ys) → ((z : ℕ) → Contains xs z → y < z) → resolvent p xs (y ∷ ys) ≡ y ∷ resolvent p xs ys
  resolvent-right y n a h =
      ap (λ zs. clause_of (without xs p ++ zs)) (without-other y (negated p) ys n)
      ∙ clause_of-cons y (without xs p ++ y ∷ without ys (negated p)) (without xs p ++ without ys (negated p))
      (λ z i. elim (Contains-append_cases (without xs p) (y ∷ without ys (negated p)) z i) [
        | inl j ↦ inr (in_left z j)
        | inr j ↦ elim (in_cases z y (without ys (negated p)) j) [ inl e ↦ inl e | inr k ↦ inr (in_right z k) ]
      ])
      (Contains-append_right (without xs p) (y ∷ without ys (negated p)) y (in_here y y (without ys (negated p)) refl))
      (λ z i. elim (Contains-append_cases (without xs p) (without ys (negated p)) z i) [
        | inl j ↦ Contains-append_left (without xs p) (y ∷ without ys (negated p)) z j
        | inr j ↦ Contains-append_right (without xs p) (y ∷ without ys (negated p)) z (in_later z y (without ys (negated p)) j)
      ])
      (above-all y h (λ z i. below_others y ys z a i))

  pub resolvent-both : (x y : ℕ) → (x ≡ p → ⊥) → (y ≡ negated p → ⊥) → x ≡ y → IsAscending (x ∷ xs) → IsAscending (y ∷ ys) → resolvent p (x ∷ xs) (y ∷ ys) ≡ x ∷ resolvent p xs ys
  resolvent-both x y n m e a b =
      ap (λ zs. clause_of (zs ++ without (y ∷ ys) (negated p))) (without-other x p xs n)
      ∙ ap (λ zs. clause_of (x ∷ without xs p ++ zs)) (without-other y (negated p) ys m)
      ∙ clause_of-cons x (x ∷ without xs p ++ y ∷ without ys (negated p)) (without xs p ++ without ys (negated p))
      (λ z i. elim (in_cases z x (without xs p ++ y ∷ without ys (negated p)) i) [
        | inl d ↦ inl d
        | inr j ↦ elim (Contains-append_cases (without xs p) (y ∷ without ys (negated p)) z j) [
          | inl k ↦ inr (in_left z k)
          | inr k ↦ elim (in_cases z y (without ys (negated p)) k) [ inl d ↦ inl (e ∙ d) | inr l ↦ inr (in_right z l) ]
        ]
      ])
      (in_here x x (without xs p ++ y ∷ without ys (negated p)) refl)
      (λ z i. in_later z x (without xs p ++ y ∷ without ys (negated p)) (elim (Contains-append_cases (without xs p) (without ys (negated p)) z i) [
        | inl j ↦ Contains-append_left (without xs p) (y ∷ without ys (negated p)) z j
        | inr j ↦ Contains-append_right (without xs p) (y ∷ without ys (negated p)) z (in_later z y (without ys (negated p)) j)
      ]))
      (above-all x (λ z i. below_others x xs z a i) (λ z i. subst (λ w. w < z) (sym e) (below_others y ys z b i)))

-- ---- lists that are read from the front

-- a read at an index, with what is before and behind it
pub drop-read : (xs : List ℕ) (i x : ℕ) → i < length xs → x ≡ get_or xs i x → drop i xs ≡ x ∷ drop (i + 1) xs
drop-read xs i x h e = subst (λ k. drop i xs ≡ x ∷ drop k xs) (sym (add-one i)) (by_suc xs i x h e)
  where
    by_suc : (xs : List ℕ) (i x : ℕ) → i < length xs → x ≡ get_or xs i x → drop i xs ≡ x ∷ drop (suc i) xs
    by_suc [] i x h e = absurd (omega arith)
    by_suc (y ∷ ys) zero x h e = ap (λ z. z ∷ ys) (sym e)
    by_suc (y ∷ ys) (suc i) x h e = by_suc ys i x (omega arith) e

pub take-read : (xs : List ℕ) (i x : ℕ) → i < length xs → x ≡ get_or xs i x → take (i + 1) xs ≡ take i xs ++ x ∷ []
take-read xs i x h e = subst (λ k. take k xs ≡ take i xs ++ x ∷ []) (sym (add-one i)) (by_suc xs i x h e)
  where
    by_suc : (xs : List ℕ) (i x : ℕ) → i < length xs → x ≡ get_or xs i x → take (suc i) xs ≡ take i xs ++ x ∷ []
    by_suc [] i x h e = absurd (omega arith)
    by_suc (y ∷ ys) zero x h e = ap (λ z. z ∷ []) (sym e)
    by_suc (y ∷ ys) (suc i) x h e = ap (λ zs. y ∷ zs) (by_suc ys i x (omega arith) e)

pub split-read : (xs : List ℕ) (i x : ℕ) → i < length xs → x ≡ get_or xs i x → take i xs ++ x ∷ drop (i + 1) xs ≡ xs
split-read xs i x h e = subst (λ k. take i xs ++ x ∷ drop k xs ≡ xs) (sym (add-one i)) (by_suc xs i x h e)
  where
    by_suc : (xs : List ℕ) (i x : ℕ) → i < length xs → x ≡ get_or xs i x → take i xs ++ x ∷ drop (suc i) xs ≡ xs
    by_suc [] i x h e = absurd (omega arith)
    by_suc (y ∷ ys) zero x h e = ap (λ z. z ∷ ys) e
    by_suc (y ∷ ys) (suc i) x h e = ap (λ zs. y ∷ zs) (by_suc ys i x (omega arith) e)

pub IsAscending-drop : (i : ℕ) (xs : List ℕ) → IsAscending xs → IsAscending (drop i xs)
IsAscending-drop zero xs a = a
IsAscending-drop (suc i) [] a = tt
IsAscending-drop (suc i) (x ∷ xs) a = IsAscending-drop i xs a.1

pub read-past : (xs : List ℕ) (i d : ℕ) → length xs ≤ i → get_or xs i d ≡ d
read-past [] i d h = refl
read-past (x ∷ xs) zero d h = absurd (omega arith)
read-past (x ∷ xs) (suc i) d h = read-past xs i d (omega arith)

pub drop-past : (xs : List ℕ) (i : ℕ) → length xs ≤ i → drop i xs ≡ []
drop-past [] zero h = refl
drop-past [] (suc i) h = refl
drop-past (x ∷ xs) zero h = absurd (omega arith)
drop-past (x ∷ xs) (suc i) h = drop-past xs i (omega arith)

in_read : (xs : List ℕ) (i d : ℕ) → i < length xs → Contains xs (get_or xs i d)
in_read [] i d h = absurd (omega arith)
in_read (x ∷ xs) zero d h = in_here x x xs refl
in_read (x ∷ xs) (suc i) d h = in_later (get_or xs i d) x xs (in_read xs i d (omega arith))

-- what is before a read is less
pub take-below : (xs : List ℕ) (i x : ℕ) → IsAscending xs → i < length xs → x ≡ get_or xs i x → (z : ℕ) → Contains (take i xs) z → z < x
take-below [] i x a h e z m = absurd (omega arith)
take-below (y ∷ ys) zero x a h e z m = absurd (none_in z m)
take-below (y ∷ ys) (suc i) x a h e z m = elim (in_cases z y (take i ys) m) [
  | inl d ↦ subst (λ w. w < x) d (subst (λ w. y < w) (sym e) (below_others y ys (get_or ys i x) a (in_read ys i x (omega arith))))
  | inr k ↦ take-below ys i x a.1 (omega arith) e z k
]

-- ---- a search for one literal

module _ (xs : List ℕ) (l i x : ℕ) (a : IsAscending xs) (h : i < length xs) (e : x ≡ get_or xs i x) (inv : contains (drop i xs) l ≡ contains xs l) where
  pub contains-at : l ≤ x → (x == l) ≡ contains xs l
  contains-at le = elim (cases_eq x l) [
    | inl q ↦ eq-eqb x l q ∙ sym (contains-here x l (drop (i + 1) xs) q) ∙ ap (λ zs. contains zs l) (sym (drop-read xs i x h e)) ∙ inv
    | inr n ↦ ne_eqb x l n ∙ sym (contains-passed x l (drop (i + 1) xs) (subst IsAscending (drop-read xs i x h e) (IsAscending-drop i xs a)) (omega arith))
        ∙ ap (λ zs. contains zs l) (sym (drop-read xs i x h e)) ∙ inv
  ]

  pub contains-on : x < l → contains (drop (i + 1) xs) l ≡ contains xs l
  contains-on lt = sym (contains-later x l (drop (i + 1) xs) lt) ∙ ap (λ zs. contains zs l) (sym (drop-read xs i x h e)) ∙ inv

-- ---- a search for a subset

module _ (ls ms : List ℕ) (k i l m : ℕ) (a : IsAscending ls) (b : IsAscending ms) (h : k < length ls) (d : l ≡ get_or ls k l) (g : i < length ms) (e : m ≡ get_or ms i m)
    (inv : is_subset (drop k ls) (drop i ms) ≡ is_subset ls ms) where
  at : is_subset (l ∷ drop (k + 1) ls) (m ∷ drop (i + 1) ms) ≡ is_subset ls ms
  at = ap (λ zs. is_subset zs (m ∷ drop (i + 1) ms)) (sym (drop-read ls k l h d)) ∙ ap (is_subset (drop k ls)) (sym (drop-read ms i m g e)) ∙ inv

  left_rises : IsAscending (l ∷ drop (k + 1) ls)
  left_rises = subst IsAscending (drop-read ls k l h d) (IsAscending-drop k ls a)

  right_rises : IsAscending (m ∷ drop (i + 1) ms)
  right_rises = subst IsAscending (drop-read ms i m g e) (IsAscending-drop i ms b)

  pub subset-stop : l < m → false ≡ is_subset ls ms
  subset-stop lt = sym (subset-passed l m (drop (k + 1) ls) (drop (i + 1) ms) right_rises lt) ∙ at

  pub subset-both : l ≡ m → is_subset (drop (k + 1) ls) (drop (i + 1) ms) ≡ is_subset ls ms
  subset-both q = sym (subset-found l m (drop (k + 1) ls) (drop (i + 1) ms) left_rises q) ∙ at

  pub subset-on : m < l → is_subset (drop k ls) (drop (i + 1) ms) ≡ is_subset ls ms
  subset-on lt = ap (λ zs. is_subset zs (drop (i + 1) ms)) (drop-read ls k l h d) ∙ sym (subset-later l m (drop (k + 1) ls) (drop (i + 1) ms) left_rises lt) ∙ at

-- ---- a merge

-- the literals so far, and the resolvent of what is left
pub record Merging (pivot : ℕ) (left right : List ℕ) (i j : ℕ) (done : List ℕ) : Type 0 where
  pub left_within : i ≤ length left
  pub right_within : j ≤ length right
  pub so_far : done ++ resolvent pivot (drop i left) (drop j right) ≡ resolvent pivot left right

pub within-read : (xs : List ℕ) (i d : ℕ) → get_or xs i d < d → i < length xs
within-read xs i d h = elim (cases_lt i (length xs)) [ inl l ↦ l | inr n ↦ let e : get_or xs i d ≡ d = read-past xs i d (omega arith) in absurd (omega arith) ]

pub read_same : (xs : List ℕ) (i d e : ℕ) → i < length xs → get_or xs i d ≡ get_or xs i e
read_same [] i d e h = absurd (omega arith)
read_same (x ∷ xs) zero d e h = refl
read_same (x ∷ xs) (suc i) d e h = read_same xs i d e (omega arith)

rest-above : (xs : List ℕ) (j d bound : ℕ) → IsAscending xs → bound < get_or xs j d → (z : ℕ) → Contains (drop j xs) z → bound < z
rest-above xs j d bound a h z m = elim (cases_lt j (length xs)) [
  | inl l ↦
      let x = get_or xs j d in
      let whole = drop-read xs j (get_or xs j d) l (read_same xs j d (get_or xs j d) l) in
      elim (in_cases z (get_or xs j d) (drop (j + 1) xs) (subst (λ zs. Contains zs z) whole m)) as (λ _. bound < z) [
        | inl q ↦ subst (λ w. bound < w) q h
        | inr k ↦ let b : get_or xs j d < z = below_others (get_or xs j d) (drop (j + 1) xs) z (subst IsAscending whole (IsAscending-drop j xs a)) k in omega arith
      ]
  | inr n ↦ absurd (none_in z (subst (λ zs. Contains zs z) (drop-past xs j (omega arith)) m))
]

module _ (p : ℕ) (left right : List ℕ) (i j d : ℕ) (done : List ℕ) (a : IsAscending left) (b : IsAscending right) (g : Merging p left right i j done) where
  first : ℕ
  first = get_or left i d

  second : ℕ
  second = get_or right j d

  left-read : i < length left → drop i left ≡ get_or left i d ∷ drop (i + 1) left
  left-read h = drop-read left i (get_or left i d) h (read_same left i d (get_or left i d) h)

  right-read : j < length right → drop j right ≡ get_or right j d ∷ drop (j + 1) right
  right-read h = drop-read right j (get_or right j d) h (read_same right j d (get_or right j d) h)

  pub merge-left_pivot : get_or left i d ≡ p → get_or left i d < d → Merging p left right (i + 1) j done
  merge-left_pivot e l =
      let h : i < length left = within-read left i d l in
      record {
        left_within = omega arith;
        right_within = g.right_within;
        so_far = ap (λ zs. done ++ zs) (sym (resolvent-left_pivot p (get_or left i d) (drop (i + 1) left) (drop j right) e) ∙ ap (λ zs. resolvent p zs (drop j right)) (sym (left-read h))) ∙ g.so_far;
      }

  pub merge-right_pivot : get_or right j d ≡ negated p → get_or right j d < d → Merging p left right i (j + 1) done
  merge-right_pivot e l =
      let h : j < length right = within-read right j d l in
      record {
        left_within = g.left_within;
        right_within = omega arith;
        so_far = ap (λ zs. done ++ zs) (sym (resolvent-right_pivot p (get_or right j d) (drop i left) (drop (j + 1) right) e) ∙ ap (λ zs. resolvent p (drop i left) zs) (sym (right-read h))) ∙ g.so_far;
      }

  pub merge-both : (get_or left i d ≡ p → ⊥) → (get_or right j d ≡ negated p → ⊥) → get_or left i d ≡ get_or right j d → get_or left i d < d
      → Merging p left right (i + 1) (j + 1) (done ++ get_or left i d ∷ [])
  merge-both n m e l =
      let h : i < length left = within-read left i d l in
      let k : j < length right = within-read right j d (subst (λ z. z < d) e l) in
      record {
        left_within = omega arith;
        right_within = omega arith;
        so_far =
            append_assoc done (get_or left i d ∷ []) (resolvent p (drop (i + 1) left) (drop (j + 1) right))
            ∙ ap (λ zs. done ++ zs)
            (sym (resolvent-both p (drop (i + 1) left) (drop (j + 1) right) (get_or left i d) (get_or right j d) n m e (subst IsAscending (left-read h) (IsAscending-drop i left a)) (subst IsAscending (right-read k) (IsAscending-drop j right b)))
            ∙ ap (λ zs. resolvent p zs (get_or right j d ∷ drop (j + 1) right)) (sym (left-read h)) ∙ ap (λ zs. resolvent p (drop i left) zs) (sym (right-read k))) ∙ g.so_far;
      }

  pub merge-left : (get_or left i d ≡ p → ⊥) → get_or left i d < get_or right j d → get_or left i d < d → Merging p left right (i + 1) j (done ++ get_or left i d ∷ [])
  merge-left n lt l =
      let h : i < length left = within-read left i d l in
      record {
        left_within = omega arith;
        right_within = g.right_within;
        so_far =
            append_assoc done (get_or left i d ∷ []) (resolvent p (drop (i + 1) left) (drop j right))
            ∙ ap (λ zs. done ++ zs)
            (sym (resolvent-left p (drop (i + 1) left) (drop j right) (get_or left i d) n (subst IsAscending (left-read h) (IsAscending-drop i left a)) (rest-above right j d (get_or left i d) b lt))
            ∙ ap (λ zs. resolvent p zs (drop j right)) (sym (left-read h))) ∙ g.so_far;
      }

  pub merge-right : (get_or right j d ≡ negated p → ⊥) → get_or right j d < get_or left i d → get_or right j d < d → Merging p left right i (j + 1) (done ++ get_or right j d ∷ [])
  merge-right n lt l =
      let h : j < length right = within-read right j d l in
      record {
        left_within = g.left_within;
        right_within = omega arith;
        so_far =
            append_assoc done (get_or right j d ∷ []) (resolvent p (drop i left) (drop (j + 1) right))
            ∙ ap (λ zs. done ++ zs)
            (sym (resolvent-right p (drop i left) (drop (j + 1) right) (get_or right j d) n (subst IsAscending (right-read h) (IsAscending-drop j right b)) (rest-above left i d (get_or right j d) a lt))
            ∙ ap (λ zs. resolvent p (drop i left) zs) (sym (right-read h))) ∙ g.so_far;
      }

pub merge-none : (p : ℕ) (left right : List ℕ) → Merging p left right 0 0 []
merge-none p left right = record { left_within = omega arith; right_within = omega arith; so_far = refl }

pub merge-all : (p : ℕ) (left right : List ℕ) (i j : ℕ) (done : List ℕ) → Merging p left right i j done → length left ≤ i → length right ≤ j → done ≡ resolvent p left right
unfolding clause_of
merge-all p left right i j done g h k =
    sym (append-nil done)
    ∙ ap (λ zs. done ++ zs) (sym (ap (λ zs. resolvent p zs (drop j right)) (drop-past left i h) ∙ ap (λ zs. resolvent p [] zs) (drop-past right j k)))
    ∙ g.so_far

-- ---- what a clause is kept as

pub IsClause-without : (clause : List ℕ) (l : ℕ) → IsAscending clause → All IsLiteral clause → IsClause (without clause l)
IsClause-without clause l a h = record {
  ascending = IsAscending-filter (λ m. not (m == l)) clause a;
  literals = All-filter (λ m. not (m == l)) IsLiteral clause h;
}

all_from_members : (P : ℕ → Type 0) (xs : List ℕ) → ((x : ℕ) → Contains xs x → P x) → All P xs
all_from_members P xs h i d l = h (get_or xs i d) (in_read xs i d l)

pub IsClause-clause_of : (lits : List ℕ) → All IsLiteral lits → IsClause (clause_of lits)
IsClause-clause_of lits h = record {
  ascending = IsAscending-clause_of lits;
  literals = all_from_members IsLiteral (clause_of lits) (λ x i. All-contains IsLiteral lits x h (of_clause_of lits x i));
}

pub IsClause-resolvent : (p : ℕ) (left right : List ℕ) → All IsLiteral left → All IsLiteral right → IsClause (resolvent p left right)
IsClause-resolvent p left right h k =
    IsClause-clause_of (without left p ++ without right (negated p))
    (All-append IsLiteral (without left p) (without right (negated p)) (All-filter (λ m. not (m == p)) IsLiteral left h) (All-filter (λ m. not (m == negated p)) IsLiteral right k))

-- ---- whether literals rise

-- the literals so far, of which the last is the greatest where they rise
pub record Rises (lits : List ℕ) (rises : Bool) (last : ℕ) : Type 0 where
  pub literals : All IsLiteral lits
  pub ascending : rises ≡ true → IsAscending lits
  pub below : rises ≡ true → (x : ℕ) → Contains lits x → x ≤ last

pub Rises-push : (lits : List ℕ) (rises now : Bool) (last y : ℕ) → Rises lits rises last → IsLiteral y → (now ≡ true → (rises ≡ true) × (last < y)) → Rises (lits ++ y ∷ []) now y
Rises-push lits rises now last y r l h = record {
  literals = All-push IsLiteral lits y r.literals l;
  ascending = λ e. IsAscending-push lits y (r.ascending (h e).0) (λ x i. let b : x ≤ last = r.below (h e).0 x i in let t : last < y = (h e).1 in omega arith);
  below = λ e x i. elim (Contains-append_cases lits (y ∷ []) x i) [
    | inl j ↦ let b : x ≤ last = r.below (h e).0 x j in let t : last < y = (h e).1 in omega arith
    | inr j ↦ elim (in_cases x y [] j) as (λ _. x ≤ y) [ inl q ↦ omega arith | inr n ↦ absurd (none_in x n) ]
  ];
}

pub Rises-read : (xs : List ℕ) (i x y last : ℕ) (rises now : Bool) → Rises (take i xs) rises last → i < length xs → x ≡ get_or xs i x → IsLiteral y → y ≡ x → (now ≡ true → (rises ≡ true) × (last < y)) → Rises (take (i + 1) xs) now y
Rises-read xs i x y last rises now r h e l q n =
    subst (λ zs. Rises zs now y) (ap (λ z. take i xs ++ z ∷ []) q ∙ sym (take-read xs i x h e)) (Rises-push (take i xs) rises now last y r l n)
