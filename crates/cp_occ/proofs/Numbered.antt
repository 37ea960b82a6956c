-- Numbered clauses by ascending number: what stands under a number, what a search by the number finds, and a removal.
use Rattle.std.proofs.Common.{◌≡◌, ℕ, zero, suc, ◌<◌, ◌≤◌, cond, not, eqb, ltb, Bool, true, false, drop, List, [], ◌∷◌, ◌++◌, length, map, get_or, Some, None, Result, Ok, Err, IfSome, IfNone, refl, sym, ◌∙◌, ap, subst, inl, inr, arith}
use Rattle.std.specs.Prelude.{◌==◌, ◌≢◌, IsTrue, nat_le}
use Rattle.std.specs.List.{Contains, All, remove, filter}
use Rattle.std.specs.List.Sorted.{IsSearchInRange, IsBinarySearchResult, IsNonDecreasingBy, IsPartitionedBy, IsPartitionPoint}
use Rattle.std.specs.Result.{result_ok}
use Rattle.std.specs.Ordering.{nat_cmp, ordering_index}
use Rattle.std.proofs.lemmas.Bool.{eq-eqb, ne_eqb, not_from_false, cases_eq, cases_order}
use Rattle.std.proofs.lemmas.Bool.Decides.{nat_tests}
use Rattle.std.proofs.lemmas.Cmp.{ranked}
use Rattle.std.proofs.lemmas.List.{map-append}
use Rattle.std.proofs.lemmas.List.Sorted.{IsPartitionedBy-ltb}
use Rattle.std.proofs.lemmas.List.Elements.{All-contains, All-push, Contains-get_or, All-filter}
use Rattle.cp_logic.specs.declared.named.Named.{Named}
use Rattle.cp_logic.specs.Clauses.{has_variable, IsAscending}
use Rattle.cp_logic.specs.Formulas.{numbers_of, find_number, without_number}
use Rattle.cp_logic.proofs.Members.{in_map, of_map}
use Rattle.cp_logic.proofs.Ascending.{below_others, IsAscending-push, IsAscending-numbers}
use Rattle.cp_logic.proofs.Eliminations.{filter_all}
use Rattle.cp_logic.proofs.Locals.{find_none}
use Rattle.cp_occ.specs.Cells.{IsOf, IsListed, from_number}

-- ---- the order

number-here : (cs : List Named) (i : ℕ) (d : Named) → i < length cs → Contains (numbers_of cs) (get_or cs i d).number
number-here cs i d h = in_map (λ (c : Named). c.number) cs (get_or cs i d) (Contains-get_or cs i d h)

-- of a list whose keys ascend
module _ {X : Type 0} (key : X → ℕ) where
  -- those before others have lesser keys
  pub earlier : (xs : List X) (i j : ℕ) (d : X) → IsAscending (map key xs) → i < j → j < length xs → key (get_or xs i d) < key (get_or xs j d)
  earlier [] i j d a l h = absurd (omega arith)
  earlier (x ∷ xs) i zero d a l h = absurd (omega arith)
  earlier (x ∷ xs) zero (suc j) d a l h = below_others (key x) (map key xs) (key (get_or xs j d)) a (in_map key xs (get_or xs j d) (Contains-get_or xs j d (omega arith)))
  earlier (x ∷ xs) (suc i) (suc j) d a l h = earlier xs i j d a.1 (omega arith) (omega arith)

  -- no two have one key
  pub same_place : (xs : List X) (i j : ℕ) (d : X) → IsAscending (map key xs) → i < length xs → j < length xs → key (get_or xs i d) ≡ key (get_or xs j d) → i ≡ j
  same_place xs i j d a h l e = elim (cases_order i j) [
    | inl q ↦ q
    | inr (inl q) ↦ let less : key (get_or xs i d) < key (get_or xs j d) = earlier xs i j d a q l in absurd (omega arith)
    | inr (inr q) ↦ let less : key (get_or xs j d) < key (get_or xs i d) = earlier xs j i d a q h in absurd (omega arith)
  ]

  -- the comparisons with a number rise along the list, as a binary search asks
  comparisons-rise : (xs : List X) (n : ℕ) → IsAscending (map key xs) → IsNonDecreasingBy (λ (x : X). ordering_index (nat_cmp (key x) n)) xs
  comparisons-rise xs n a i j d le h =
      elim (cases_eq i j) [
        | inl e ↦ subst (λ (k : ℕ). ordering_index (nat_cmp (key (get_or xs i d)) n) ≤ ordering_index (nat_cmp (key (get_or xs k d)) n)) e (omega arith)
        | inr ne ↦ let l : key (get_or xs i d) < key (get_or xs j d) = earlier xs i j d a (omega arith) h in grind (arith, nat_tests)
      ]

  -- what a binary search by the key answers
  pub searched-some : (xs : List X) (n : ℕ) (r : Result ℕ ℕ) → IsSearchInRange r (length xs) → IsBinarySearchResult (λ (x : X). nat_cmp (key x) n) xs r
      → IfSome (result_ok r) (λ i. (i < length xs) × ((d : X) → key (get_or xs i d) ≡ n))
  searched-some xs n (Ok at) within found = (within, λ d. ranked _ n _ (sym (found d)))
  searched-some xs n (Err at) within parted = tt

  pub searched-none : (xs : List X) (n : ℕ) (r : Result ℕ ℕ) → IsAscending (map key xs) → IsSearchInRange r (length xs) → IsBinarySearchResult (λ (x : X). nat_cmp (key x) n) xs r
      → IfNone (result_ok r) (All (λ (x : X). key x ≢ n) xs)
  searched-none xs n (Ok at) a within found = tt
  searched-none xs n (Err at) a within parted = λ k d h e.
      let halves = parted (comparisons-rise xs n a) in
      elim (cases_order k at) [
        | inl q ↦ let g : n < key (get_or xs k d) = ranked _ n _ (sym (halves.1 k d (omega arith) h)) in omega arith
        | inr (inl q) ↦ let l : key (get_or xs k d) < n = ranked _ n _ (sym (halves.0 k d (omega arith) q)) in omega arith
        | inr (inr q) ↦ let g : n < key (get_or xs k d) = ranked _ n _ (sym (halves.1 k d (omega arith) h)) in omega arith
      ]

-- ---- the clauses from a number on

-- of a list whose items pass from a position on, and not before it, the rest is those that pass
rest-passes : {X : Type 0} (q : X → Bool) (xs : List X) (k : ℕ) → k ≤ length xs → ((i : ℕ) (d : X) → i < k → q (get_or xs i d) ≡ false)
    → ((i : ℕ) (d : X) → k ≤ i → i < length xs → q (get_or xs i d) ≡ true) → drop k xs ≡ filter q xs
rest-passes q xs zero w f t = sym (filter_all q xs (λ x m. subst (λ z. q z ≡ true) m.2 (t m.0 x (omega arith) m.1)))
rest-passes q [] (suc k) w f t = absurd (omega arith)
rest-passes q (x ∷ xs) (suc k) w f t =
    subst (λ b. drop k xs ≡ cond b (x ∷ filter q xs) (filter q xs)) (sym (f zero x (omega arith)))
    (rest-passes q xs k (omega arith) (λ i d l. f (suc i) d (omega arith)) (λ i d l h. t (suc i) d (omega arith) (omega arith)))

-- a search for the place of a number splits the clauses there
pub parted-by_number : (cs : List Named) (n : ℕ) → IsAscending (numbers_of cs) → IsPartitionedBy (λ (c : Named). ltb c.number n) cs
parted-by_number cs n a = IsPartitionedBy-ltb (λ (c : Named). c.number) cs n (λ i j d le h. elim (cases_eq i j) [
  | inl e ↦ subst (λ (k : ℕ). (get_or cs i d).number ≤ (get_or cs k d).number) e (omega arith)
  | inr ne ↦ let l = earlier (λ (c : Named). c.number) cs i j d a (omega arith) h in omega (arith, l)
])

pub from-point : (cs : List Named) (n k : ℕ) → k ≤ length cs → IsPartitionPoint (λ (c : Named). ltb c.number n ≡ true) (λ (c : Named). ltb c.number n ≡ false) cs k
    → drop k cs ≡ from_number n cs
from-point cs n k w p = rest-passes (λ (c : Named). nat_le n c.number) cs k w
    (λ i d l. let e : ltb (get_or cs i d).number n ≡ true = p.0 i d (omega arith) l in grind (arith, nat_tests))
    (λ i d l h. let e : ltb (get_or cs i d).number n ≡ false = p.1 i d l h in grind (arith, nat_tests))

-- ---- a look-up and a removal

pub find-absent : (cs : List Named) (n : ℕ) → All (λ (c : Named). c.number ≢ n) cs → find_number cs n ≡ None
find-absent cs n h = find_none (λ (c : Named). c.number == n) cs (λ c i. ne_eqb c.number n (All-contains (λ (c : Named). c.number ≢ n) cs c h i))

pub without-absent : (cs : List Named) (n : ℕ) → All (λ (c : Named). c.number ≢ n) cs → without_number cs n ≡ cs
without-absent cs n h = filter_all (λ (c : Named). not (c.number == n)) cs
    (λ c i. not_from_false (eqb c.number n) (ne_eqb c.number n (All-contains (λ (c : Named). c.number ≢ n) cs c h i)))

-- the others come later, so they have greater numbers
others-differ : (c : Named) (cs : List Named) → IsAscending (numbers_of (c ∷ cs)) → All (λ (e : Named). e.number ≢ c.number) cs
others-differ c cs a k d h e = let l : c.number < (get_or cs k d).number = below_others c.number (numbers_of cs) (get_or cs k d).number a (number-here cs k d h) in omega arith

find-missed : (c : Named) (cs : List Named) (n : ℕ) → c.number ≢ n → find_number (c ∷ cs) n ≡ find_number cs n
find-missed c cs n e = ap (λ b. cond b (Some c) (find_number cs n)) (ne_eqb c.number n e)

without-missed : (c : Named) (cs : List Named) (n : ℕ) → c.number ≢ n → without_number (c ∷ cs) n ≡ c ∷ without_number cs n
without-missed c cs n e = ap (λ b. cond (not b) (c ∷ without_number cs n) (without_number cs n)) (ne_eqb c.number n e)

without-found : (c : Named) (cs : List Named) → IsAscending (numbers_of (c ∷ cs)) → without_number (c ∷ cs) c.number ≡ cs
without-found c cs a =
    ap (λ b. cond (not b) (c ∷ without_number cs c.number) (without_number cs c.number)) (eq-eqb c.number c.number refl)
    ∙ without-absent cs c.number (others-differ c cs a)

-- what stands under the number of the clause at i
find-here : (cs : List Named) (i : ℕ) (d : Named) → IsAscending (numbers_of cs) → i < length cs → find_number cs (get_or cs i d).number ≡ Some (get_or cs i d)
find-here [] i d a h = absurd (omega arith)
find-here (c ∷ cs) zero d a h = ap (λ b. cond b (Some c) (find_number cs c.number)) (eq-eqb c.number c.number refl)
find-here (c ∷ cs) (suc i) d a h =
    let l : c.number < (get_or cs i d).number = below_others c.number (numbers_of cs) (get_or cs i d).number a (number-here cs i d (omega arith)) in
    find-missed c cs (get_or cs i d).number (omega arith) ∙ find-here cs i d a.1 (omega arith)

without-here : (cs : List Named) (i : ℕ) (d : Named) → IsAscending (numbers_of cs) → i < length cs → remove cs i ≡ without_number cs (get_or cs i d).number
without-here [] i d a h = absurd (omega arith)
without-here (c ∷ cs) zero d a h = sym (without-found c cs a)
without-here (c ∷ cs) (suc i) d a h =
    let l : c.number < (get_or cs i d).number = below_others c.number (numbers_of cs) (get_or cs i d).number a (number-here cs i d (omega arith)) in
    ap (λ (es : List Named). c ∷ es) (without-here cs i d a.1 (omega arith)) ∙ sym (without-missed c cs (get_or cs i d).number (omega arith))

-- the clause at i, which has the number
pub find-at : (cs : List Named) (i n : ℕ) (d : Named) → IsAscending (numbers_of cs) → i < length cs → (get_or cs i d).number ≡ n → find_number cs n ≡ Some (get_or cs i d)
find-at cs i n d a h e = subst (λ m. find_number cs m ≡ Some (get_or cs i d)) e (find-here cs i d a h)

pub without-at : (cs : List Named) (i n : ℕ) (d : Named) → IsAscending (numbers_of cs) → i < length cs → (get_or cs i d).number ≡ n → remove cs i ≡ without_number cs n
without-at cs i n d a h e = without-here cs i d a h ∙ ap (without_number cs) e

-- ---- the clauses of a variable

pub IsListed-push : (x : ℕ) (cs : List Named) (n : ℕ) (c : List ℕ) → IsListed x cs → All (λ (e : Named). e.number < n) cs → IsAscending c → IsTrue (has_variable x c)
    → IsListed x (cs ++ record { number = n; clause = c } ∷ [])
IsListed-push x cs n c l above set has = record {
  low = l.low;
  high = l.high;
  rising = subst IsAscending (sym (map-append (λ (e : Named). e.number) cs (record { number = n; clause = c } ∷ [])))
      (IsAscending-push (numbers_of cs) n l.rising
      (λ y m. let e = of_map (λ (e : Named). e.number) cs y m in subst (λ z. z < n) e.2 (All-contains (λ (e : Named). e.number < n) cs e.0 above e.1)));
  have = All-push (IsOf x) cs (record { number = n; clause = c }) l.have (record { set = set; has = has });
}

pub IsListed-without : (x : ℕ) (cs : List Named) (n : ℕ) → IsListed x cs → IsListed x (without_number cs n)
IsListed-without x cs n l = record {
  low = l.low;
  high = l.high;
  rising = IsAscending-numbers (λ (c : Named). not (c.number == n)) cs l.rising;
  have = All-filter (λ (c : Named). not (c.number == n)) (IsOf x) cs l.have;
}

-- all numbers are 0 or above it
pub all-from_zero : (cs : List Named) → from_number 0 cs ≡ cs
all-from_zero cs = filter_all (λ (c : Named). nat_le 0 c.number) cs (λ c i. grind (arith, nat_tests))
