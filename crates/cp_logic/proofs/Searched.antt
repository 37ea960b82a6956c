-- A binary search in an ascending list finds each literal of it, and no other.
use Rattle.std.proofs.Common.{◌≡◌, ℕ, zero, suc, ◌<◌, ◌≤◌, List, [], ◌∷◌, length, get_or, Result, Ok, Err, sym, subst, inl, inr, arith}
use Rattle.std.specs.List.{Contains}
use Rattle.std.specs.List.Sorted.{IsSearchInRange, IsBinarySearchResult, IsNonDecreasingBy}
use Rattle.std.specs.Result.{is_ok}
use Rattle.std.specs.Ordering.{nat_cmp, ordering_index}
use Rattle.std.proofs.lemmas.Bool.{cases_eq, cases_order, false_from_ne_true}
use Rattle.std.proofs.lemmas.Bool.Decides.{nat_tests}
use Rattle.std.proofs.lemmas.Cmp.{ranked}
use Rattle.std.proofs.lemmas.List.Elements.{Contains-get_or}
use Rattle.cp_logic.specs.Clauses.{contains, IsAscending}
use Rattle.cp_logic.proofs.Members.{contains-in, in_contains}
use Rattle.cp_logic.proofs.Ascending.{below_others}

-- literals before others are below them
earlier : (xs : List ℕ) (i j d : ℕ) → IsAscending xs → i < j → j < length xs → get_or xs i d < get_or xs j d
earlier [] i j d a l h = absurd (omega arith)
earlier (x ∷ xs) i zero d a l h = absurd (omega arith)
earlier (x ∷ xs) zero (suc j) d a l h = below_others x xs (get_or xs j d) a (Contains-get_or xs j d (omega arith))
earlier (x ∷ xs) (suc i) (suc j) d a l h = earlier xs i j d a.1 (omega arith) (omega arith)

-- the comparisons with a literal rise along the list, as a binary search asks
comparisons-rise : (xs : List ℕ) (x : ℕ) → IsAscending xs → IsNonDecreasingBy (λ y. ordering_index (nat_cmp y x)) xs
comparisons-rise xs x a i j d le h =
    elim (cases_eq i j) [
      | inl e ↦ subst (λ (k : ℕ). ordering_index (nat_cmp (get_or xs i d) x) ≤ ordering_index (nat_cmp (get_or xs k d) x)) e (omega arith)
      | inr ne ↦ let l : get_or xs i d < get_or xs j d = earlier xs i j d a (omega arith) h in grind (arith, nat_tests)
    ]

-- the search finds a literal exactly where the list has it
pub found-contains : (xs : List ℕ) (x : ℕ) (r : Result ℕ ℕ) → IsAscending xs → IsSearchInRange r (length xs) → IsBinarySearchResult (λ y. nat_cmp y x) xs r
    → is_ok r ≡ contains xs x
found-contains xs x (Ok at) a within found =
    sym (in_contains xs x (subst (Contains xs) (ranked _ x _ (sym (found x))) (Contains-get_or xs at x within)))
found-contains xs x (Err at) a within parted = sym (false_from_ne_true (contains xs x) (λ t.
    let m = contains-in xs x t in
    let k = m.0 in
    let e : get_or xs k x ≡ x = m.2 in
    let h = m.1 in
    let halves = parted (comparisons-rise xs x a) in
    elim (cases_order k at) [
      | inl q ↦ let g : x < get_or xs k x = ranked _ x _ (sym (halves.1 k x (omega arith) h)) in omega arith
      | inr (inl q) ↦ let l : get_or xs k x < x = ranked _ x _ (sym (halves.0 k x (omega arith) q)) in omega arith
      | inr (inr q) ↦ let g : x < get_or xs k x = ranked _ x _ (sym (halves.1 k x (omega arith) h)) in omega arith
    ]))
