-- What an occurrence keeps of its clause, and how many clauses of a cell are tautologies.
use Rattle.std.proofs.Common.{◌≡◌, ℕ, zero, suc, ◌+◌, ◌-◌, ◌<◌, ◌≤◌, cond, ltb, Bool, true, false, List, [], ◌∷◌, ◌++◌, length, get_or, Some, None, Result, Ok, Err, refl, sym, ◌∙◌, ap, subst, inl, inr, arith}
use Rattle.std.specs.Prelude.{◌==◌, ◌≢◌, ◌||◌}
use Rattle.std.specs.List.{Contains, remove, filter, find, list_any}
use Rattle.std.specs.List.Sorted.{IsSearchInRange, IsBinarySearchResult}
use Rattle.std.specs.Ordering.{nat_cmp}
use Rattle.std.specs.Result.{is_ok}
use Rattle.std.proofs.lemmas.Bool.{eqb-true, false≢true, false_from_ne_true}
use Rattle.std.proofs.lemmas.Bool.Decides.{nat_tests}
use Rattle.std.proofs.lemmas.List.{map-id}
use Rattle.std.proofs.lemmas.List.Elements.{All-contains, Contains-get_or}
use Rattle.cp_logic.specs.Literals.{negated, positive, variable_of}
use Rattle.cp_logic.specs.Clauses.{contains, has_variable, is_tautology, IsAscending}
use Rattle.cp_logic.proofs.Members.{any_member, contains-in, in_contains}
use Rattle.cp_logic.proofs.LiteralFacts.{same_variable}
use Rattle.cp_logic.proofs.SetFacts.{tautology-from}
use Rattle.cp_occ.proofs.Numbered.{searched-some, searched-none}

-- ---- the side of a clause

-- a clause that is no tautology hasn't the negation of its literal
pub not-other : (clause : List ℕ) (m l : ℕ) → contains clause m ≡ true → is_tautology clause ≡ false → m ≡ negated l → contains clause l ≡ false
not-other clause m l has plain e =
    false_from_ne_true (contains clause l)
    (λ h. false≢true (sym plain ∙ tautology-from clause l (contains-in clause l h) (contains-in clause (negated l) (subst (λ k. contains clause k ≡ true) e has))))

-- a clause with the variable has it in one sign or the other
pub either-sign : (x : ℕ) (clause : List ℕ) → has_variable x clause ≡ true → contains clause (positive x) ≡ false → contains clause (negated (positive x)) ≡ true
either-sign x clause has none =
    let m = any_member (λ l. variable_of l == x) clause has in
    let v : variable_of m.0 ≡ x = eqb-true (variable_of m.0) x m.2 in
    elim (same_variable m.0 (positive x) (v ∙ omega arith)) [
      | inl e ↦ absurd (false≢true (sym none ∙ in_contains clause (positive x) (subst (Contains clause) e m.1)))
      | inr e ↦ in_contains clause (negated (positive x)) (subst (Contains clause) e m.1)
    ]

-- a binary search for a literal finds it if the clause has it
pub searched-has : (lits : List ℕ) (l : ℕ) (r : Result ℕ ℕ) → IsAscending lits → IsSearchInRange r (length lits) → IsBinarySearchResult (λ y. nat_cmp y l) lits r
    → is_ok r ≡ contains lits l
searched-has lits l (Ok at) a within found =
    let some = searched-some (λ (k : ℕ). k) lits l (Ok at) within found in
    sym (in_contains lits l (subst (Contains lits) (some.1 l) (Contains-get_or lits at l some.0)))
searched-has lits l (Err at) a within found =
    let none = searched-none (λ (k : ℕ). k) lits l (Err at) (subst IsAscending (sym (map-id lits)) a) within found in
    sym (false_from_ne_true (contains lits l) (λ h. All-contains (λ k. k ≢ l) lits l none (contains-in lits l h) refl))

-- ---- how many pass

module _ {X : Type 0} (p : X → Bool) where
  pub any-counted : (xs : List X) → ltb 0 (length (filter p xs)) ≡ list_any p xs
  any-counted [] = refl
  any-counted (x ∷ xs) = go (p x) (any-counted xs)
    where
      go : (b : Bool) → ltb 0 (length (filter p xs)) ≡ list_any p xs → ltb 0 (length (cond b (x ∷ filter p xs) (filter p xs))) ≡ (b || list_any p xs)
      go true e = grind (arith, nat_tests)
      go false e = e

  -- where none passes, none does among some of them
  pub none-counted : (q : X → Bool) (xs : List X) → length (filter p xs) ≡ 0 → find p (filter q xs) ≡ None
  none-counted q [] h = refl
  none-counted q (x ∷ xs) h = go (p x) refl h (none-counted q xs)
    where
      kept : (b : Bool) → p x ≡ false → find p (filter q xs) ≡ None → find p (cond b (x ∷ filter q xs) (filter q xs)) ≡ None
      kept true e r = ap (λ z. cond z (Some x) (find p (filter q xs))) e ∙ r
      kept false e r = r

      go : (b : Bool) → p x ≡ b → length (cond b (x ∷ filter p xs) (filter p xs)) ≡ 0 → (length (filter p xs) ≡ 0 → find p (filter q xs) ≡ None)
          → find p (cond (q x) (x ∷ filter q xs) (filter q xs)) ≡ None
      go true e z more = absurd (omega arith)
      go false e z more = kept (q x) e (more z)

  pub counted-most : (xs : List X) → length (filter p xs) ≤ length xs
  counted-most [] = omega arith
  counted-most (x ∷ xs) = go (p x) (counted-most xs)
    where
      go : (b : Bool) → length (filter p xs) ≤ length xs → length (cond b (x ∷ filter p xs) (filter p xs)) ≤ suc (length xs)
      go true e = omega arith
      go false e = omega arith

  pub counted-pushed : (xs : List X) (y : X) → length (filter p xs) + cond (p y) 1 0 ≡ length (filter p (xs ++ y ∷ []))
  counted-pushed [] y = go (p y)
    where
      go : (b : Bool) → 0 + cond b 1 0 ≡ length (cond b (y ∷ []) [])
      go true = omega arith
      go false = omega arith
  counted-pushed (x ∷ xs) y = go (p x) (counted-pushed xs y)
    where
      go : (b : Bool) → length (filter p xs) + cond (p y) 1 0 ≡ length (filter p (xs ++ y ∷ []))
          → length (cond b (x ∷ filter p xs) (filter p xs)) + cond (p y) 1 0 ≡ length (cond b (x ∷ filter p (xs ++ y ∷ [])) (filter p (xs ++ y ∷ [])))
      go true e = omega arith
      go false e = e

  pub counted-removed : (xs : List X) (i : ℕ) (d : X) → i < length xs → length (filter p xs) ≡ length (filter p (remove xs i)) + cond (p (get_or xs i d)) 1 0
  counted-removed [] i d h = absurd (omega arith)
  counted-removed (x ∷ xs) zero d h = go (p x)
    where
      go : (b : Bool) → length (cond b (x ∷ filter p xs) (filter p xs)) ≡ length (filter p xs) + cond b 1 0
      go true = omega arith
      go false = omega arith
  counted-removed (x ∷ xs) (suc i) d h = go (p x) (counted-removed xs i d (omega arith))
    where
      go : (b : Bool) → length (filter p xs) ≡ length (filter p (remove xs i)) + cond (p (get_or xs i d)) 1 0
          → length (cond b (x ∷ filter p xs) (filter p xs)) ≡ length (cond b (x ∷ filter p (remove xs i)) (filter p (remove xs i))) + cond (p (get_or xs i d)) 1 0
      go true e = omega arith
      go false e = e

  -- what is left of the count n of those that pass, where one goes that counts w
  pub counted-less : (xs : List X) (i n w : ℕ) (t : Bool) (gone : X) → i < length xs → gone ≡ get_or xs i gone → n ≡ length (filter p xs) → t ≡ p gone → w ≡ cond t 1 0
      → (w ≤ n) × (n - w ≡ length (filter p (remove xs i)))
  counted-less xs i n w t gone h g e te we =
      let s : length (filter p xs) ≡ length (filter p (remove xs i)) + w =
      counted-removed xs i gone h ∙ ap (λ k. length (filter p (remove xs i)) + k) (sym (we ∙ ap (λ b. cond b 1 0) (te ∙ ap p g))) in
      (omega arith, omega arith)

  -- and where one comes
  pub counted-more : (xs : List X) (n w : ℕ) (t : Bool) (y : X) → n ≡ length (filter p xs) → t ≡ p y → w ≡ cond t 1 0 → n + w ≡ length (filter p (xs ++ y ∷ []))
  counted-more xs n w t y e te we = ap (λ k. k + w) e ∙ ap (λ k. length (filter p xs) + k) (we ∙ ap (λ b. cond b 1 0) te) ∙ counted-pushed xs y

pub one-most : (t : Bool) (w : ℕ) → w ≡ cond t 1 0 → w ≤ 1
one-most true w e = omega arith
one-most false w e = omega arith
