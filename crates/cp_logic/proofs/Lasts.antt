-- The last of ascending literals has the greatest variable.
use Rattle.std.proofs.Common.{◌≡◌, ℕ, zero, suc, ◌+◌, ◌-◌, ◌/◌, ◌<◌, ◌≤◌, true, List, [], ◌∷◌, length, Some, None, refl, sym, ◌∙◌, subst, inl, inr, arith}
use Rattle.std.specs.Prelude.{slice_get, nat_lt, nat_le, ◌↔◌, IsTrue}
use Rattle.std.specs.List.{Contains, All}
use Rattle.std.proofs.lemmas.Bool.{ltb-true, lt-ltb, leb-true, le-leb}
use Rattle.std.proofs.lemmas.Option.{none-some, same_Some}
use Rattle.std.proofs.lemmas.List.Elements.{All-contains}
use Rattle.cp_logic.specs.Literals.{IsLiteral}
use Rattle.cp_logic.specs.Clauses.{IsAscending}
use Rattle.cp_logic.specs.Formulas.{IsWithin}
use Rattle.cp_logic.proofs.Members.{at_place, in_cases, none_in, all_at, all_from}
use Rattle.cp_logic.proofs.Ascending.{below_others}

-- the last is the greatest
last-greatest : (xs : List ℕ) (k l : ℕ) → k + 1 ≡ length xs → slice_get xs k ≡ Some l → IsAscending xs → (z : ℕ) → Contains xs z → z ≤ l
last-greatest [] k l n e a z i = absurd (none_in z i)
last-greatest (x ∷ []) zero l n e a z i = elim (in_cases z x [] i) [ inl d ↦ let q : x ≡ l = same_Some x l e in omega arith | inr j ↦ absurd (none_in z j) ]
last-greatest (x ∷ y ∷ ys) zero l n e a z i = absurd (omega arith)
last-greatest (x ∷ xs) (suc k) l n e a z i = elim (in_cases z x xs i) as (λ _. z ≤ l) [
  | inl d ↦ let b : x < l = below_others x xs l a (at_place xs k l e) in omega arith
  | inr j ↦ last-greatest xs k l (omega arith) e a.1 z j
]

empty-within : (vars : ℕ) (xs : List ℕ) → None ≡ slice_get xs (length xs - 1) → xs ≡ []
empty-within vars [] e = refl
empty-within vars (x ∷ xs) e = absurd (no (suc (length xs) - 1) (omega arith) e)
  where
    got : (ys : List ℕ) (k : ℕ) → k < length ys → (y : ℕ) × (slice_get ys k ≡ Some y)
    got [] k h = absurd (omega arith)
    got (y ∷ ys) zero h = (y, refl)
    got (y ∷ ys) (suc k) h = got ys k (omega arith)

    no : (k : ℕ) → k < length (x ∷ xs) → None ≡ slice_get (x ∷ xs) k → ⊥
    no k h q = let g = got (x ∷ xs) k h in none-some g.0 (q ∙ g.1)

pub within-none : (vars : ℕ) (xs : List ℕ) → None ≡ slice_get xs (length xs - 1) → IsTrue true ↔ IsWithin vars xs
within-none vars xs e = (λ t. subst (IsWithin vars) (sym (empty-within vars xs e)) (refl, refl), λ w. refl)

pub within-last : (vars : ℕ) (xs : List ℕ) (l v : ℕ) → Some l ≡ slice_get xs (length xs - 1) → IsAscending xs → All IsLiteral xs → v ≡ l / 2 → IsTrue (nat_le v vars) ↔ IsWithin vars xs
within-last vars xs l v e a h q = (into, λ w. le-leb v vars (let b : l / 2 < vars + 1 = ltb-true (l / 2) (vars + 1) (all_at (λ k. nat_lt (k / 2) (vars + 1)) xs l w.1 (at_place xs (length xs - 1) l (sym e))) in omega arith))
  where
    some : (ys : List ℕ) → Contains ys l → 0 < length ys
    some [] i = absurd (none_in l i)
    some (y ∷ ys) i = omega arith

    greatest : (z : ℕ) → Contains xs z → z ≤ l
    greatest = let n : 0 < length xs = some xs (at_place xs (length xs - 1) l (sym e)) in last-greatest xs (length xs - 1) l (omega arith) (sym e) a

    into : IsTrue (nat_le v vars) → IsWithin vars xs
    into t =
        let b : v ≤ vars = leb-true v vars t in (
          all_from (λ k. nat_lt 0 (k / 2)) xs (λ z i. let c : IsLiteral z = All-contains IsLiteral xs z h i in let d : 2 ≤ z = c.0 in lt-ltb 0 (z / 2) (omega arith)),
          all_from (λ k. nat_lt (k / 2) (vars + 1)) xs (λ z i. let g : z ≤ l = greatest z i in lt-ltb (z / 2) (vars + 1) (omega arith)),
        )
