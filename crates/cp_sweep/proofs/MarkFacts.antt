-- Marks at numbers: which numbers marks were put at, and how many are marked.
use Rattle.std.proofs.Common.{◌≡◌, ℕ, ◌+◌, ◌<◌, ◌≤◌, Bool, true, false, cond, List, [], ◌∷◌, ◌++◌, length, get_or, set, refl, sym, ap, ◌∙◌, subst, inl, inr, arith}
use Rattle.std.specs.Prelude.{◌⊎◌}
use Rattle.std.specs.List.{Contains}
use Rattle.std.proofs.lemmas.Bool.{cases_eq, cases_lt, false≢true}
use Rattle.std.proofs.lemmas.List.{get_or-set_same, get_or-set_other, length-set, get_or_past}
use Rattle.std.proofs.lemmas.List.Elements.{Contains-append_left, Contains-append_right}
use Rattle.std.proofs.lemmas.List.Sums.{sum_by-set, count_by-le-length}
use Rattle.cp_logic.proofs.Members.{in_cases, none_in, in_here, in_later}
use Rattle.cp_sweep.specs.Marks.{is_marked, marked, with_marks, AreBelow}

-- ---- marks put one after another

pub length-with_marks : (ms : List Bool) (is : List ℕ) → length (with_marks ms is) ≡ length ms
length-with_marks ms [] = refl
length-with_marks ms (i ∷ is) = length-with_marks (set ms i true) is ∙ length-set ms i true

pub with_marks-append : (ms : List Bool) (is js : List ℕ) → with_marks ms (is ++ js) ≡ with_marks (with_marks ms is) js
with_marks-append ms [] js = refl
with_marks-append ms (i ∷ is) js = with_marks-append (set ms i true) is js

pub with_marks-push : (ms : List Bool) (is : List ℕ) (j : ℕ) → with_marks ms (is ++ j ∷ []) ≡ set (with_marks ms is) j true
with_marks-push ms is j = with_marks-append ms is (j ∷ [])

-- a number that is marked stays so
pub mark-kept : (ms : List Bool) (i k : ℕ) → is_marked ms k ≡ true → is_marked (set ms i true) k ≡ true
mark-kept ms i k m = elim (cases_eq k i) [
  | inl e ↦ same (λ short. false≢true (sym (get_or_past ms k false short) ∙ m)) e
  | inr o ↦ get_or-set_other ms i k true false o ∙ m
]
  where
    same : (length ms ≤ k → ⊥) → k ≡ i → is_marked (set ms i true) k ≡ true
    same in_range e = ap (λ n. get_or (set ms i true) n false) e ∙ get_or-set_same ms i true false (go (cases_lt i (length ms)))
      where
        go : (i < length ms) ⊎ (length ms ≤ i) → i < length ms
        go (inl h) = h
        go (inr h) = absurd (in_range (omega arith))

pub marks-kept : (ms : List Bool) (is : List ℕ) (k : ℕ) → is_marked ms k ≡ true → is_marked (with_marks ms is) k ≡ true
marks-kept ms [] k m = m
marks-kept ms (i ∷ is) k m = marks-kept (set ms i true) is k (mark-kept ms i k m)

-- each number of the list is marked
pub marks-put : (ms : List Bool) (is : List ℕ) (k : ℕ) → k < length ms → Contains is k → is_marked (with_marks ms is) k ≡ true
marks-put ms [] k h c = absurd (none_in k c)
marks-put ms (i ∷ is) k h c = elim (in_cases k i is c) [
  | inl e ↦ marks-kept (set ms i true) is k (ap (λ n. get_or (set ms n true) k false) e ∙ get_or-set_same ms k true false h)
  | inr j ↦ marks-put (set ms i true) is k (omega (arith, length-set ms i true)) j
]

-- and no other is that was not
pub marks-of : (ms : List Bool) (is : List ℕ) (k : ℕ) → is_marked (with_marks ms is) k ≡ true → (is_marked ms k ≡ true) ⊎ Contains is k
marks-of ms [] k m = inl m
marks-of ms (i ∷ is) k m = elim (marks-of (set ms i true) is k m) [
  | inl n ↦ elim (cases_eq k i) [
    | inl e ↦ inr (in_here k i is (sym e))
    | inr o ↦ inl (sym (get_or-set_other ms i k true false o) ∙ n)
  ]
  | inr j ↦ inr (in_later k i is j)
]

-- ---- a mark taken away

pub taken-other : (ms : List Bool) (i k : ℕ) → (k ≡ i → ⊥) → is_marked (set ms i false) k ≡ is_marked ms k
taken-other ms i k o = get_or-set_other ms i k false false o

pub taken-same : (ms : List Bool) (i : ℕ) → i < length ms → is_marked (set ms i false) i ≡ false
taken-same ms i h = get_or-set_same ms i false false h

-- ---- how many are marked

pub marked-taken : (ms : List Bool) (i : ℕ) → i < length ms → is_marked ms i ≡ true → marked (set ms i false) + 1 ≡ marked ms
marked-taken ms i h m =
    let counted : marked (set ms i false) + cond (get_or ms i false) 1 0 ≡ marked ms + 0 = sum_by-set (λ (b : Bool). cond b 1 0) ms i false false h in
    let counts : Bool → ℕ = λ b. cond b 1 0 in
    let one : counts (get_or ms i false) ≡ counts true = ap counts m in
    omega (arith, counted, one)

pub marked-most : (ms : List Bool) → marked ms ≤ length ms
marked-most ms = count_by-le-length (λ (b : Bool). b) ms

-- ---- numbers below an end

pub below-left : (end : ℕ) (is js : List ℕ) → AreBelow end (is ++ js) → AreBelow end is
below-left end is js b i c = b i (Contains-append_left is js i c)

pub below-right : (end : ℕ) (is js : List ℕ) → AreBelow end (is ++ js) → AreBelow end js
below-right end is js b i c = b i (Contains-append_right is js i c)

-- marks leave as much room
pub below-marks : (ms ns : List Bool) (is js : List ℕ) → ns ≡ with_marks ms js → AreBelow (length ms) is → AreBelow (length ns) is
below-marks ms ns is js e b i c = subst (λ n. i < n) (sym (ap length e ∙ length-with_marks ms js)) (b i c)
