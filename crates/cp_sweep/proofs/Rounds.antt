-- The round of variables from a mark up, and then from 1 up, and what is found first in it.
use Rattle.std.proofs.Common.{◌≡◌, ℕ, zero, suc, ◌+◌, ◌-◌, ◌<◌, ◌≤◌, Bool, true, false, cond, List, ◌∷◌, ◌++◌, Option, None, Some, refl, sym, ap, ◌∙◌, inl, inr, arith}
use Rattle.std.specs.List.{Contains, find, range_with_len}
use Rattle.std.specs.Option.{option_or}
use Rattle.std.proofs.lemmas.List.Folds.{find-append}
use Rattle.std.proofs.lemmas.List.Elements.{Contains-append_cases}
use Rattle.cp_logic.specs.Sweeps.{variables_from}
use Rattle.cp_logic.proofs.Locals.{find_none, none_or}
use Rattle.cp_occ.proofs.Posted.{of_range}

-- ---- ranges

-- each item of a round is a variable
pub of_round : (variables mark y : ℕ) → 1 ≤ mark → mark ≤ variables + 1 → Contains (variables_from variables mark) y → (1 ≤ y) × (y ≤ variables)
of_round variables mark y l h i = elim (Contains-append_cases (range_with_len mark (variables + 1 - mark)) (range_with_len 1 (mark - 1)) y i) [
  | inl j ↦ let r = of_range (variables + 1 - mark) mark y j in (omega arith, omega arith)
  | inr j ↦ let r = of_range (mark - 1) 1 y j in (omega arith, omega arith)
]

split : (n a b m whole : ℕ) → a + n ≡ b → n + m ≡ whole → range_with_len a whole ≡ range_with_len a n ++ range_with_len b m
split zero a b m whole e s = ap (λ k. range_with_len k whole) (let h : a ≡ b = omega arith in h) ∙ ap (range_with_len b) (let h : whole ≡ m = omega arith in h)
split (suc n) a b m zero e s = absurd (omega arith)
split (suc n) a b m (suc whole) e s = ap (λ xs. a ∷ xs) (split n (a + 1) b m whole (omega arith) (omega arith))

-- ---- the first of two lists

or-right : {X : Type 0} (o d : Option X) → d ≡ None → option_or o d ≡ o
or-right None d e = e
or-right (Some x) d e = refl

module _ (p : ℕ → Bool) where
  none : (a n : ℕ) → ((k : ℕ) → a ≤ k → k < a + n → p k ≡ false) → find p (range_with_len a n) ≡ None
  none a n h = find_none p (range_with_len a n) (λ k i. let r = of_range n a k i in h k r.0 r.1)

  skip : (xs ys : List ℕ) → find p xs ≡ None → find p (xs ++ ys) ≡ find p ys
  skip xs ys e = find-append p xs ys ∙ none_or (find p xs) (find p ys) e

  cut : (xs ys : List ℕ) → find p ys ≡ None → find p (xs ++ ys) ≡ find p xs
  cut xs ys e = find-append p xs ys ∙ or-right (find p xs) (find p ys) e

  same : (xs ys zs ws : List ℕ) → find p xs ≡ find p zs → find p ys ≡ find p ws → find p (xs ++ ys) ≡ find p (zs ++ ws)
  same xs ys zs ws e f = find-append p xs ys ∙ ap (λ o. option_or o (find p ys)) e ∙ ap (option_or (find p zs)) f ∙ sym (find-append p zs ws)

  module _ (variables : ℕ) where
    -- a variable that passes is the first of its own round
    pub round-head : (x : ℕ) → x ≤ variables → p x ≡ true → find p (variables_from variables x) ≡ Some x
    round-head x h t =
        ap (λ n. find p (range_with_len x n ++ range_with_len 1 (x - 1))) (let e : variables + 1 - x ≡ suc (variables - x) = omega arith in e)
        ∙ ap (λ b. cond b (Some x) (find p (range_with_len (x + 1) (variables - x) ++ range_with_len 1 (x - 1)))) t

    -- a mark may pass over variables that fail
    pub round-up : (mark x : ℕ) → 1 ≤ mark → mark ≤ x → x ≤ variables → ((k : ℕ) → mark ≤ k → k < x → p k ≡ false)
        → find p (variables_from variables mark) ≡ find p (variables_from variables x)
    round-up mark x l b h fails =
        let skipped = none mark (x - mark) (λ k i j. fails k i (omega arith)) in
        let front = split (x - mark) mark x (variables + 1 - x) (variables + 1 - mark) (omega arith) (omega arith) in
        let back = split (mark - 1) 1 mark (x - mark) (x - 1) (omega arith) (omega arith) in
        same (range_with_len mark (variables + 1 - mark)) (range_with_len 1 (mark - 1)) (range_with_len x (variables + 1 - x)) (range_with_len 1 (x - 1))
        (ap (find p) front ∙ skip (range_with_len mark (x - mark)) (range_with_len x (variables + 1 - x)) skipped)
        (sym (ap (find p) back ∙ cut (range_with_len 1 (mark - 1)) (range_with_len mark (x - mark)) skipped))

    -- also over the last one
    pub round-over : (mark x : ℕ) → mark ≤ variables + 1 → 1 ≤ x → x < mark → ((k : ℕ) → mark ≤ k → k ≤ variables → p k ≡ false) → ((k : ℕ) → 1 ≤ k → k < x → p k ≡ false)
        → find p (variables_from variables mark) ≡ find p (variables_from variables x)
    round-over mark x h l b high low =
        let skipped = none mark (variables + 1 - mark) (λ k i j. high k i (omega arith)) in
        let first = none 1 (x - 1) (λ k i j. low k i (omega arith)) in
        let front = split (x - 1) 1 x (mark - x) (mark - 1) (omega arith) (omega arith) in
        let back = split (mark - x) x mark (variables + 1 - mark) (variables + 1 - x) (omega arith) (omega arith) in
        skip (range_with_len mark (variables + 1 - mark)) (range_with_len 1 (mark - 1)) skipped
        ∙ ap (find p) front ∙ skip (range_with_len 1 (x - 1)) (range_with_len x (mark - x)) first
        ∙ sym (cut (range_with_len x (variables + 1 - x)) (range_with_len 1 (x - 1)) first
        ∙ ap (find p) back ∙ cut (range_with_len x (mark - x)) (range_with_len mark (variables + 1 - mark)) skipped)
