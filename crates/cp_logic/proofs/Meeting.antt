-- Whether a step of two clauses in their order meets a literal of the one whose negation the other has.
use Rattle.std.proofs.Common.{◌≡◌, ℕ, ◌+◌, ◌<◌, ◌≤◌, true, false, List, [], ◌∷◌, zero, suc, drop, length, get_or, sym, ◌∙◌, ap, subst, inl, inr, arith}
use Rattle.std.specs.Prelude.{◌⊎◌, nat_le}
use Rattle.std.specs.Int.{from_bool}
use Rattle.std.specs.List.{Contains}
use Rattle.std.proofs.lemmas.Bool.{cases_order, le-leb, lt-leb, false≢true, false_from_ne_true}
use Rattle.cp_logic.specs.Literals.{negated, variable_of}
use Rattle.cp_logic.specs.Clauses.{is_tautology, resolvent, IsAscending}
use Rattle.cp_logic.proofs.Members.{in_cases, in_here, in_later, none_in}
use Rattle.cp_logic.proofs.LiteralFacts.{same_variable, variable_of-negated}
use Rattle.cp_logic.proofs.Ascending.{below_others}
use Rattle.cp_logic.proofs.SetFacts.{tautology-from, tautology-larger}
use Rattle.cp_logic.proofs.Merges.{drop-read, drop-past, IsAscending-drop}
use Rattle.cp_logic.proofs.Clashing.{Clashing, clashing-from, clashing-tautology}

-- where a literal of the one has its negation in the other, that is so of the literals that are left
pub record Ahead (p : ℕ) (left right : List ℕ) (i j : ℕ) : Type 0 where
  pub left_within : i ≤ length left
  pub right_within : j ≤ length right
  pub ahead : Clashing p left right → Clashing p (drop i left) (drop j right)

-- a literal and its negation are neighbours
negated-near : (l : ℕ) → (negated l ≤ l + 1) × (l ≤ negated l + 1)
negated-near l =
    let v : variable_of (negated l) ≡ variable_of l = variable_of-negated l in
    (omega arith, omega arith)

-- the first of a list that rises is the least
first_least : (x z : ℕ) (xs : List ℕ) → IsAscending (x ∷ xs) → Contains (x ∷ xs) z → x ≤ z
first_least x z xs a i = elim (in_cases z x xs i) [
  | inl e ↦ omega arith
  | inr k ↦ let l : x < z = below_others x xs z a k in omega arith
]

module _ (p x y : ℕ) (xs ys : List ℕ) (m : Clashing p (x ∷ xs) (y ∷ ys)) where
  -- the lesser one is passed, on the left
  step-left : IsAscending (y ∷ ys) → x < y → (y ≡ negated x → x ≡ p) → Clashing p xs (y ∷ ys)
  step-left b l n = elim (in_cases m.literal x xs m.in_left) [
    | inl e ↦
        let least : y ≤ negated m.literal = first_least y (negated m.literal) ys b m.in_right in
        let near : negated m.literal ≤ m.literal + 1 = (negated-near m.literal).0 in
        let next : y ≡ negated m.literal = omega arith in
        absurd (m.stays (sym e ∙ n (next ∙ ap negated (sym e))))
    | inr k ↦ record { literal = m.literal; stays = m.stays; in_left = k; in_right = m.in_right }
  ]

  -- and on the right
  step-right : IsAscending (x ∷ xs) → y < x → (y ≡ negated x → x ≡ p) → Clashing p (x ∷ xs) ys
  step-right a l n = elim (in_cases (negated m.literal) y ys m.in_right) [
    | inl e ↦
        let least : x ≤ m.literal = first_least x m.literal xs a m.in_left in
        let near : m.literal ≤ negated m.literal + 1 = (negated-near m.literal).1 in
        let here : m.literal ≡ x = omega arith in
        absurd (m.stays (here ∙ n (e ∙ ap negated here)))
    | inr k ↦ record { literal = m.literal; stays = m.stays; in_left = m.in_left; in_right = k }
  ]

  -- a literal that both have is passed
  step-both : is_tautology (x ∷ xs) ≡ false → is_tautology (y ∷ ys) ≡ false → x ≡ y → Clashing p xs ys
  step-both a b e = elim (in_cases m.literal x xs m.in_left) [
    | inl q ↦ absurd (false≢true (sym b ∙ tautology-from (y ∷ ys) m.literal (in_here m.literal y ys (sym e ∙ q)) m.in_right))
    | inr k ↦ elim (in_cases (negated m.literal) y ys m.in_right) [
      | inl q ↦ absurd (false≢true (sym a ∙ tautology-from (x ∷ xs) m.literal m.in_left (in_here (negated m.literal) x xs (e ∙ q))))
      | inr h ↦ record { literal = m.literal; stays = m.stays; in_left = k; in_right = h }
    ]
  ]

of_drop : (i : ℕ) (xs : List ℕ) (z : ℕ) → Contains (drop i xs) z → Contains xs z
of_drop zero xs z h = h
of_drop (suc i) [] z h = h
of_drop (suc i) (x ∷ xs) z h = in_later z x xs (of_drop i xs z h)

proper-drop : (i : ℕ) (xs : List ℕ) → is_tautology xs ≡ false → is_tautology (drop i xs) ≡ false
proper-drop i xs n = false_from_ne_true (is_tautology (drop i xs)) (λ t. false≢true (sym n ∙ tautology-larger (drop i xs) xs (of_drop i xs) t))

-- one step, at which x and y are next
module _ (p : ℕ) (left right : List ℕ) (i j x y : ℕ) (a : IsAscending left) (b : IsAscending right) (h : i < length left) (k : j < length right)
    (e : x ≡ get_or left i x) (f : y ≡ get_or right j y) where
  lefts : drop i left ≡ x ∷ drop (i + 1) left
  lefts = drop-read left i x h e

  rights : drop j right ≡ y ∷ drop (j + 1) right
  rights = drop-read right j y k f

  both_cons : Clashing p (drop i left) (drop j right) → Clashing p (x ∷ drop (i + 1) left) (y ∷ drop (j + 1) right)
  both_cons m = subst (λ z. Clashing p (x ∷ drop (i + 1) left) z) rights (subst (λ z. Clashing p z (drop j right)) lefts m)

  -- two literals of one variable that are not equal are met, unless they are the pivot and its negation
  pub met : variable_of x ≡ variable_of y → (x ≡ y → ⊥) → (x ≡ p → ⊥) → is_tautology (resolvent p left right) ≡ true
  met v n s = clashing-tautology p left right (record { literal = x; stays = s; in_left = (i, h, sym e); in_right = subst (Contains right) turned (j, k, sym f) })
    where
      turned : y ≡ negated x
      turned = elim (same_variable y x (sym v)) [ inl q ↦ absurd (n (sym q)) | inr q ↦ q ]

  pub ahead-next : is_tautology left ≡ false → is_tautology right ≡ false → ((variable_of x ≡ variable_of y) → (x ≡ y → ⊥) → x ≡ p) → Ahead p left right i j
      → Ahead p left right (i + from_bool (nat_le x y)) (j + from_bool (nat_le y x))
  ahead-next c d n g = elim (cases_order x y) [
    | inl q ↦ rw (le-leb x y (omega arith), le-leb y x (omega arith)) (record {
      left_within = omega arith;
      right_within = omega arith;
      ahead = λ m. step-both p x y (drop (i + 1) left) (drop (j + 1) right) (both_cons (g.ahead m))
          (subst (λ z. is_tautology z ≡ false) lefts (proper-drop i left c)) (subst (λ z. is_tautology z ≡ false) rights (proper-drop j right d)) q;
    })
    | inr (inl q) ↦ rw (le-leb x y (omega arith), lt-leb y x q) (record {
      left_within = omega arith;
      right_within = (let w : j ≤ length right = g.right_within in omega arith);
      ahead = λ m. subst (λ z. Clashing p (drop (i + 1) left) z) (sym rights ∙ ap (λ z. drop z right) (plus_zero j))
          (step-left p x y (drop (i + 1) left) (drop (j + 1) right) (both_cons (g.ahead m))
          (subst IsAscending rights (IsAscending-drop j right b)) q (λ r. n (sym (variable_of-negated x) ∙ ap variable_of (sym r)) (λ s. absurd (omega arith))));
    })
    | inr (inr q) ↦ rw (lt-leb x y q, le-leb y x (omega arith)) (record {
      left_within = (let w : i ≤ length left = g.left_within in omega arith);
      right_within = omega arith;
      ahead = λ m. subst (λ z. Clashing p z (drop (j + 1) right)) (sym lefts ∙ ap (λ z. drop z left) (plus_zero i))
          (step-right p x y (drop (i + 1) left) (drop (j + 1) right) (both_cons (g.ahead m))
          (subst IsAscending lefts (IsAscending-drop i left a)) q (λ r. n (sym (variable_of-negated x) ∙ ap variable_of (sym r)) (λ s. absurd (omega arith))));
    })
  ]
    where
      plus_zero : (z : ℕ) → z ≡ z + 0
      plus_zero z = omega arith

pub ahead-start : (p : ℕ) (left right : List ℕ) → Ahead p left right 0 0
ahead-start p left right = record { left_within = omega arith; right_within = omega arith; ahead = λ m. m }

-- on one side nothing is left
pub ahead-none : (p : ℕ) (left right : List ℕ) (i j : ℕ) → is_tautology left ≡ false → is_tautology right ≡ false → Ahead p left right i j
    → (length left ≤ i) ⊎ (length right ≤ j) → is_tautology (resolvent p left right) ≡ false
ahead-none p left right i j a b g h = false_from_ne_true (is_tautology (resolvent p left right)) (λ t.
    let m = g.ahead (clashing-from p left right a b t) in
    elim h [
      | inl l ↦ none_in m.literal (subst (λ z. Contains z m.literal) (drop-past left i l) m.in_left)
      | inr l ↦ none_in (negated m.literal) (subst (λ z. Contains z (negated m.literal)) (drop-past right j l) m.in_right)
    ])
