-- Whether a merge of two clauses meets a variable in both signs.
use Rattle.std.proofs.Common.{◌≡◌, ℕ, ◌+◌, ◌<◌, ◌≤◌, true, false, List, [], ◌∷◌, ◌++◌, get_or, length, refl, sym, ◌∙◌, ap, subst, inl, inr, arith}
use Rattle.std.specs.Prelude.{◌⊎◌, ◌==◌, drop}
use Rattle.std.specs.Int.{from_bool}
use Rattle.std.specs.List.{Contains}
use Rattle.std.proofs.lemmas.Bool.{cases_order, eq-eqb, ne_eqb}
use Rattle.std.proofs.lemmas.List.{append_assoc}
use Rattle.std.proofs.lemmas.List.Elements.{Contains-append_left, Contains-append_right}
use Rattle.cp_logic.specs.Literals.{negated, variable_of}
use Rattle.cp_logic.specs.Clauses.{without, is_tautology, resolvent, IsAscending}
use Rattle.cp_logic.proofs.Members.{in_cases, in_here, none_in}
use Rattle.cp_logic.proofs.Ascending.{below_others}
use Rattle.cp_logic.proofs.SetFacts.{IsAscending-clause_of}
use Rattle.cp_logic.proofs.Merges.{Merging, merge-all, merge-both, merge-left, merge-right}
use Rattle.cp_logic.proofs.Tautologies.{Apart, Apart-push, tautology-at}

-- the literals that were merged so far have no variable in both signs, and the last one has this variable
pub record Unclashed (pivot : ℕ) (left right : List ℕ) (i j last : ℕ) : Type 0 where
  pub done : List ℕ
  pub merging : Merging pivot left right i j done
  pub apart : Apart done last

-- in a list that rises the literals before one are less
before : (xs rest : List ℕ) (x z : ℕ) → IsAscending ((xs ++ x ∷ []) ++ rest) → Contains xs z → z < x
before [] rest x z a i = absurd (none_in z i)
before (y ∷ ys) rest x z a i = elim (in_cases z y ys i) [
  | inl e ↦ subst (λ w. w < x) e (below_others y ((ys ++ x ∷ []) ++ rest) x a
      (Contains-append_left (ys ++ x ∷ []) rest x (Contains-append_right ys (x ∷ []) x (in_here x x [] refl))))
  | inr k ↦ before ys rest x z a.1 k
]

-- one literal more was merged
module _ (p : ℕ) (left right : List ℕ) (i j last x : ℕ) (done : List ℕ) (apart : Apart done last) (next : Merging p left right i j (done ++ x ∷ [])) where
  below : (z : ℕ) → Contains done z → z < x
  below z h = before done (resolvent p (drop i left) (drop j right)) x z
      (subst IsAscending (sym next.so_far) (IsAscending-clause_of (without left p ++ without right (negated p)))) h

  unclashed-push : (variable_of x ≡ last → ⊥) → Unclashed p left right i j (variable_of x)
  unclashed-push other = record { done = done ++ x ∷ []; merging = next; apart = Apart-push done last x apart below other }

  unclashed-clash : 1 ≤ variable_of x → variable_of x ≡ last → is_tautology (resolvent p left right) ≡ true
  unclashed-clash l e =
      ap is_tautology (sym next.so_far ∙ append_assoc done (x ∷ []) (resolvent p (drop i left) (drop j right)))
      ∙ tautology-at done (resolvent p (drop i left) (drop j right)) last x apart below l e

-- the less of two numbers, which is below d
pub record Least (one other d x : ℕ) : Type 0 where
  pub below : x < d
  pub to_one : x ≤ one
  pub to_other : x ≤ other
  pub from : (one ≡ x) ⊎ (other ≡ x)

pub least-of : (one other d x : ℕ) → ((other < one) × (x ≡ other)) ⊎ ((one ≤ other) × (x ≡ one)) → (one < d) ⊎ (other < d) → Least one other d x
least-of one other d x h l = elim h [
  | inl p ↦ let q : other < one = p.0 in let e : x ≡ other = p.1 in
      record { below = elim l [ inl m ↦ omega arith | inr m ↦ omega arith ]; to_one = omega arith; to_other = omega arith; from = inr (sym e) }
  | inr p ↦ let q : one ≤ other = p.0 in let e : x ≡ one = p.1 in
      record { below = elim l [ inl m ↦ omega arith | inr m ↦ omega arith ]; to_one = omega arith; to_other = omega arith; from = inl (sym e) }
]

-- the less of the two literals is merged, out of both clauses where it stands in both
merge-least : (p : ℕ) (left right : List ℕ) (i j d x : ℕ) (done : List ℕ) → IsAscending left → IsAscending right → Merging p left right i j done
    → (get_or left i d ≡ p → ⊥) → (get_or right j d ≡ negated p → ⊥) → Least (get_or left i d) (get_or right j d) d x
    → Merging p left right (i + from_bool (get_or left i d == x)) (j + from_bool (get_or right j d == x)) (done ++ x ∷ [])
merge-least p left right i j d x done a b g n m least = elim (cases_order (get_or left i d) (get_or right j d)) [
  | inl e ↦ let q : get_or left i d ≡ x = same e in both q (sym e ∙ q) e
  | inr (inl h) ↦ let q : get_or left i d ≡ x = less h in one q (λ e. absurd (omega arith)) h
  | inr (inr h) ↦ let q : get_or right j d ≡ x = more h in other q (λ e. absurd (omega arith)) h
]
  where
    same : get_or left i d ≡ get_or right j d → get_or left i d ≡ x
    same e = elim least.from [ inl q ↦ q | inr q ↦ e ∙ q ]

    less : get_or left i d < get_or right j d → get_or left i d ≡ x
    less h = let l : x ≤ get_or left i d = least.to_one in elim least.from [ inl q ↦ q | inr q ↦ absurd (omega arith) ]

    more : get_or right j d < get_or left i d → get_or right j d ≡ x
    more h = let l : x ≤ get_or right j d = least.to_other in elim least.from [ inl q ↦ absurd (omega arith) | inr q ↦ q ]

    l : x < d
    l = least.below

    both : get_or left i d ≡ x → get_or right j d ≡ x → get_or left i d ≡ get_or right j d → Merging p left right (i + from_bool (get_or left i d == x)) (j + from_bool (get_or right j d == x)) (done ++ x ∷ [])
    both q r e = rw (eq-eqb (get_or left i d) x q, eq-eqb (get_or right j d) x r)
        (subst (λ z. Merging p left right (i + 1) (j + 1) (done ++ z ∷ [])) q (merge-both p left right i j d done a b g n m e (omega arith)))

    one : get_or left i d ≡ x → (get_or right j d ≡ x → ⊥) → get_or left i d < get_or right j d → Merging p left right (i + from_bool (get_or left i d == x)) (j + from_bool (get_or right j d == x)) (done ++ x ∷ [])
    one q r h = rw (eq-eqb (get_or left i d) x q, ne_eqb (get_or right j d) x r)
        (let zero : j ≡ j + 0 = omega arith in
        subst (λ k. Merging p left right (i + 1) k (done ++ x ∷ [])) zero (subst (λ z. Merging p left right (i + 1) j (done ++ z ∷ [])) q (merge-left p left right i j d done a b g n h (omega arith))))

    other : get_or right j d ≡ x → (get_or left i d ≡ x → ⊥) → get_or right j d < get_or left i d → Merging p left right (i + from_bool (get_or left i d == x)) (j + from_bool (get_or right j d == x)) (done ++ x ∷ [])
    other q r h = rw (ne_eqb (get_or left i d) x r, eq-eqb (get_or right j d) x q)
        (let zero : i ≡ i + 0 = omega arith in
        subst (λ k. Merging p left right k (j + 1) (done ++ x ∷ [])) zero (subst (λ z. Merging p left right i (j + 1) (done ++ z ∷ [])) q (merge-right p left right i j d done a b g m h (omega arith))))

-- one step of the merge, where one and other are the literals that were read, and x is the less of them
module _ (p : ℕ) (left right : List ℕ) (i j last d one other x : ℕ) (a : IsAscending left) (b : IsAscending right) (g : Unclashed p left right i j last)
    (one_is : one ≡ get_or left i d) (other_is : other ≡ get_or right j d) (one_stays : one ≡ p → ⊥) (other_stays : other ≡ negated p → ⊥) (least : Least one other d x) where
  merged : Merging p left right (i + from_bool (one == x)) (j + from_bool (other == x)) (g.done ++ x ∷ [])
  merged = rw (one_is, other_is)
      (merge-least p left right i j d x g.done a b g.merging (λ e. one_stays (one_is ∙ e)) (λ e. other_stays (other_is ∙ e))
      (subst (λ z. Least z (get_or right j d) d x) one_is (subst (λ z. Least one z d x) other_is least)))

  pub unclashed-next : (variable_of x ≡ last → ⊥) → Unclashed p left right (i + from_bool (one == x)) (j + from_bool (other == x)) (variable_of x)
  unclashed-next n = unclashed-push p left right (i + from_bool (one == x)) (j + from_bool (other == x)) last x g.done g.apart merged n

  pub unclashed-found : 2 ≤ one → 2 ≤ other → variable_of x ≡ last → is_tautology (resolvent p left right) ≡ true
  unclashed-found l m e = unclashed-clash p left right (i + from_bool (one == x)) (j + from_bool (other == x)) last x g.done g.apart merged
      (elim least.from [ inl q ↦ omega arith | inr q ↦ omega arith ]) e

-- all literals are merged
pub unclashed-all : (p : ℕ) (left right : List ℕ) (i j last : ℕ) → Unclashed p left right i j last → length left ≤ i → length right ≤ j → is_tautology (resolvent p left right) ≡ false
unclashed-all p left right i j last g h k = ap is_tautology (sym (merge-all p left right i j g.done g.merging h k)) ∙ g.apart.apart
