-- The signature of a clause without a literal, from its bits and from those that two or more of its literals have.
use Rattle.std.proofs.Common.{◌≡◌, ℕ, zero, suc, ◌+◌, ◌*◌, ◌%◌, ◌<◌, ◌≤◌, ◌^◌, min, max, Bool, true, false, cond, not, List, [], ◌∷◌, length, drop, get_or, bit_and, bit_or, refl, sym, ◌∙◌, ap, inl, inr, arith}
use Rattle.std.specs.Prelude.{◌==◌}
use Rattle.std.specs.Int.{bit_at}
use Rattle.std.specs.Int.RustNames.{bit_xor}
use Rattle.std.specs.List.{Contains}
use Rattle.std.proofs.lemmas.Nat.{pow_pos}
use Rattle.cp_logic.proofs.ListFacts.{drop-at}
use Rattle.std.proofs.Math.ListN.{drop_of_length-le}
use Rattle.std.proofs.lemmas.Nat.Bits.{bit_at_or, bit_at_and, bit_at_xor, bit_at-zero, bit_at-lt, bit_at-pow_same, bit_at-pow_other, and_pow, same_from_bits}
use Rattle.std.proofs.lemmas.Bool.{eqb-true, eqb-false, cases_eq}
use Rattle.cp_logic.specs.Clauses.{without, IsAscending}
use Rattle.cp_logic.specs.Signatures.{bit_of, signature}
use Rattle.cp_logic.proofs.Members.{none_in, in_here, in_later, in_cases}
use Rattle.cp_logic.proofs.Ascending.{below_others}
use Rattle.cp_logic.proofs.SignatureFacts.{or_assoc, or_zero}
use Rattle.cp_occ.specs.Bits.{shared_bits}

-- ---- the bits at one place

-- the bit of a literal at a place
abbrev of_literal : ℕ → ℕ → ℕ
of_literal l i = bit_at (2 ^ bit_of l) i

absorbed : (p q s t : ℕ) → p ≡ q → max p s ≡ max p t → max p s ≡ max p (max q t)
absorbed p q s t e h = omega arith

kept : (p q s t : ℕ) → max p s ≡ max p t → max p (max q s) ≡ max p (max q t)
kept p q s t h = omega arith

-- with the literal's bit, a clause without the literal has the bits of the whole
at_without : (ls : List ℕ) (l i : ℕ) → max (of_literal l i) (bit_at (signature (without ls l)) i) ≡ max (of_literal l i) (bit_at (signature ls) i)
unfolding signature
at_without [] l i = refl
at_without (m ∷ ms) l i = rw (bit_at_or (2 ^ bit_of m) (signature ms) i) (go (m == l) refl (at_without ms l i))
  where
    go : (b : Bool) → (m == l) ≡ b → max (of_literal l i) (bit_at (signature (without ms l)) i) ≡ max (of_literal l i) (bit_at (signature ms) i)
        → max (of_literal l i) (bit_at (signature (cond (not b) (m ∷ without ms l) (without ms l))) i) ≡ max (of_literal l i) (max (of_literal m i) (bit_at (signature ms) i))
    go true e more = absorbed (of_literal l i) (of_literal m i) (bit_at (signature (without ms l)) i) (bit_at (signature ms) i) (ap (λ z. of_literal z i) (sym (eqb-true m l e))) more
    go false e more = rw (bit_at_or (2 ^ bit_of m) (signature (without ms l)) i) (kept (of_literal l i) (of_literal m i) (bit_at (signature (without ms l)) i) (bit_at (signature ms) i) more)

left_below : (x y z : ℕ) → z ≡ x → z ≤ max x y
left_below x y z e = omega arith

right_below : (x y z : ℕ) → z ≤ y → z ≤ max x y
right_below x y z h = omega arith

-- the bit of each literal is in the signature
at_literal : (ls : List ℕ) (l i : ℕ) → Contains ls l → of_literal l i ≤ bit_at (signature ls) i
unfolding signature
at_literal [] l i h = absurd (none_in l h)
at_literal (m ∷ ms) l i h = rw (bit_at_or (2 ^ bit_of m) (signature ms) i) (elim (in_cases l m ms h) [
  | inl e ↦ left_below (of_literal m i) (bit_at (signature ms) i) (of_literal l i) (ap (λ z. of_literal z i) (sym e))
  | inr k ↦ right_below (of_literal m i) (bit_at (signature ms) i) (of_literal l i) (at_literal ms l i k)
])

-- so a clause with the literal has that bit and those without it
pub at_whole : (ls : List ℕ) (l i : ℕ) → Contains ls l → bit_at (signature ls) i ≡ max (of_literal l i) (bit_at (signature (without ls l)) i)
at_whole ls l i h = let a : of_literal l i ≤ bit_at (signature ls) i = at_literal ls l i h in let b = at_without ls l i in omega (arith, b)

-- ---- the bits that are shared

meets_below : (p s r : ℕ) → r ≤ s → max (min p s) r ≤ max p s
meets_below p s r h = omega arith

shared-most : (ls : List ℕ) (i : ℕ) → bit_at (shared_bits ls) i ≤ bit_at (signature ls) i
unfolding shared_bits signature
shared-most [] i = omega arith
shared-most (l ∷ ls) i =
    rw (bit_at_or (bit_and (2 ^ bit_of l) (signature ls)) (shared_bits ls) i, bit_at_and (2 ^ bit_of l) (signature ls) i, bit_at_or (2 ^ bit_of l) (signature ls) i)
    (meets_below (of_literal l i) (bit_at (signature ls) i) (bit_at (shared_bits ls) i) (shared-most ls i))

-- a literal that a clause hasn't is no loss
without-absent : (ls : List ℕ) (l : ℕ) → ((y : ℕ) → Contains ls y → y ≡ l → ⊥) → without ls l ≡ ls
without-absent [] l h = refl
without-absent (m ∷ ms) l h = go (m == l) refl (without-absent ms l (λ y i. h y (in_later y m ms i)))
  where
    go : (b : Bool) → (m == l) ≡ b → without ms l ≡ ms → cond (not b) (m ∷ without ms l) (without ms l) ≡ m ∷ ms
    go true e more = absurd (h m (in_here m m ms refl) (eqb-true m l e))
    go false e more = ap (λ z. m ∷ z) more

first_shared : (p s r : ℕ) → p ≡ 1 → s < 2 → r ≤ s → max (min p s) r ≡ s
first_shared p s r e h k = omega arith

later_shared : (p s r t : ℕ) → p < 2 → 1 ≤ s → r ≡ t → max (min p s) r ≡ max p t
later_shared p s r t h k e = omega arith

-- the bit of a literal is shared exactly if the clause without the literal has it
pub at_shared : (ls : List ℕ) (l : ℕ) → IsAscending ls → Contains ls l → bit_at (shared_bits ls) (bit_of l) ≡ bit_at (signature (without ls l)) (bit_of l)
unfolding shared_bits signature
at_shared [] l a h = absurd (none_in l h)
at_shared (m ∷ ms) l a h =
    rw (bit_at_or (bit_and (2 ^ bit_of m) (signature ms)) (shared_bits ms) (bit_of l), bit_at_and (2 ^ bit_of m) (signature ms) (bit_of l))
    (go (m == l) refl (λ k. at_shared ms l a.1 k))
  where
    go : (b : Bool) → (m == l) ≡ b → (Contains ms l → bit_at (shared_bits ms) (bit_of l) ≡ bit_at (signature (without ms l)) (bit_of l))
        → max (min (of_literal m (bit_of l)) (bit_at (signature ms) (bit_of l))) (bit_at (shared_bits ms) (bit_of l))
        ≡ bit_at (signature (cond (not b) (m ∷ without ms l) (without ms l))) (bit_of l)
    go true e more =
        let d : m ≡ l = eqb-true m l e in
        first_shared (of_literal m (bit_of l)) (bit_at (signature ms) (bit_of l)) (bit_at (shared_bits ms) (bit_of l)) (ap (λ z. of_literal z (bit_of l)) d ∙ bit_at-pow_same (bit_of l))
        (bit_at-lt (signature ms) (bit_of l)) (shared-most ms (bit_of l))
        ∙ ap (λ z. bit_at (signature z) (bit_of l)) (sym (without-absent ms l (λ y i q. let k : m < y = below_others m ms y a i in omega arith)))
    go false e more = rw (bit_at_or (2 ^ bit_of m) (signature (without ms l)) (bit_of l)) (elim (in_cases l m ms h) [
      | inl q ↦ absurd (eqb-false m l e q)
      | inr k ↦ later_shared (of_literal m (bit_of l)) (bit_at (signature ms) (bit_of l)) (bit_at (shared_bits ms) (bit_of l)) (bit_at (signature (without ms l)) (bit_of l))
          (bit_at-lt (2 ^ bit_of m) (bit_of l))
          (let one : of_literal l (bit_of l) ≡ 1 = bit_at-pow_same (bit_of l) in let most : of_literal l (bit_of l) ≤ bit_at (signature ms) (bit_of l) = at_literal ms l (bit_of l) k in omega arith)
          (more k)
    ])

-- ---- the clause without the literal

zero-bit : (x p : ℕ) → x < 2 → 0 < p → x * p ≡ 0 → x ≡ 0
zero-bit zero p l h e = refl
zero-bit (suc zero) p l h e = absurd (omega arith)
zero-bit (suc (suc x)) p l h e = absurd (omega arith)

one-bit : (x p : ℕ) → x < 2 → (x * p ≡ 0 → ⊥) → x ≡ 1
one-bit zero p l n = absurd (n (omega arith))
one-bit (suc zero) p l n = refl
one-bit (suc (suc x)) p l n = absurd (omega arith)

cleared_same : (p s : ℕ) → p ≡ 1 → s ≡ 0 → (max p s + p) % 2 ≡ s
cleared_same p s e d = omega arith

cleared_other : (p s : ℕ) → p ≡ 0 → s < 2 → (max p s + p) % 2 ≡ s
cleared_other p s e h = omega arith

left_same : (p s : ℕ) → p ≡ 1 → s ≡ 1 → max p s ≡ s
left_same p s e d = omega arith

left_other : (p s : ℕ) → p ≡ 0 → max p s ≡ s
left_other p s e = omega arith

module _ (ls : List ℕ) (l once twice bit : ℕ) (a : IsAscending ls) (h : Contains ls l) (o : once ≡ signature ls) (t : twice ≡ shared_bits ls) (b : bit ≡ 2 ^ bit_of l) where
  whole : (i : ℕ) → bit_at once i ≡ max (of_literal l i) (bit_at (signature (without ls l)) i)
  whole i = ap (λ z. bit_at z i) o ∙ at_whole ls l i h

  there : bit_at twice (bit_of l) ≡ bit_at (signature (without ls l)) (bit_of l)
  there = ap (λ z. bit_at z (bit_of l)) t ∙ at_shared ls l a h

  met : bit_and twice bit ≡ bit_at twice (bit_of l) * 2 ^ bit_of l
  met = ap (bit_and twice) b ∙ and_pow twice (bit_of l)

  -- where no other literal has its bit, that goes
  pub alone-without : bit_and twice bit ≡ 0 → bit_xor once bit ≡ signature (without ls l)
  alone-without z = same_from_bits _ _ (λ i.
      bit_at_xor once bit i ∙ ap (λ x. (x + bit_at bit i) % 2) (whole i) ∙ ap (λ x. (max (of_literal l i) (bit_at (signature (without ls l)) i) + bit_at x i) % 2) b
      ∙ at i)
    where
      none : bit_at (signature (without ls l)) (bit_of l) ≡ 0
      none = sym there ∙ zero-bit (bit_at twice (bit_of l)) (2 ^ bit_of l) (bit_at-lt twice (bit_of l)) (pow_pos (bit_of l)) (sym met ∙ z)

      at : (i : ℕ) → (max (of_literal l i) (bit_at (signature (without ls l)) i) + of_literal l i) % 2 ≡ bit_at (signature (without ls l)) i
      at i = elim (cases_eq i (bit_of l)) [
        | inl e ↦ cleared_same (of_literal l i) (bit_at (signature (without ls l)) i) (ap (λ k. bit_at (2 ^ bit_of l) k) e ∙ bit_at-pow_same (bit_of l)) (ap (bit_at (signature (without ls l))) e ∙ none)
        | inr n ↦ cleared_other (of_literal l i) (bit_at (signature (without ls l)) i) (bit_at-pow_other (bit_of l) i n) (bit_at-lt (signature (without ls l)) i)
      ]

  -- where another one has it too, it stays
  pub shared-without : (bit_and twice bit ≡ 0 → ⊥) → once ≡ signature (without ls l)
  shared-without n = same_from_bits _ _ (λ i. whole i ∙ at i)
    where
      some : bit_at (signature (without ls l)) (bit_of l) ≡ 1
      some = sym there ∙ one-bit (bit_at twice (bit_of l)) (2 ^ bit_of l) (bit_at-lt twice (bit_of l)) (λ e. n (met ∙ e))

      at : (i : ℕ) → max (of_literal l i) (bit_at (signature (without ls l)) i) ≡ bit_at (signature (without ls l)) i
      at i = elim (cases_eq i (bit_of l)) [
        | inl e ↦ left_same (of_literal l i) (bit_at (signature (without ls l)) i) (ap (λ k. bit_at (2 ^ bit_of l) k) e ∙ bit_at-pow_same (bit_of l)) (ap (bit_at (signature (without ls l))) e ∙ some)
        | inr n ↦ left_other (of_literal l i) (bit_at (signature (without ls l)) i) (bit_at-pow_other (bit_of l) i n)
      ]

-- ---- one literal more

regrouped : (t o b s r : ℕ) → max (max (max t (min o b)) (min (max o b) s)) r ≡ max (max t (min o (max b s))) (max (min b s) r)
regrouped t o b s r =
    ap (λ z. max (max (max t (min o b)) z) r) (spread s o b) ∙ assoc (max t (min o b)) (max (min o s) (min b s)) r
    ∙ ap (max (max t (min o b))) (assoc (min o s) (min b s) r)
    ∙ sym (assoc (max t (min o b)) (min o s) (max (min b s) r))
    ∙ ap (λ z. max z (max (min b s) r)) (assoc t (min o b) (min o s) ∙ ap (max t) (sym (join o b s)))
  where
    assoc : (x y z : ℕ) → max (max x y) z ≡ max x (max y z)
    assoc x y z = omega arith

    spread : (x y z : ℕ) → min (max y z) x ≡ max (min y x) (min z x)
    spread x y z = omega arith

    join : (x y z : ℕ) → min x (max y z) ≡ max (min x y) (min x z)
    join x y z = omega arith

regroup : (t o b s r : ℕ) → bit_or (bit_or (bit_or t (bit_and o b)) (bit_and (bit_or o b) s)) r ≡ bit_or (bit_or t (bit_and o (bit_or b s))) (bit_or (bit_and b s) r)
regroup t o b s r = same_from_bits _ _ (λ i. simp (bit_at_or, bit_at_and) (regrouped (bit_at t i) (bit_at o i) (bit_at b i) (bit_at s i) (bit_at r i)))

-- the bits so far, with those of the literals that are left, are those of all
pub record SoFar (ls : List ℕ) (i o t : ℕ) : Type 0 where
  pub once : bit_or o (signature (drop i ls)) ≡ signature ls
  pub twice : bit_or (bit_or t (bit_and o (signature (drop i ls)))) (shared_bits (drop i ls)) ≡ shared_bits ls

pub SoFar-step : (ls : List ℕ) (i once twice bit l : ℕ) → i < length ls → l ≡ get_or ls i l → bit ≡ 2 ^ bit_of l → SoFar ls i once twice
    → SoFar ls (i + 1) (bit_or once bit) (bit_or twice (bit_and once bit))
unfolding signature shared_bits
SoFar-step ls i once twice bit l h e b s = record {
  once = or_assoc once bit (signature rest) ∙ ap (λ z. bit_or once (bit_or z (signature rest))) b ∙ ap (λ z. bit_or once (signature z)) (sym next) ∙ s.once;
  twice =
      regroup twice once bit (signature rest) (shared_bits rest)
      ∙ ap (λ z. bit_or (bit_or twice (bit_and once (bit_or z (signature rest)))) (bit_or (bit_and z (signature rest)) (shared_bits rest))) b
      ∙ ap (λ z. bit_or (bit_or twice (bit_and once (signature z))) (shared_bits z)) (sym next) ∙ s.twice;
}
  where
    rest : List ℕ
    rest = drop (i + 1) ls

    next : drop i ls ≡ l ∷ drop (i + 1) ls
    next = drop-at ls i l h e

none_left : (t o z : ℕ) → z ≡ 0 → t ≡ max (max t (min o z)) z
none_left t o z e = omega arith

pub SoFar-all : (ls : List ℕ) (i once twice : ℕ) → length ls ≤ i → SoFar ls i once twice → (once ≡ signature ls) × (twice ≡ shared_bits ls)
unfolding signature shared_bits
SoFar-all ls i once twice h s = (
  sym (or_zero once) ∙ ap (λ z. bit_or once (signature z)) (sym none) ∙ s.once,
  same_from_bits _ _ (λ i. rw (bit_at_or (bit_or twice (bit_and once 0)) 0 i, bit_at_or twice (bit_and once 0) i, bit_at_and once 0 i)
      (none_left (bit_at twice i) (bit_at once i) (bit_at 0 i) (bit_at-zero i)))
      ∙ ap (λ z. bit_or (bit_or twice (bit_and once (signature z))) (shared_bits z)) (sym none) ∙ s.twice,
)
  where
    none : drop i ls ≡ []
    none = drop_of_length-le ls h

pub SoFar-start : (ls : List ℕ) → SoFar ls 0 0 0
SoFar-start ls = record { once = nothing (signature ls); twice = ap (λ z. bit_or z (shared_bits ls)) (none (signature ls)) ∙ nothing (shared_bits ls) }
  where
    zero_meets : (z s : ℕ) → z ≡ 0 → max z (min z s) ≡ z
    zero_meets z s e = omega arith

    zero_left : (z s : ℕ) → z ≡ 0 → max z s ≡ s
    zero_left z s e = omega arith

    nothing : (s : ℕ) → bit_or 0 s ≡ s
    nothing s = same_from_bits _ _ (λ i. bit_at_or 0 s i ∙ zero_left (bit_at 0 i) (bit_at s i) (bit_at-zero i))

    none : (s : ℕ) → bit_or 0 (bit_and 0 s) ≡ 0
    none s = same_from_bits _ _ (λ i. bit_at_or 0 (bit_and 0 s) i ∙ ap (max (bit_at 0 i)) (bit_at_and 0 s i) ∙ zero_meets (bit_at 0 i) (bit_at s i) (bit_at-zero i))
