-- Signatures of subsets and of negations, by their bits.
use Rattle.std.proofs.Common.{◌≡◌, ℕ, zero, suc, ◌+◌, ◌*◌, ◌/◌, ◌%◌, ◌<◌, ◌≤◌, ◌^◌, min, max, Bool, true, false, not, ◌&&◌, List, [], ◌∷◌, length, drop, get_or, bit_and, bit_or, refl, sym, ◌∙◌, ap, subst, inl, inr, arith}
use Rattle.std.specs.Prelude.{IsTrue, ◌==◌}
use Rattle.std.specs.Int.{bit_at}
use Rattle.std.specs.List.{Contains}
use Rattle.std.proofs.lemmas.Nat.{one_shl, and_le_r, or_shr, or_block}
use Rattle.std.proofs.lemmas.List.{drop_more}
use Rattle.std.proofs.Math.ListN.{drop_of_length-le}
use Rattle.std.proofs.lemmas.Nat.Bits.{bit_at_or, bit_at_and, bit_at-zero, bit_at-pow_same, same_from_bits}
use Rattle.std.proofs.lemmas.Bool.{and_parts, eqb-true, eqb-false, cases_eq, cases_Bool, false_from_ne_true}
use Rattle.cp_logic.specs.Literals.{negated, is_positive, variable_of}
use Rattle.cp_logic.specs.Clauses.{is_subset, is_tautology, without, resolvent}
use Rattle.cp_logic.specs.Signatures.{pair_of, bit_of, signature, opposite}
use Rattle.cp_logic.proofs.Members.{none_in, in_here, in_later, in_cases}
use Rattle.cp_logic.proofs.LiteralFacts.{is_positive-negated, variable_of-negated}
use Rattle.cp_logic.proofs.SetFacts.{subset-in, in_without}
use Rattle.cp_logic.proofs.Clashing.{clashing-from, negated-apart}

max_assoc : (x y z : ℕ) → max (max x y) z ≡ max x (max y z)
max_assoc x y z = omega arith

max_zero : (x : ℕ) → max x 0 ≡ x
max_zero x = omega arith

max_swap : (x y z w : ℕ) → max (max x y) (max z w) ≡ max (max x z) (max y w)
max_swap x y z w = omega arith

min_max : (x y z : ℕ) → min (max x y) z ≡ max (min x z) (min y z)
min_max x y z = omega arith

plus_zero : (x : ℕ) → x + 0 ≡ x
plus_zero x = omega arith

min_below : (x y : ℕ) → x ≤ y → min x y ≡ x
min_below x y h = omega arith

below_max : (x y z : ℕ) → x ≤ z → y ≤ z → max x y ≤ z
below_max x y z h k = omega arith

-- ---- `|` of numbers

pub or_assoc : (a b c : ℕ) → bit_or (bit_or a b) c ≡ bit_or a (bit_or b c)
or_assoc a b c = same_from_bits _ _ (λ i.
    bit_at_or (bit_or a b) c i ∙ ap (λ x. max x (bit_at c i)) (bit_at_or a b i)
    ∙ max_assoc (bit_at a i) (bit_at b i) (bit_at c i)
    ∙ sym (bit_at_or a (bit_or b c) i ∙ ap (max (bit_at a i)) (bit_at_or b c i)))

pub or_zero : (a : ℕ) → bit_or a 0 ≡ a
or_zero a = same_from_bits _ _ (λ i. bit_at_or a 0 i ∙ ap (max (bit_at a i)) (bit_at-zero i) ∙ max_zero (bit_at a i))

or_swap : (a b c d : ℕ) → bit_or (bit_or a b) (bit_or c d) ≡ bit_or (bit_or a c) (bit_or b d)
or_swap a b c d = same_from_bits _ _ (λ i.
    rw (bit_at_or (bit_or a b) (bit_or c d) i, bit_at_or a b i, bit_at_or c d i, bit_at_or (bit_or a c) (bit_or b d) i, bit_at_or a c i, bit_at_or b d i)
    (max_swap (bit_at a i) (bit_at b i) (bit_at c i) (bit_at d i)))

and_or : (a b m : ℕ) → bit_and (bit_or a b) m ≡ bit_or (bit_and a m) (bit_and b m)
and_or a b m = same_from_bits _ _ (λ i.
    rw (bit_at_and (bit_or a b) m i, bit_at_or a b i, bit_at_or (bit_and a m) (bit_and b m) i, bit_at_and a m i, bit_at_and b m i)
    (min_max (bit_at a i) (bit_at b i) (bit_at m i)))

or_double : (a b : ℕ) → bit_or a b * 2 ≡ bit_or (a * 2) (b * 2)
or_double a b =
    sym (plus_zero (bit_or a b * 2)) ∙ sym (or_block 1 a b 0 0 (omega arith) (omega arith))
    ∙ ap (λ x. bit_or x (b * 2 + 0)) (plus_zero (a * 2)) ∙ ap (bit_or (a * 2)) (plus_zero (b * 2))

or_half : (a b : ℕ) → bit_or a b / 2 ≡ bit_or (a / 2) (b / 2)
or_half a b = or_shr a b 1

-- ---- the bits of a signature

-- that of each literal is in it
at_literal : (ls : List ℕ) (l i : ℕ) → Contains ls l → bit_at (2 ^ bit_of l) i ≤ bit_at (signature ls) i
unfolding signature
at_literal [] l i h = omega (arith, h)
at_literal (m ∷ ms) l i h = rw (bit_at_or (2 ^ bit_of m) (signature ms) i) (elim (in_cases l m ms h) [
  | inl e ↦ subst (λ z. bit_at (2 ^ bit_of z) i ≤ max (bit_at (2 ^ bit_of m) i) (bit_at (signature ms) i)) e (left (bit_at (2 ^ bit_of m) i) (bit_at (signature ms) i))
  | inr k ↦ right (bit_at (2 ^ bit_of m) i) (bit_at (signature ms) i) (bit_at (2 ^ bit_of l) i) (at_literal ms l i k)
])
  where
    left : (x y : ℕ) → x ≤ max x y
    left x y = omega arith

    right : (x y z : ℕ) → z ≤ y → z ≤ max x y
    right x y z h = omega arith

has_bit : (ls : List ℕ) (l : ℕ) → Contains ls l → 1 ≤ bit_at (signature ls) (bit_of l)
has_bit ls l h = let e : bit_at (2 ^ bit_of l) (bit_of l) ≡ 1 = bit_at-pow_same (bit_of l) in let a = at_literal ls l (bit_of l) h in omega arith

-- a clause whose literals are all in another has no bit that the other lacks
at_subset : (ls others : List ℕ) (i : ℕ) → ((l : ℕ) → Contains ls l → Contains others l) → bit_at (signature ls) i ≤ bit_at (signature others) i
unfolding signature
at_subset [] others i h = rw (bit_at-zero i) (omega arith)
at_subset (l ∷ ls) others i h = rw (bit_at_or (2 ^ bit_of l) (signature ls) i)
    (below_max (bit_at (2 ^ bit_of l) i) (bit_at (signature ls) i) (bit_at (signature others) i)
    (at_literal others l i (h l (in_here l l ls refl)))
    (at_subset ls others i (λ m k. h m (in_later m l ls k))))

-- the signature of a subset is in that of the whole
pub signature-subset : (ls others : List ℕ) → IsTrue (is_subset ls others) → bit_and (signature ls) (signature others) ≡ signature ls
signature-subset ls others t = same_from_bits _ _ (λ i.
    bit_at_and (signature ls) (signature others) i
    ∙ min_below (bit_at (signature ls) i) (bit_at (signature others) i) (at_subset ls others i (subset-in ls others t)))

-- one literal more
pub signature-step : (bits k i : ℕ) (ls : List ℕ) (l : ℕ) → i < length ls → l ≡ get_or ls i l → k ≡ bit_of l → k < 64 → bit_or bits (signature (drop i ls)) ≡ signature ls
    → bit_or (bit_or bits (1 * 2 ^ k % 18446744073709551616)) (signature (drop (i + 1) ls)) ≡ signature ls
unfolding signature
signature-step bits k i ls l h e d w s =
    ap (λ z. bit_or (bit_or bits z) (signature (drop (i + 1) ls))) (one_shl k 64 w ∙ ap (λ z. 2 ^ z) d)
    ∙ or_assoc bits (2 ^ bit_of l) (signature (drop (i + 1) ls))
    ∙ ap (λ z. bit_or bits (signature z)) (sym (drop_more ls i l h ∙ ap (λ z. z ∷ drop (i + 1) ls) (sym e)))
    ∙ s

-- no literal more
pub signature-whole : (bits i : ℕ) (ls : List ℕ) → length ls ≤ i → bit_or bits (signature (drop i ls)) ≡ signature ls → bits ≡ signature ls
unfolding signature
signature-whole bits i ls h s = sym (or_zero bits) ∙ ap (λ z. bit_or bits (signature z)) (sym (drop_of_length-le ls h)) ∙ s

-- ---- the signature of the negations

opposite-or : (a b : ℕ) → opposite (bit_or a b) ≡ bit_or (opposite a) (opposite b)
unfolding opposite
opposite-or a b =
    ap (λ z. bit_or (z * 2) (bit_and (bit_or a b / 2) 6148914691236517205)) (and_or a b 6148914691236517205)
    ∙ ap (λ z. bit_or z (bit_and (bit_or a b / 2) 6148914691236517205)) (or_double (bit_and a 6148914691236517205) (bit_and b 6148914691236517205))
    ∙ ap (λ z. bit_or (bit_or (bit_and a 6148914691236517205 * 2) (bit_and b 6148914691236517205 * 2)) (bit_and z 6148914691236517205)) (or_half a b)
    ∙ ap (bit_or (bit_or (bit_and a 6148914691236517205 * 2) (bit_and b 6148914691236517205 * 2))) (and_or (a / 2) (b / 2) 6148914691236517205)
    ∙ or_swap (bit_and a 6148914691236517205 * 2) (bit_and b 6148914691236517205 * 2) (bit_and (a / 2) 6148914691236517205) (bit_and (b / 2) 6148914691236517205)

-- whether the two bits of each pair below n are exchanged
exchanges : ℕ → Bool
unfolding opposite
exchanges zero = true
exchanges (suc n) = (opposite (2 ^ (2 * n)) == 2 ^ (2 * n + 1)) && (opposite (2 ^ (2 * n + 1)) == 2 ^ (2 * n)) && exchanges n

exchanges-all : exchanges 32 ≡ true
unfolding exchanges opposite
exchanges-all = refl

exchanges-at : (n k : ℕ) → exchanges n ≡ true → k < n → (opposite (2 ^ (2 * k)) ≡ 2 ^ (2 * k + 1)) × (opposite (2 ^ (2 * k + 1)) ≡ 2 ^ (2 * k))
unfolding exchanges
exchanges-at zero k t h = absurd (omega arith)
exchanges-at (suc n) k t h =
    let parts = and_parts ((opposite (2 ^ (2 * n)) == 2 ^ (2 * n + 1)) && (opposite (2 ^ (2 * n + 1)) == 2 ^ (2 * n))) (exchanges n) t in
    let both = and_parts (opposite (2 ^ (2 * n)) == 2 ^ (2 * n + 1)) (opposite (2 ^ (2 * n + 1)) == 2 ^ (2 * n)) parts.0 in
    elim (cases_eq n k) [
      | inl e ↦ subst (λ j. (opposite (2 ^ (2 * j)) ≡ 2 ^ (2 * j + 1)) × (opposite (2 ^ (2 * j + 1)) ≡ 2 ^ (2 * j))) e (eqb-true _ _ both.0, eqb-true _ _ both.1)
      | inr ne ↦ exchanges-at n k parts.1 (omega arith)
    ]

exchanged : (k : ℕ) → k < 32 → (opposite (2 ^ (2 * k)) ≡ 2 ^ (2 * k + 1)) × (opposite (2 ^ (2 * k + 1)) ≡ 2 ^ (2 * k))
exchanged k h = exchanges-at 32 k exchanges-all h

bit_of-even : (l : ℕ) → is_positive l ≡ true → bit_of l ≡ 2 * pair_of (variable_of l)
unfolding bit_of
bit_of-even l e = let z : l % 2 ≡ 0 = eqb-true (l % 2) 0 e in omega arith

bit_of-odd : (l : ℕ) → is_positive l ≡ false → bit_of l ≡ 2 * pair_of (variable_of l) + 1
unfolding bit_of
bit_of-odd l e = let n : l % 2 ≡ 0 → ⊥ = eqb-false (l % 2) 0 e in omega arith

-- the bit of a literal's negation is the other one of its pair
opposite-bit : (l : ℕ) → opposite (2 ^ bit_of l) ≡ 2 ^ bit_of (negated l)
opposite-bit l = go (pair_of (variable_of l)) refl (omega arith)
  where
    turned : pair_of (variable_of (negated l)) ≡ pair_of (variable_of l)
    turned = ap pair_of (variable_of-negated l)

    go : (k : ℕ) → pair_of (variable_of l) ≡ k → k < 32 → opposite (2 ^ bit_of l) ≡ 2 ^ bit_of (negated l)
    go k d h = elim (cases_Bool (is_positive l)) [
      | inl e ↦
          ap (λ j. opposite (2 ^ j)) (bit_of-even l e ∙ ap (λ j. 2 * j) d) ∙ (exchanged k h).0
          ∙ sym (ap (λ j. 2 ^ j) (bit_of-odd (negated l) (is_positive-negated l ∙ ap not e) ∙ ap (λ j. 2 * j + 1) (turned ∙ d)))
      | inr e ↦
          ap (λ j. opposite (2 ^ j)) (bit_of-odd l e ∙ ap (λ j. 2 * j + 1) d) ∙ (exchanged k h).1
          ∙ sym (ap (λ j. 2 ^ j) (bit_of-even (negated l) (is_positive-negated l ∙ ap not e) ∙ ap (λ j. 2 * j) (turned ∙ d)))
    ]

-- the bit of each literal's negation is in the exchanged signature
has_opposite : (ls : List ℕ) (l : ℕ) → Contains ls l → 1 ≤ bit_at (opposite (signature ls)) (bit_of (negated l))
unfolding signature
has_opposite [] l h = absurd (none_in l h)
has_opposite (m ∷ ms) l h =
    rw (opposite-or (2 ^ bit_of m) (signature ms), bit_at_or (opposite (2 ^ bit_of m)) (opposite (signature ms)) (bit_of (negated l)), opposite-bit m)
    (elim (in_cases l m ms h) [
      | inl e ↦ left (bit_at (2 ^ bit_of (negated m)) (bit_of (negated l))) (bit_at (opposite (signature ms)) (bit_of (negated l)))
          (ap (λ z. bit_at (2 ^ bit_of (negated z)) (bit_of (negated l))) e ∙ bit_at-pow_same (bit_of (negated l)))
      | inr k ↦ right (bit_at (2 ^ bit_of (negated m)) (bit_of (negated l))) (bit_at (opposite (signature ms)) (bit_of (negated l))) (has_opposite ms l k)
    ])
  where
    left : (x y : ℕ) → x ≡ 1 → 1 ≤ max x y
    left x y e = omega arith

    right : (x y : ℕ) → 1 ≤ y → 1 ≤ max x y
    right x y h = omega arith

no_common : (a b i : ℕ) → bit_and a b ≡ 0 → 1 ≤ bit_at a i → 1 ≤ bit_at b i → ⊥
no_common a b i e h k = go (bit_at a i) (bit_at b i) h k (sym (bit_at_and a b i) ∙ ap (λ z. bit_at z i) e ∙ bit_at-zero i)
  where
    go : (x y : ℕ) → 1 ≤ x → 1 ≤ y → min x y ≡ 0 → ⊥
    go x y h k e = omega arith

-- two clauses that are no tautologies, and whose signatures without the literals that are resolved on have no bits of a literal and of
-- its negation, have a resolvent that is no tautology
pub resolvent-apart : (l : ℕ) (clause other : List ℕ) → is_tautology clause ≡ false → is_tautology other ≡ false
    → bit_and (opposite (signature (without clause l))) (signature (without other (negated l))) ≡ 0 → is_tautology (resolvent l clause other) ≡ false
resolvent-apart l clause other a b e = false_from_ne_true (is_tautology (resolvent l clause other)) (λ t.
    let m = clashing-from l clause other a b t in
    no_common (opposite (signature (without clause l))) (signature (without other (negated l))) (bit_of (negated m.literal)) e
    (has_opposite (without clause l) m.literal (in_without clause l m.literal m.in_left m.stays))
    (has_bit (without other (negated l)) (negated m.literal) (in_without other (negated l) (negated m.literal) m.in_right (negated-apart m.literal l m.stays))))

-- no bit is lost
pub opposite-value : (bits : ℕ) → bit_or (bit_and bits 6148914691236517205 * 2 ^ 1 % 18446744073709551616) (bit_and (bits / 2 ^ 1) 6148914691236517205) ≡ opposite bits
unfolding opposite
opposite-value bits = ap (λ z. bit_or z (bit_and (bits / 2) 6148914691236517205)) (go (bit_and bits 6148914691236517205) (and_le_r bits 6148914691236517205))
  where
    go : (x : ℕ) → x ≤ 6148914691236517205 → x * 2 ^ 1 % 18446744073709551616 ≡ x * 2
    go x h = omega arith
