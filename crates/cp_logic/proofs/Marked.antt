-- Tables of marked literals: what setting a bit does, and what a bit that isn't set tells.
use Rattle.std.proofs.Common.{◌≡◌, ℕ, ◌+◌, ◌*◌, ◌/◌, ◌%◌, ◌^◌, ◌<◌, ◌≤◌, true, false, List, take, length, get_or, set, bit_or, w64, sym, ◌∙◌, ap, subst, inl, inr, arith}
use Rattle.std.specs.Prelude.{◌==◌, IsTrue}
use Rattle.std.specs.Int.{bit_at}
use Rattle.std.proofs.lemmas.Bool.{cases_eq, false≢true, false_from_ne_true}
use Rattle.std.proofs.lemmas.List.{get_or-set_same, get_or-set_other, take_all}
use Rattle.std.proofs.lemmas.List.Elements.{All-contains, All-push, All-weaker}
use Rattle.std.proofs.lemmas.Nat.Bits.{bit_at_set_same, bit_at_set_other}
use Rattle.cp_logic.specs.Literals.{negated}
use Rattle.cp_logic.specs.Clauses.{contains}
use Rattle.cp_logic.specs.Marks.{place_of, is_set, AreMarked}
use Rattle.cp_logic.proofs.Members.{contains-in}
use Rattle.cp_logic.proofs.LiteralFacts.{negated-negated}
use Rattle.cp_logic.proofs.Merges.{take-read}

-- the table with the bit at the place set
abbrev pub with_bit : List ℕ → ℕ → List ℕ
with_bit words place = set words (place / 64) (bit_or (get_or words (place / 64) 0) (1 * 2 ^ (place % 64) % 18446744073709551616))

module _ (words : List ℕ) (place : ℕ) (long : length words ≡ 16) (h : place < 1024) where
  abbrev old : ℕ
  old = get_or words (place / 64) 0

  abbrev word : ℕ
  word = bit_or old (1 * 2 ^ (place % 64) % 18446744073709551616)

  here : get_or (with_bit words place) (place / 64) 0 ≡ word
  here = get_or-set_same words (place / 64) word 0 (omega arith)

  -- the bit is set
  pub set_here : is_set (with_bit words place) place ≡ true
  unfolding is_set
  set_here = ap (λ z. bit_at z (place % 64) == 1) here ∙ ap (λ z. z == 1) (bit_at_set_same w64 old (place % 64) (omega arith))

  -- and each other one stays
  pub set_others : (other : ℕ) → is_set words other ≡ true → is_set (with_bit words place) other ≡ true
  unfolding is_set
  set_others other t = elim (cases_eq (other / 64) (place / 64)) [
    | inl e ↦ ap (λ z. bit_at (get_or (with_bit words place) z 0) (other % 64) == 1) e ∙ ap (λ z. bit_at z (other % 64) == 1) here ∙ within e
    | inr n ↦ ap (λ z. bit_at z (other % 64) == 1) (get_or-set_other words (place / 64) (other / 64) word 0 n) ∙ t
  ]
    where
      within : other / 64 ≡ place / 64 → (bit_at word (other % 64) == 1) ≡ true
      within e = elim (cases_eq (other % 64) (place % 64)) [
        | inl q ↦ ap (λ z. bit_at word z == 1) q ∙ ap (λ z. z == 1) (bit_at_set_same w64 old (place % 64) (omega arith))
        | inr n ↦ ap (λ z. z == 1) (bit_at_set_other w64 old (place % 64) (omega arith) (other % 64) n) ∙ ap (λ z. bit_at (get_or words z 0) (other % 64) == 1) (sym e) ∙ t
      ]

-- one literal more
pub AreMarked-step : (words next lits : List ℕ) (i l at : ℕ) → i < length lits → l ≡ get_or lits i l → at ≡ place_of (negated l)
    → AreMarked words (take i lits) → is_set next at ≡ true → ((other : ℕ) → is_set words other ≡ true → is_set next other ≡ true) → AreMarked next (take (i + 1) lits)
AreMarked-step words next lits i l at h e p m marked others =
    subst (AreMarked next) (sym (take-read lits i l h e))
    (All-push (λ k. IsTrue (is_set next (place_of (negated k)))) (take i lits) l
    (All-weaker (λ k. IsTrue (is_set words (place_of (negated k)))) (λ k. IsTrue (is_set next (place_of (negated k)))) (λ k t. others (place_of (negated k)) t) (take i lits) m)
    (ap (is_set next) (sym p) ∙ marked))

-- no literal more
pub AreMarked-all : (words lits : List ℕ) (i : ℕ) → length lits ≤ i → AreMarked words (take i lits) → AreMarked words lits
AreMarked-all words lits i h m = subst (AreMarked words) (take_all i lits h) m

-- where a literal's place isn't set, its negation isn't there
pub unmarked : (words lits : List ℕ) (l at : ℕ) → AreMarked words lits → at ≡ place_of l → is_set words at ≡ false → false ≡ contains lits (negated l)
unmarked words lits l at m e n = sym (false_from_ne_true (contains lits (negated l)) (λ t. false≢true (sym n ∙ ap (is_set words) e
    ∙ ap (λ z. is_set words (place_of z)) (sym (negated-negated l)) ∙ All-contains (λ k. IsTrue (is_set words (place_of (negated k)))) lits (negated l) m (contains-in lits (negated l) t))))
