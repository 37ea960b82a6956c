-- Bits of a word and of words, and the first of them that is 1.
use Rattle.std.proofs.Common.{◌≡◌, ℕ, zero, suc, ◌+◌, ◌-◌, ◌*◌, ◌/◌, ◌%◌, ◌^◌, ◌<◌, ◌≤◌, Bool, true, false, eqb, not, ◌&&◌, ◌||◌, List, length, get_or, set, Option, Some, None, refl, sym, ap, ◌∙◌, inl, inr, arith, w64, bit_or, bit_and}
use Rattle.std.specs.Prelude.{slice_index, replicate, is_some, IfNone}
use Rattle.std.specs.Int.{bit_at, bit_not, trailing_zeros}
use Rattle.std.proofs.lemmas.Bool.{cases_lt, cases_eq, eq-eqb, eqb-true, ne_eqb, false≢true}
use Rattle.std.proofs.lemmas.List.{ext_get_or, get_or-set_same, get_or-set_other, get_or_past, length-set}
use Rattle.std.proofs.lemmas.List.FromFn.{length-map-range_with_len, get_or-map-range_with_len}
use Rattle.std.proofs.lemmas.Nat.{shr-shr, shr_le, div-mul-add, div-add-mod'}
use Rattle.std.proofs.lemmas.Nat.Bits.{bit_at-zero, bit_at_above, bit_at-trailing_zeros, bit_at_set_same, bit_at_set_other, bit_at_clear_same, bit_at_clear_other}
use Rattle.cp_sweep.specs.Marks.{has_bit, is_set, is_marked, marks_of, AreFilled, IsFirst, IsFirstBelow}

-- ---- one word

bit-shr : (n k i : ℕ) → bit_at (n / 2 ^ k) i ≡ bit_at n (k + i)
bit-shr n k i = ap (λ m. m % 2) (shr-shr n k i)

bit-from : (n k i : ℕ) → k ≤ i → bit_at n i ≡ bit_at (n / 2 ^ k) (i - k)
bit-from n k i h = sym (bit-shr n k (i - k) ∙ ap (bit_at n) (let e : k + (i - k) ≡ i = omega arith in e))

-- a bit of 0 or 1, as a test
is-one : (n k : ℕ) → bit_at n k ≡ 1 → has_bit n k ≡ true
is-one n k e = ap (λ b. eqb b 1) e

is-zero : (n k : ℕ) → bit_at n k ≡ 0 → has_bit n k ≡ false
is-zero n k e = ap (λ b. eqb b 1) e

-- a word that is 0 from a bit on
pub no-bit : (word low k : ℕ) → word / 2 ^ low ≡ 0 → low ≤ k → has_bit word k ≡ false
no-bit word low k e h = is-zero word k (bit-from word low k h ∙ ap (λ n. bit_at n (k - low)) e ∙ bit_at-zero (k - low))

-- and else the first bit that is 1
pub some-bit : (word low : ℕ) → word < 2 ^ 64 → 0 < word / 2 ^ low → IsFirstBelow 64 (has_bit word) low (Some (low + trailing_zeros w64 (word / 2 ^ low)))
some-bit word low fits more =
    let rest = word / 2 ^ low in
    let least = shr_le word low in
    let t = bit_at-trailing_zeros w64 rest more (omega arith) in
    let one : bit_at word (low + trailing_zeros w64 rest) ≡ 1 = sym (bit-shr word low (trailing_zeros w64 rest)) ∙ t.1 in (
      omega arith,
      elim (cases_lt (low + trailing_zeros w64 rest) 64) [
        | inl h ↦ h
        | inr h ↦ absurd (let z = bit_at_above word 64 (low + trailing_zeros w64 rest) fits h in omega arith)
      ],
      is-one word (low + trailing_zeros w64 rest) one,
      λ k h b. is-zero word k (bit-from word low k h ∙ t.2 (k - low) (omega arith)),
    )

-- ---- words

pub set-at : (words : List ℕ) (word bit k : ℕ) → bit < 64 → 64 * word + bit ≡ k → is_set words k ≡ has_bit (slice_index words word) bit
set-at words word bit k h e =
    let turned : word * 64 + bit ≡ k = omega arith in
    let q : k / 64 ≡ word = ap (λ n. n / 64) (sym turned) ∙ div-mul-add word 64 bit h in
    let r : k % 64 ≡ bit = omega (arith, div-add-mod' k 64) in
    ap (λ w. has_bit (slice_index words w) (k % 64)) q ∙ ap (has_bit (slice_index words word)) r

-- past the words no bit is 1
pub set-past : (words : List ℕ) (word k : ℕ) → slice_index words word ≡ 0 → 64 * word ≤ k → k < 64 * word + 64 → is_set words k ≡ false
set-past words word k z l h =
    set-at words word (k - 64 * word) k (omega arith) (omega arith) ∙ ap (λ w. has_bit w (k - 64 * word)) z ∙ is-zero 0 (k - 64 * word) (bit_at-zero (k - 64 * word))

-- ---- a bit that changes

same-place : (i k : ℕ) → k / 64 ≡ i / 64 → k % 64 ≡ i % 64 → k ≡ i
same-place i k q r = omega (arith, div-add-mod' k 64, div-add-mod' i 64)

module _ (old : List ℕ) (i : ℕ) (within : i / 64 < length old) where
  low : i % 64 < 64
  low = omega arith

  changed : (new k : ℕ) → k / 64 ≡ i / 64 → is_set (set old (i / 64) new) k ≡ has_bit new (k % 64)
  changed new k q = ap (λ p. has_bit (get_or (set old (i / 64) new) p 0) (k % 64)) q ∙ ap (λ w. has_bit w (k % 64)) (get_or-set_same old (i / 64) new 0 within)

  kept : (new k : ℕ) → (k / 64 ≡ i / 64 → ⊥) → is_set (set old (i / 64) new) k ≡ is_set old k
  kept new k q = ap (λ w. has_bit w (k % 64)) (get_or-set_other old (i / 64) (k / 64) new 0 q)

  there : (k : ℕ) → k / 64 ≡ i / 64 → has_bit (slice_index old (i / 64)) (k % 64) ≡ is_set old k
  there k q = ap (λ p. has_bit (slice_index old p) (k % 64)) (sym q)

  -- it becomes 1
  pub set-bits : (k : ℕ) → is_set (set old (i / 64) (bit_or (slice_index old (i / 64)) (1 * 2 ^ (i % 64) % 2 ^ 64))) k ≡ (eqb k i || is_set old k)
  set-bits k =
      let word = slice_index old (i / 64) in
      let new = bit_or word (1 * 2 ^ (i % 64) % 2 ^ 64) in
      elim (cases_eq (k / 64) (i / 64)) [
        | inl q ↦ elim (cases_eq (k % 64) (i % 64)) [
          | inl r ↦
              changed new k q ∙ ap (has_bit new) r ∙ is-one new (i % 64) (bit_at_set_same w64 word (i % 64) low)
              ∙ sym (ap (λ b. b || is_set old k) (eq-eqb k i (same-place i k q r)))
          | inr r ↦
              changed new k q ∙ ap (λ b. eqb b 1) (bit_at_set_other w64 word (i % 64) low (k % 64) r) ∙ there k q
              ∙ sym (ap (λ b. b || is_set old k) (ne_eqb k i (λ e. r (ap (λ n. n % 64) e))))
        ]
        | inr q ↦ kept new k q ∙ sym (ap (λ b. b || is_set old k) (ne_eqb k i (λ e. q (ap (λ n. n / 64) e))))
      ]

  -- it becomes 0
  pub clear-bits : (k : ℕ) → is_set (set old (i / 64) (bit_and (slice_index old (i / 64)) (bit_not w64 (1 * 2 ^ (i % 64) % 2 ^ 64)))) k ≡ (not (eqb k i) && is_set old k)
  clear-bits k =
      let word = slice_index old (i / 64) in
      let new = bit_and word (bit_not w64 (1 * 2 ^ (i % 64) % 2 ^ 64)) in
      elim (cases_eq (k / 64) (i / 64)) [
        | inl q ↦ elim (cases_eq (k % 64) (i % 64)) [
          | inl r ↦
              changed new k q ∙ ap (has_bit new) r ∙ is-zero new (i % 64) (bit_at_clear_same w64 word (i % 64) low)
              ∙ sym (ap (λ b. not b && is_set old k) (eq-eqb k i (same-place i k q r)))
          | inr r ↦
              changed new k q ∙ ap (λ b. eqb b 1) (bit_at_clear_other w64 word (i % 64) low (k % 64) (omega arith) r) ∙ there k q
              ∙ sym (ap (λ b. not b && is_set old k) (ne_eqb k i (λ e. r (ap (λ n. n % 64) e))))
        ]
        | inr q ↦ kept new k q ∙ sym (ap (λ b. not b && is_set old k) (ne_eqb k i (λ e. q (ap (λ n. n / 64) e))))
      ]

-- ---- the marks that words stand for

pub length-marks : (words : List ℕ) → length (marks_of words) ≡ 64 * length words
length-marks words = length-map-range_with_len (is_set words) 0 (64 * length words)

pub marked-is : (words : List ℕ) (k : ℕ) → is_marked (marks_of words) k ≡ is_set words k
marked-is words k = elim (cases_lt k (64 * length words)) [
  | inl h ↦ get_or-map-range_with_len (is_set words) 0 (64 * length words) k k false h (omega arith)
  | inr h ↦
      get_or_past (marks_of words) k false (omega (arith, length-marks words))
      ∙ sym (ap (λ w. has_bit w (k % 64)) (get_or_past words (k / 64) 0 (omega arith)) ∙ is-zero 0 (k % 64) (bit_at-zero (k % 64)))
]

-- one mark put or taken
module _ (old new : List ℕ) (i : ℕ) (within : i < length (marks_of old)) (len : length new ≡ length old) where
  long : length (marks_of new) ≡ length (marks_of old)
  long = length-marks new ∙ ap (λ n. 64 * n) len ∙ sym (length-marks old)

  by-mark : (b : Bool) → is_set new i ≡ b → ((k : ℕ) → (k ≡ i → ⊥) → is_set new k ≡ is_set old k) → marks_of new ≡ set (marks_of old) i b
  by-mark b here others =
      ext_get_or false (marks_of new) (set (marks_of old) i b) (long ∙ sym (length-set (marks_of old) i b)) (λ k h. marked-is new k ∙ (elim (cases_eq k i) [
        | inl e ↦ ap (is_set new) e ∙ here ∙ sym (ap (λ n. get_or (set (marks_of old) i b) n false) e ∙ get_or-set_same (marks_of old) i b false within)
        | inr o ↦ others k o ∙ sym (marked-is old k) ∙ sym (get_or-set_other (marks_of old) i k b false o)
      ]))

  pub mark-put : ((k : ℕ) → is_set new k ≡ (eqb k i || is_set old k)) → marks_of new ≡ set (marks_of old) i true
  mark-put bits = by-mark true (bits i ∙ ap (λ b. b || is_set old i) (eq-eqb i i refl)) (λ k o. bits k ∙ ap (λ b. b || is_set old k) (ne_eqb k i o))

  pub mark-taken : ((k : ℕ) → is_set new k ≡ (not (eqb k i) && is_set old k)) → marks_of new ≡ set (marks_of old) i false
  mark-taken bits = by-mark false (bits i ∙ ap (λ b. not b && is_set old i) (eq-eqb i i refl)) (λ k o. bits k ∙ ap (λ b. not b && is_set old k) (ne_eqb k i o))

get_or-zeros : (n i : ℕ) → (let none : ℕ = 0 in get_or (replicate n none) i none ≡ none)
get_or-zeros zero i = refl
get_or-zeros (suc n) zero = refl
get_or-zeros (suc n) (suc i) = get_or-zeros n i

-- words that are 0 have no mark
pub no-marks : (count k : ℕ) → (words : List ℕ) → words ≡ replicate count 0 → is_marked (marks_of words) k ≡ false
no-marks count k words z =
    marked-is words k ∙ ap (λ w. has_bit w (k % 64)) (ap (λ ws. get_or ws (k / 64) 0) z ∙ get_or-zeros count (k / 64)) ∙ is-zero 0 (k % 64) (bit_at-zero (k % 64))

-- a word with a bit that is 1 is not 0
pub not-zero : (words : List ℕ) (i : ℕ) → is_set words i ≡ true → eqb (slice_index words (i / 64)) 0 ≡ false
not-zero words i s = ne_eqb (slice_index words (i / 64)) 0 (λ z. false≢true (sym (ap (λ w. has_bit w (i % 64)) z ∙ is-zero 0 (i % 64) (bit_at-zero (i % 64))) ∙ s))

-- ---- two levels

-- the same search by another test
pub first-by : (p q : ℕ → Bool) → ((k : ℕ) → p k ≡ q k) → (i : ℕ) (found : Option ℕ) → IsFirst q i found → IsFirst p i found
first-by p q same i None f = λ k h. same k ∙ f k h
first-by p q same i (Some n) f = (f.0, same n ∙ f.1, λ k h b. same k ∙ f.2 k h b)

-- what is found below an end is the first of all
pub found-below : (end : ℕ) (p : ℕ → Bool) (i : ℕ) (found : Option ℕ) → is_some found ≡ true → IsFirstBelow end p i found → IsFirst p i found
found-below end p i None s f = absurd (false≢true s)
found-below end p i (Some n) s f = (f.0, f.2, f.3)

module _ (bits filled : List ℕ) (levels : AreFilled bits filled) (i : ℕ) (here : Option ℕ) (none : is_some here ≡ false)
    (first : IsFirstBelow (64 * (i / 64) + 64) (is_set bits) (64 * (i / 64) + i % 64) here) where
  -- no bit of this word
  silent : (k : ℕ) → i ≤ k → k < 64 * (i / 64) + 64 → is_set bits k ≡ false
  silent = go here none first
    where
      go : (o : Option ℕ) → is_some o ≡ false → IsFirstBelow (64 * (i / 64) + 64) (is_set bits) (64 * (i / 64) + i % 64) o → (k : ℕ) → i ≤ k → k < 64 * (i / 64) + 64 → is_set bits k ≡ false
      go None s f k l h = f k (omega (arith, div-add-mod' i 64)) h
      go (Some n) s f k l h = absurd (false≢true (sym s))

  -- nor of one that is 0
  in-zero : (k : ℕ) → is_set filled (k / 64) ≡ false → is_set bits k ≡ false
  in-zero k e =
      let z : eqb (slice_index bits (k / 64)) 0 ≡ true = not-false (eqb (slice_index bits (k / 64)) 0) (sym (levels.same (k / 64)) ∙ e) in
      set-past bits (k / 64) k (eqb-true (slice_index bits (k / 64)) 0 z) (omega arith) (omega arith)
    where
      not-false : (b : Bool) → not b ≡ false → b ≡ true
      not-false true h = refl
      not-false false h = absurd (false≢true (sym h))

  -- where no later word has a bit
  pub none-later : IsFirst (is_set filled) (i / 64 + 1) None → IsFirst (is_set bits) i None
  none-later f k l = elim (cases_lt k (64 * (i / 64) + 64)) [
    | inl h ↦ silent k l h
    | inr h ↦ in-zero k (f (k / 64) (omega arith))
  ]

  -- and where this is the next that does
  pub some-later : (word : ℕ) (found : Option ℕ) → IsFirst (is_set filled) (i / 64 + 1) (Some word) → IsFirstBelow (64 * word + 64) (is_set bits) (64 * word + 0) found
      → IfNone found (slice_index bits word / 2 ^ 0 ≡ 0) → IsFirst (is_set bits) i found
  some-later word None f b z =
      let zero_word : slice_index bits word ≡ 0 = omega (arith, z) in
      absurd (false≢true (sym (ap not (eq-eqb (slice_index bits word) 0 zero_word)) ∙ sym (levels.same word) ∙ f.1))
  some-later word (Some n) f b z = (
    omega (arith, f.0, b.0),
    b.2,
    λ k l h. elim (cases_lt k (64 * (i / 64) + 64)) [
      | inl here ↦ silent k l here
      | inr past ↦ elim (cases_lt k (64 * word)) [
        | inl before ↦ in-zero k (f.2 (k / 64) (omega arith) (omega arith))
        | inr there ↦ b.3 k (omega arith) h
      ]
    ],
  )

-- a bit more, in both levels
pub filled-put : (bits filled more wider : List ℕ) (i : ℕ) → AreFilled bits filled → length more ≡ length bits → length wider ≡ length filled
    → ((k : ℕ) → is_set more k ≡ (eqb k i || is_set bits k)) → ((k : ℕ) → (k ≡ i / 64 → ⊥) → slice_index more k ≡ slice_index bits k)
    → ((k : ℕ) → is_set wider k ≡ (eqb k (i / 64) || is_set filled k)) → AreFilled more wider
filled-put bits filled more wider i levels m w put others put_above = record {
  few = omega (arith, levels.few);
  short = omega (arith, levels.short);
  room = omega (arith, levels.room);
  same = λ k. elim (cases_eq k (i / 64)) [
    | inl e ↦
        put_above k ∙ ap (λ b. b || is_set filled k) (eq-eqb k (i / 64) e)
        ∙ sym (ap (λ n. not (eqb (slice_index more n) 0)) e ∙ ap not (not-zero more i (put i ∙ ap (λ b. b || is_set bits i) (eq-eqb i i refl))))
    | inr o ↦
        put_above k ∙ ap (λ b. b || is_set filled k) (ne_eqb k (i / 64) o) ∙ levels.same k ∙ ap (λ n. not (eqb n 0)) (sym (others k o))
  ];
}
