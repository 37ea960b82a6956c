-- Each variable is the candidate of just one number.
use Rattle.std.proofs.Common.{◌≡◌, ◌≢◌, ℕ, zero, suc, ◌+◌, ◌*◌, ◌/◌, ◌%◌, ◌<◌, ◌≤◌, ⊎_elim, eqb, sym, ◌∙◌, ap, subst, arith, suc-mul, zero-mul, mul-le-mul_right, eq-eqb, ne_eqb}
use Rattle.std.specs.Prelude.{nat_lt, if◌then◌else◌}
use Rattle.std.proofs.lemmas.Bool.{cases_lt, cases_eq}
use Rattle.std.proofs.lemmas.Nat.{div-mul-add, mod-mul-add, div-add-mod', mod_below}
use Rattle.std.proofs.Math.Nat.{div-lt_iff_lt-mul, mul-div-le, mul_comm}
use Rattle.cp_worker.specs.Candidates.{transposed, candidate_of, number_of}

-- ---- tables

some_columns : (c r n : ℕ) → n < c * r → 0 < c
some_columns zero r n low = absurd (let e = zero-mul r in omega arith)
some_columns (suc c) r n low = omega arith

row_within : (c r n : ℕ) → n < c * r → n / c < r
row_within c r n low = (div-lt_iff_lt-mul {k = c} {x = n} {y = r} (some_columns c r n low)).1 (subst (λ k. n < k) (mul_comm c r) low)

pub cell_within : (c r n : ℕ) → n < c * r → n % c * r + n / c < c * r
cell_within c r n low =
    let a = mod_below n c (some_columns c r n low) in let b = row_within c r n low in
    let most : suc (n % c) * r ≤ c * r = mul-le-mul_right r (omega arith) in let e = suc-mul (n % c) r in omega arith

pick : (n t a b : ℕ) → n < t → (if nat_lt n t then a else b) ≡ a
pick n t a b low = grind arith

pass : (n t a b : ℕ) → t ≤ n → (if nat_lt n t then a else b) ≡ b
pass n t a b past = grind arith

inside : (c r n : ℕ) → n < c * r → transposed c r n ≡ n % c * r + n / c
inside c r n low = pick n (c * r) (n % c * r + n / c) n low

outside : (c r n : ℕ) → c * r ≤ n → transposed c r n ≡ n
outside c r n past = pass n (c * r) (n % c * r + n / c) n past

-- a table that is transposed twice is as it was
pub transposed-back : (c r n : ℕ) → transposed r c (transposed c r n) ≡ n
transposed-back c r n = ⊎_elim
    (λ (low : n < c * r).
    let b = row_within c r n low in let m : ℕ = n % c * r + n / c in let w = cell_within c r n low in
    let column : m % r ≡ n / c = mod-mul-add (n % c) r (n / c) b in
    let row : m / r ≡ n % c = div-mul-add (n % c) r (n / c) b in
    ap (transposed r c) (inside c r n low) ∙ inside r c m (subst (λ k. m < k) (mul_comm c r) w) ∙ ((λ i. column i * c + row i) ∙ div-add-mod' n c))
    (λ (past : c * r ≤ n). ap (transposed r c) (outside c r n past) ∙ outside r c n (subst (λ k. k ≤ n) (mul_comm c r) past))
    (cases_lt n (c * r))

-- what is below a bound that the table doesn't pass stays below it
pub transposed-below : (c r n bound : ℕ) → c * r ≤ bound → n < bound → transposed c r n < bound
transposed-below c r n bound most low = ⊎_elim
    (λ (in_table : n < c * r). let e = inside c r n in_table in let w = cell_within c r n in_table in omega arith)
    (λ (past : c * r ≤ n). let e = outside c r n past in omega arith)
    (cases_lt n (c * r))

transposed-eqb : (c r n x : ℕ) → eqb (transposed c r n) x ≡ eqb n (transposed r c x)
transposed-eqb c r n x = ⊎_elim
    (λ (e : n ≡ transposed r c x). eq-eqb (transposed c r n) x (ap (transposed c r) e ∙ transposed-back r c x) ∙ sym (eq-eqb n (transposed r c x) e))
    (λ (ne : n ≢ transposed r c x). ne_eqb (transposed c r n) x (λ e. ne (sym (transposed-back c r n) ∙ ap (transposed r c) e)) ∙ sym (ne_eqb n (transposed r c x) ne))
    (cases_eq n (transposed r c x))

-- ---- candidates

next_is : (z x : ℕ) → eqb (z + 1) (x + 1) ≡ eqb z x
next_is z x = grind arith

module _ (workers variables : ℕ) where
  -- a number has the candidate x + 1 just if it is the number of x
  pub candidate-eqb : (n x : ℕ) → eqb (candidate_of workers variables n) (x + 1) ≡ eqb n (number_of workers variables x)
  candidate-eqb n x = next_is (transposed workers (variables / workers) n) x ∙ transposed-eqb workers (variables / workers) n x

  pub candidate-within : (n : ℕ) → n < variables → candidate_of workers variables n ≤ variables
  candidate-within n low = let e = transposed-below workers (variables / workers) n variables (mul-div-le variables workers) low in omega arith

  pub number-within : (x : ℕ) → x < variables → number_of workers variables x < variables
  number-within x low = transposed-below (variables / workers) workers x variables (subst (λ k. k ≤ variables) (mul_comm workers (variables / workers)) (mul-div-le variables workers)) low

  pub number-past : (x : ℕ) → variables ≤ x → number_of workers variables x ≡ x
  number-past x past = outside (variables / workers) workers x
      (let most : variables / workers * workers ≤ variables = subst (λ k. k ≤ variables) (mul_comm workers (variables / workers)) (mul-div-le variables workers) in omega arith)
