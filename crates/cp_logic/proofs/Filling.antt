-- A clause is put under a number that is free: into its empty slot, or into a new slot.
use Rattle.std.proofs.Common.{◌≡◌, ℕ, zero, suc, ◌+◌, ◌-◌, ◌/◌, ◌<◌, ◌≤◌, Bool, true, false, cond, List, [], ◌∷◌, length, set, get_or, Option, Some, None, refl, sym, ◌∙◌, ap, subst, inl, inr, arith}
use Rattle.std.specs.Prelude.{◌⊎◌, ◌==◌, ◌≢◌, nat_lt}
use Rattle.std.specs.Option.{option_map}
use Rattle.std.specs.List.{Contains, All, cons_option, insert}
use Rattle.std.proofs.lemmas.Bool.{eq-eqb, ltb-true, ltb-false, lt-ltb, le-ltb, false≢true}
use Rattle.std.proofs.lemmas.Option.{none-some}
use Rattle.std.proofs.lemmas.List.{length-map}
use Rattle.std.proofs.lemmas.List.Elements.{All-weaker, All-cons, All-head, All-tail, All-contains}
use Rattle.cp_logic.specs.declared.named.Named.{Named}
use Rattle.cp_logic.specs.Slots.{Slot}
use Rattle.cp_logic.specs.Clauses.{IsAscending}
use Rattle.cp_logic.specs.Formulas.{Formula, IsFormula, IsWithin, numbers_of, find_number, with_clause}
use Rattle.cp_logic.specs.Rules.{placed, raised}
use Rattle.cp_logic.specs.Slots.{named_of, standing, slot_numbers, Splits, IsFilled, IsKept}
use Rattle.cp_logic.proofs.Members.{in_cases, in_here, in_later, none_in, in_map, of_map, all_at, all_from}
use Rattle.cp_logic.proofs.Ascending.{below_others, IsAscending-cons}
use Rattle.cp_logic.proofs.FormulaFacts.{number_below}
use Rattle.cp_logic.proofs.Totals.{length-ascending}
use Rattle.cp_logic.proofs.SlotFacts.{find-at, number-in, numbers-set, before, at-number}

-- ---- the place of a clause by its number

with-first : (c : Named) (cs : List Named) → ((d : Named) → Contains cs d → c.number < d.number) → with_clause c cs ≡ c ∷ cs
with-first c [] h = refl
with-first c (d ∷ ds) h = ap (λ b. cond b (c ∷ d ∷ ds) (d ∷ with_clause c ds)) (lt-ltb c.number d.number (h d (in_here d d ds refl)))

with-later : (c : Named) (n : ℕ) (o : Option (List ℕ)) (ds : List Named) → n < c.number
    → with_clause c (cons_option (option_map (λ (k : List ℕ). let s : Named = record { number = n; clause = k } in s) o) ds)
    ≡ cons_option (option_map (λ (k : List ℕ). let s : Named = record { number = n; clause = k } in s) o) (with_clause c ds)
with-later c n None ds h = refl
with-later c n (Some k) ds h =
    ap (λ b. cond b (c ∷ (let s : Named = record { number = n; clause = k } in s) ∷ ds) ((let s : Named = record { number = n; clause = k } in s) ∷ with_clause c ds)) (le-ltb c.number n (omega arith))

of_with_clause : (c : Named) (cs : List Named) (x : Named) → Contains (with_clause c cs) x → (c ≡ x) ⊎ Contains cs x
of_with_clause c [] x h = in_cases x c [] h
of_with_clause c (d ∷ ds) x h = go (nat_lt c.number d.number) h (of_with_clause c ds x)
  where
    go : (b : Bool) → Contains (cond b (c ∷ d ∷ ds) (d ∷ with_clause c ds)) x → (Contains (with_clause c ds) x → (c ≡ x) ⊎ Contains ds x) → (c ≡ x) ⊎ Contains (d ∷ ds) x
    go true i more = in_cases x c (d ∷ ds) i
    go false i more = elim (in_cases x d (with_clause c ds) i) [
      | inl e ↦ inr (in_here x d ds e)
      | inr j ↦ elim (more j) [ inl e ↦ inl e | inr k ↦ inr (in_later x d ds k) ]
    ]

All-with_clause : (P : Named → Type 0) (c : Named) (cs : List Named) → P c → All P cs → All P (with_clause c cs)
All-with_clause P c [] p h = All-cons P c [] p h
All-with_clause P c (d ∷ ds) p h = go (nat_lt c.number d.number) (All-with_clause P c ds p (All-tail P d ds h))
  where
    go : (b : Bool) → All P (with_clause c ds) → All P (cond b (c ∷ d ∷ ds) (d ∷ with_clause c ds))
    go true more = All-cons P c (d ∷ ds) p h
    go false more = All-cons P d (with_clause c ds) (All-head P d ds h) more

-- the numbers rise still, where the number was free
numbers-with_clause : (c : Named) (cs : List Named) → IsAscending (numbers_of cs) → (Contains (numbers_of cs) c.number → ⊥) → IsAscending (numbers_of (with_clause c cs))
numbers-with_clause c [] a n = (refl, tt)
numbers-with_clause c (d ∷ ds) a n = go (nat_lt c.number d.number) refl (numbers-with_clause c ds a.1 (λ i. n (in_later c.number d.number (numbers_of ds) i)))
  where
    above : c.number < d.number → (y : ℕ) → Contains (numbers_of (d ∷ ds)) y → c.number < y
    above l y i = elim (in_cases y d.number (numbers_of ds) i) [
      | inl e ↦ subst (λ z. c.number < z) e l
      | inr j ↦ let q : d.number < y = below_others d.number (numbers_of ds) y a j in omega arith
    ]

    later : d.number < c.number → (y : ℕ) → Contains (numbers_of (with_clause c ds)) y → d.number < y
    later l y i =
        let x = of_map (λ (z : Named). z.number) (with_clause c ds) y i in
        subst (λ z. d.number < z) x.2
        (elim (of_with_clause c ds x.0 x.1) as (λ _. d.number < x.0.number) [
          | inl e ↦ subst (λ (z : Named). d.number < z.number) e l
          | inr j ↦ below_others d.number (numbers_of ds) x.0.number a (in_map (λ (z : Named). z.number) ds x.0 j)
        ])

    other : c.number ≡ d.number → ⊥
    other e = n (in_here c.number d.number (numbers_of ds) (sym e))

    go : (b : Bool) → nat_lt c.number d.number ≡ b → IsAscending (numbers_of (with_clause c ds)) → IsAscending (numbers_of (cond b (c ∷ d ∷ ds) (d ∷ with_clause c ds)))
    go true e more = IsAscending-cons c.number (numbers_of (d ∷ ds)) (above (ltb-true c.number d.number e)) a
    go false e more =
        let le : d.number ≤ c.number = ltb-false c.number d.number e in
        let ne : c.number ≢ d.number = other in
        IsAscending-cons d.number (numbers_of (with_clause c ds)) (later (omega arith)) more

find-none_in : (cs : List Named) (n : ℕ) (c : Named) → find_number cs n ≡ None → Contains cs c → c.number ≡ n → ⊥
find-none_in [] n c e i q = none_in c i
find-none_in (d ∷ ds) n c e i q = go (d.number == n) refl e (λ f j. find-none_in ds n c f j q)
  where
    go : (b : Bool) → (d.number == n) ≡ b → cond b (Some d) (find_number ds n) ≡ None → (find_number ds n ≡ None → Contains ds c → ⊥) → ⊥
    go true p f more = none-some d (sym f)
    go false p f more = elim (in_cases c d ds i) [
      | inl s ↦ false≢true (sym p ∙ eq-eqb d.number n (ap (λ (k : Named). k.number) s ∙ q))
      | inr j ↦ more f j
    ]

find-free : (cs : List Named) (n : ℕ) → find_number cs n ≡ None → Contains (numbers_of cs) n → ⊥
find-free cs n e i =
    let c = of_map (λ (z : Named). z.number) cs n i in
    find-none_in cs n c.0 e c.1 c.2

-- a clause under a number that is free keeps a formula
pub IsFormula-placed : (f : Formula) (c : Named) → IsFormula f → c.number < f.next → find_number f.clauses c.number ≡ None → IsAscending c.clause → IsWithin f.variables c.clause → IsFormula (placed f c)
IsFormula-placed f c v l e a w = record {
  rising = numbers-with_clause c f.clauses v.rising (find-free f.clauses c.number e);
  below = All-with_clause (λ (d : Named). d.number < f.next) c f.clauses l v.below;
  sets = All-with_clause (λ (d : Named). IsAscending d.clause) c f.clauses a v.sets;
  within = All-with_clause (λ (d : Named). IsWithin f.variables d.clause) c f.clauses w v.within;
}

-- a clause is within more variables too
pub within-more : (variables more : ℕ) (clause : List ℕ) → variables ≤ more → IsWithin variables clause → IsWithin more clause
within-more variables more clause l w =
    (w.0, all_from (λ k. nat_lt (k / 2) (more + 1)) clause (λ k i. let q : k / 2 < variables + 1 = ltb-true (k / 2) (variables + 1) (all_at (λ j. nat_lt (j / 2) (variables + 1)) clause k w.1 i) in lt-ltb (k / 2) (more + 1) (omega arith)))

-- so do more variables
pub IsFormula-raised : (f : Formula) (variables : ℕ) → IsFormula f → f.variables ≤ variables → IsFormula (raised f variables)
IsFormula-raised f variables v l = record {
  rising = v.rising;
  below = v.below;
  sets = v.sets;
  within = All-weaker (λ (d : Named). IsWithin f.variables d.clause) (λ (d : Named). IsWithin variables d.clause) (λ d w. within-more f.variables variables d.clause l w) f.clauses v.within;
}

-- ---- into slots

splits-rest : (s : Slot) (ss : List Slot) (n i : ℕ) → Splits (s ∷ ss) n (suc i) → Splits ss n i
splits-rest s ss n i h = let w : suc i ≤ suc (length ss) = h.within in record {
  within = omega arith;
  small = λ k d l. h.small (suc k) d (omega arith);
  large = λ k d l m. h.large (suc k) d (omega arith) (omega arith);
}

all_above : (slots : List Slot) (n : ℕ) → IsAscending (slot_numbers slots) → ((d : Slot) → 0 < length slots → n < (get_or slots 0 d).number) → (y : ℕ) → Contains (slot_numbers slots) y → n < y
all_above [] n a h y i = absurd (none_in y i)
all_above (s ∷ ss) n a h y i =
    let l : n < s.number = h s (omega arith) in
    elim (in_cases y s.number (slot_numbers ss) i) [
      | inl e ↦ subst (λ z. n < z) e l
      | inr j ↦ let q : s.number < y = below_others s.number (slot_numbers ss) y a j in omega arith
    ]

-- a new slot at the place where lesser numbers end
module _ (n : ℕ) (c : List ℕ) where
  of_inserted : (slots : List Slot) (i : ℕ) → i ≤ length slots → (m : ℕ) → Contains (slot_numbers (insert slots i (record { number = n; clause = Some c }))) m → (m ≡ n) ⊎ Contains (slot_numbers slots) m
  of_inserted slots zero h m j = elim (in_cases m n (slot_numbers slots) j) [ inl e ↦ inl (sym e) | inr k ↦ inr k ]
  of_inserted [] (suc i) h m j = absurd (omega arith)
  of_inserted (s ∷ ss) (suc i) h m j = elim (in_cases m s.number (slot_numbers (insert ss i (record { number = n; clause = Some c }))) j) [
    | inl e ↦ inr (in_here m s.number (slot_numbers ss) e)
    | inr k ↦ elim (of_inserted ss i (omega arith) m k) [ inl e ↦ inl e | inr l ↦ inr (in_later m s.number (slot_numbers ss) l) ]
  ]

  rising-inserted : (slots : List Slot) (i : ℕ) → IsAscending (slot_numbers slots) → Splits slots n i → ((d : Slot) → i < length slots → (get_or slots i d).number ≢ n)
      → IsAscending (slot_numbers (insert slots i (record { number = n; clause = Some c })))
  rising-inserted slots zero a h o =
      IsAscending-cons n (slot_numbers slots) (all_above slots n a (λ d l. let g : n ≤ (get_or slots 0 d).number = h.large 0 d (omega arith) l in let q : (get_or slots 0 d).number ≢ n = o d l in omega arith)) a
  rising-inserted [] (suc i) a h o = let w : suc i ≤ 0 = h.within in absurd (omega arith)
  rising-inserted (s ∷ ss) (suc i) a h o =
      let w : suc i ≤ suc (length ss) = h.within in
      let l : s.number < n = h.small 0 s (omega arith) in
      IsAscending-cons s.number (slot_numbers (insert ss i (record { number = n; clause = Some c })))
      (λ y j. elim (of_inserted ss i (omega arith) y j) [ inl e ↦ subst (λ z. s.number < z) (sym e) l | inr k ↦ below_others s.number (slot_numbers ss) y a k ])
      (rising-inserted ss i a.1 (splits-rest s ss n i h) (λ d k. o d (omega arith)))

  standing-inserted : (slots : List Slot) (i : ℕ) → IsAscending (slot_numbers slots) → Splits slots n i → ((d : Slot) → i < length slots → (get_or slots i d).number ≢ n)
      → standing (insert slots i (record { number = n; clause = Some c })) ≡ with_clause (record { number = n; clause = c }) (standing slots)
  standing-inserted slots zero a h o = sym (with-first (record { number = n; clause = c }) (standing slots) (λ d i.
      all_above slots n a (λ e l. let g : n ≤ (get_or slots 0 e).number = h.large 0 e (omega arith) l in let q : (get_or slots 0 e).number ≢ n = o e l in omega arith) d.number (number-in slots d i)))
  standing-inserted [] (suc i) a h o = let w : suc i ≤ 0 = h.within in absurd (omega arith)
  standing-inserted (s ∷ ss) (suc i) a h o =
      ap (cons_option (named_of s)) (standing-inserted ss i a.1 (splits-rest s ss n i h) (λ d k. o d (omega arith)))
      ∙ sym (with-later (record { number = n; clause = c }) s.number s.clause (standing ss) (h.small 0 s (omega arith)))

  pub filled-new : (slots : List Slot) (i : ℕ) → IsAscending (slot_numbers slots) → Splits slots n i → ((d : Slot) → i < length slots → (get_or slots i d).number ≢ n)
      → IsFilled slots n c (insert slots i (record { number = n; clause = Some c }))
  filled-new slots i a h o = record {
    rising = rising-inserted slots i a h o;
    numbers = of_inserted slots i h.within;
    stands = standing-inserted slots i a h o;
  }

-- the empty slot of the number
no_clause : (m : ℕ) (o : Option (List ℕ)) → option_map (λ (k : List ℕ). let s : Named = record { number = m; clause = k } in s) o ≡ None → o ≡ None
no_clause m None e = refl
no_clause m (Some k) e = absurd (none-some _ (sym e))

standing-set : (slots : List Slot) (i : ℕ) (d : Slot) (c : List ℕ) → IsAscending (slot_numbers slots) → i < length slots → (get_or slots i d).clause ≡ None
    → standing (set slots i (record { number = (get_or slots i d).number; clause = Some c })) ≡ with_clause (record { number = (get_or slots i d).number; clause = c }) (standing slots)
standing-set [] i d c a h e = absurd (omega arith)
standing-set (s ∷ ss) zero d c a h e =
    sym (ap (λ o. with_clause (record { number = s.number; clause = c }) (cons_option (option_map (λ (k : List ℕ). let n : Named = record { number = s.number; clause = k } in n) o) (standing ss))) e
    ∙ with-first (record { number = s.number; clause = c }) (standing ss) (λ x i. below_others s.number (slot_numbers ss) x.number a (number-in ss x i)))
standing-set (s ∷ ss) (suc i) d c a h e =
    let l : s.number < (get_or ss i d).number = before (s ∷ ss) 0 (suc i) d a (omega arith) h in
    ap (cons_option (named_of s)) (standing-set ss i d c a.1 (omega arith) e)
    ∙ sym (with-later (record { number = (get_or ss i d).number; clause = c }) s.number s.clause (standing ss) l)

pub filled-empty : (slots : List Slot) (i n : ℕ) (d : Slot) (c : List ℕ) → IsAscending (slot_numbers slots) → i < length slots → (get_or slots i d).number ≡ n → find_number (standing slots) n ≡ None
    → IsFilled slots n c (set slots i (record { number = (get_or slots i d).number; clause = Some c }))
filled-empty slots i n d c a h e free = record {
  rising = subst IsAscending (sym (numbers-set slots i d (Some c) h)) a;
  numbers = λ m j. inr (subst (λ ns. Contains ns m) (numbers-set slots i d (Some c) h) j);
  stands =
      standing-set slots i d c a h (no_clause (get_or slots i d).number (get_or slots i d).clause (sym (find-at slots i d a h) ∙ ap (find_number (standing slots)) e ∙ free))
      ∙ ap (λ m. with_clause (record { number = m; clause = c }) (standing slots)) e;
}

pub kept-filled : (variables next count n : ℕ) (slots new : List Slot) (c : List ℕ) → IsKept variables next count slots → IsFilled slots n c new → n < next → find_number (standing slots) n ≡ None
    → IsAscending c → IsWithin variables c → IsKept variables next (count + 1) new
kept-filled variables next count n slots new c k h l free a w =
    let f : Formula = record { variables = variables; next = next; clauses = standing slots } in
    record {
      rising = h.rising;
      below = below;
      counted = ap (λ m. m + 1) k.counted ∙ sym (ap length h.stands ∙ length-with_clause (record { number = n; clause = c }) (standing slots));
      valid = subst (λ (cs : List Named). IsFormula (record { variables = variables; next = next; clauses = cs })) (sym h.stands)
          (IsFormula-placed f (record { number = n; clause = c }) k.valid l free a w);
      most = k.most;
      limit = k.limit;
    }
  where
    length-with_clause : (x : Named) (cs : List Named) → length (with_clause x cs) ≡ length cs + 1
    length-with_clause x [] = omega arith
    length-with_clause x (y ∷ ys) = go (nat_lt x.number y.number) (length-with_clause x ys)
      where
        go : (b : Bool) → length (with_clause x ys) ≡ length ys + 1 → length (cond b (x ∷ y ∷ ys) (y ∷ with_clause x ys)) ≡ suc (length ys) + 1
        go true e = omega arith
        go false e = omega arith

    old : (m : ℕ) → Contains (slot_numbers slots) m → m < next
    old m i = let s = of_map (λ (s : Slot). s.number) slots m i in subst (λ z. z < next) s.2 (All-contains (λ (s : Slot). s.number < next) slots s.0 k.below s.1)

    below : All (λ (s : Slot). s.number < next) new
    below i d j = elim (h.numbers (get_or new i d).number (at-number new i d j)) [
      | inl e ↦ subst (λ z. z < next) (sym e) l
      | inr m ↦ old (get_or new i d).number m
    ]

pub kept-raised : (variables more next count : ℕ) (slots : List Slot) → IsKept variables next count slots → variables ≤ more → more ≤ 2000000 → IsKept more next count slots
kept-raised variables more next count slots k l h = record {
  rising = k.rising;
  below = k.below;
  counted = k.counted;
  valid = IsFormula-raised (record { variables = variables; next = next; clauses = standing slots }) more k.valid l;
  most = h;
  limit = k.limit;
}

-- there are no more clauses than numbers below the next one
pub count-at_most : (variables next count : ℕ) (slots : List Slot) → IsKept variables next count slots → count ≤ next
count-at_most variables next count slots k =
    let f : Formula = record { variables = variables; next = next; clauses = standing slots } in
    let n : length (numbers_of (standing slots)) ≤ next - 0 = length-ascending (numbers_of (standing slots)) 0 next k.valid.rising (λ x i. (omega arith, number_below f x k.valid i)) in
    omega (arith, n, k.counted, length-map (standing slots) (λ (c : Named). c.number))

-- the same, said of the formula that stands in the slots
pub kept-put : (variables next count n : ℕ) (slots new : List Slot) (c : List ℕ) (f : Formula) → IsKept variables next count slots → IsFilled slots n c new
    → record { variables = variables; next = next; clauses = standing slots } ≡ f → n < f.next → find_number f.clauses n ≡ None → IsAscending c → IsWithin f.variables c
    → IsKept variables next (count + 1) new
kept-put variables next count n slots new c f k h e l free a w =
    kept-filled variables next count n slots new c k h (subst (λ (g : Formula). n < g.next) (sym e) l) (subst (λ (g : Formula). find_number g.clauses n ≡ None) (sym e) free) a
    (subst (λ (g : Formula). IsWithin g.variables c) (sym e) w)
