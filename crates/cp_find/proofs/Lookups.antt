-- Lookups cover the clauses that they were made of and those that are left of them, and what a lookup gives is the first that is met.
use Rattle.std.proofs.Common.{◌≡◌, ℕ, ◌<◌, ◌≤◌, ◌*◌, ◌^◌, Bool, true, false, cond, not, List, [], ◌∷◌, ◌++◌, length, take, get_or, slice_index_or, ◌+◌, ◌%◌, Option, Some, None, refl, sym, ◌∙◌, ap, subst, inl, inr, arith}
use Rattle.std.specs.Prelude.{◌==◌, ◌⊎◌, nat_le, ◌≢◌, slice_set, IsTrue, IfNone}
use Rattle.std.specs.List.{Contains, find}
use Rattle.std.proofs.lemmas.Bool.{and_parts, false≢true, false_from_ne_true, cases_eq}
use Rattle.std.proofs.lemmas.Bool.Decides.{nat_tests}
use Rattle.std.proofs.lemmas.Nat.{mod_below, div_below}
use Rattle.std.proofs.Math.Nat.{mul-lt-mul_of_pos_left}
use Rattle.std.proofs.lemmas.List.{take_more, get_or-set_same, get_or-set_other, get_or_default}
use Rattle.std.proofs.lemmas.List.Elements.{Contains-append_cases}
use Rattle.cp_logic.specs.declared.named.Named.{Named}
use Rattle.cp_logic.specs.Literals.{variable_of}
use Rattle.cp_logic.specs.Clauses.{is_subset, IsAscending}
use Rattle.cp_logic.specs.Formulas.{numbers_of}
use Rattle.cp_logic.proofs.Members.{none_in, in_here, in_later, in_cases, in_map, in_filter, of_filter}
use Rattle.cp_logic.proofs.SetFacts.{subset-in}
use Rattle.cp_logic.proofs.Ascending.{below_others, IsAscending-numbers}
use Rattle.cp_logic.proofs.Locals.{find_none}
use Rattle.cp_occ.specs.Cells.{from_number}
use Rattle.cp_find.specs.declared.lookup.Signed.{Signed}
use Rattle.cp_find.specs.Finds.{subsumes}
use Rattle.cp_find.specs.Lookups.{WantedView, LookupView, signed, place, AreListed, Keeps, Covers, Serves, IsMet, is_up_to, IsBest}

-- ---- what is covered

-- with no bucket in use there is nothing to show
pub covers-nothing : (x : ℕ) (cs : List Named) (lookup : LookupView) → lookup.count ≡ 0 → Covers x cs lookup
covers-nothing x cs lookup e = λ c i p. absurd (omega (arith, e, p))

-- what covers some clauses covers some of these
pub covers-within : (x : ℕ) (cs ds : List Named) (lookup : LookupView) → ((c : Named) → Contains ds c → Contains cs c) → Covers x cs lookup → Covers x ds lookup
covers-within x cs ds lookup h p = λ c i. p c (h c i)

-- the bucket of a literal has the clauses with the literal
pub bucket-has : (lookup : LookupView) (bucket : List Signed) (k lit : ℕ) → bucket ≡ slice_index_or lookup.buckets k bucket → k ≡ place lit lookup.count → 0 < lookup.count
    → (x : ℕ) (cs : List Named) (c : Named) → Covers x cs lookup → Contains cs c → Contains c.clause lit → variable_of lit ≢ x → Contains bucket (signed c)
bucket-has lookup bucket k lit e q p x cs c covers i j n =
    subst (λ (z : List Signed). Contains z (signed c)) (sym (e ∙ ap (λ n. slice_index_or lookup.buckets n bucket) q)) (covers c i p lit bucket j n)

-- so that of a wanted literal serves
pub serves-from : (wanted : WantedView) (lookup : LookupView) (list : List Signed) (lit : ℕ) → Contains wanted.sought.clause lit → variable_of lit ≢ wanted.variable
    → ((x : ℕ) (cs : List Named) (c : Named) → Covers x cs lookup → Contains cs c → Contains c.clause lit → variable_of lit ≢ x → Contains list (signed c)) → Serves wanted lookup list
serves-from wanted lookup list lit i n h = λ cs c covers j t.
    h wanted.variable cs c covers j (subset-in wanted.sought.clause c.clause (and_parts (not (wanted.sought.number == c.number)) (is_subset wanted.sought.clause c.clause) t).1 lit i) n

-- ---- the clause under a number

number-from : (n : ℕ) (c : Named) → c.number ≡ n → nat_le n c.number ≡ true
number-from n c e = grind (arith, nat_tests)

-- none stands there where none is from the number on
pub stands-none : (cs : List Named) (n : ℕ) → from_number n cs ≡ [] → (c : Named) → Contains cs c → c.number ≡ n → ⊥
stands-none cs n e c i q = none_in c (subst (λ (ds : List Named). Contains ds c) e (in_filter (λ (d : Named). nat_le n d.number) cs c i (number-from n c q)))

-- else it is the first from the number on
pub stands-first : (cs : List Named) (n : ℕ) (f : Named) (rest : List Named) → IsAscending (numbers_of cs) → from_number n cs ≡ f ∷ rest
    → (c : Named) → Contains cs c → c.number ≡ n → f ≡ c
stands-first cs n f rest a e c i q = elim (in_cases c f rest (subst (λ (ds : List Named). Contains ds c) e (in_filter (λ (d : Named). nat_le n d.number) cs c i (number-from n c q)))) [
  | inl s ↦ s
  | inr j ↦
      let rising = subst (λ (ds : List Named). IsAscending (numbers_of ds)) e (IsAscending-numbers (λ (d : Named). nat_le n d.number) cs a) in
      let less : f.number < c.number = below_others f.number (numbers_of rest) c.number rising (in_map (λ (d : Named). d.number) rest c j) in
      absurd (no_less n f.number c.number (of_filter (λ (d : Named). nat_le n d.number) cs f (subst (λ (ds : List Named). Contains ds f) (sym e) (in_here f f rest refl))).1 q less)
]
  where
    no_less : (n m k : ℕ) → nat_le n m ≡ true → k ≡ n → m < k → ⊥
    no_less n m k t s l = grind (arith, nat_tests)

pub first-in : (cs : List Named) (n : ℕ) (f : Named) (rest : List Named) → from_number n cs ≡ f ∷ rest → Contains cs f
first-in cs n f rest e = (of_filter (λ (d : Named). nat_le n d.number) cs f (subst (λ (ds : List Named). Contains ds f) (sym e) (in_here f f rest refl))).0

-- ---- the best of some candidates

pub best-start : (wanted : Named) (cs : List Named) (from : ℕ) → IsBest wanted cs from [] None
best-start wanted cs from = record { met = tt; above = tt; least = λ c m a i. absurd (none_in (signed c) i) }

module _ (wanted : Named) (cs : List Named) (from : ℕ) (seen : List Signed) (candidate : Signed) (best : Option Named) where
  -- a candidate that is passed
  pub best-passed : IsBest wanted cs from seen best
      → ((c : Named) → IsMet wanted cs c → from ≤ c.number → candidate ≡ signed c → IsTrue (is_up_to best c.number)) → IsBest wanted cs from (seen ++ candidate ∷ []) best
  best-passed b h = record {
    met = b.met;
    above = b.above;
    least = λ c m a i. elim (Contains-append_cases seen (candidate ∷ []) (signed c) i) [
      | inl j ↦ b.least c m a j
      | inr j ↦ elim (in_cases (signed c) candidate [] j) [ inl e ↦ h c m a e | inr k ↦ absurd (none_in (signed c) k) ]
    ];
  }

  -- a candidate that is taken
  pub best-taken : (d : Named) → IsBest wanted cs from seen best → IsMet wanted cs d → from ≤ d.number → is_up_to best d.number ≡ false → d.number ≡ candidate.number
      → IsBest wanted cs from (seen ++ candidate ∷ []) (Some d)
  best-taken d b t l f e = record {
    met = t;
    above = l;
    least = λ c m a i. elim (Contains-append_cases seen (candidate ∷ []) (signed c) i) [
      | inl j ↦ lower best d.number c.number f (b.least c m a j)
      | inr j ↦ elim (in_cases (signed c) candidate [] j) [
        | inl s ↦ same d.number c.number (e ∙ ap (λ (z : Signed). z.number) s)
        | inr k ↦ absurd (none_in (signed c) k)
      ]
    ];
  }
    where
      lower : (o : Option Named) (m n : ℕ) → is_up_to o m ≡ false → is_up_to o n ≡ true → nat_le m n ≡ true
      lower None m n p q = absurd (false≢true q)
      lower (Some g) m n p q = between g.number m n p q
        where
          between : (g m n : ℕ) → nat_le g m ≡ false → nat_le g n ≡ true → nat_le m n ≡ true
          between g m n p q = grind (arith, nat_tests)

      same : (m n : ℕ) → m ≡ n → nat_le m n ≡ true
      same m n e = grind (arith, nat_tests)

-- ---- it is the first

-- the least of those that pass is the first
find-least : (p : Named → Bool) (cs : List Named) (b : Named) → IsAscending (numbers_of cs) → Contains cs b → p b ≡ true
    → ((c : Named) → Contains cs c → p c ≡ true → b.number ≤ c.number) → find p cs ≡ Some b
find-least p [] b a i t h = absurd (none_in b i)
find-least p (c ∷ cs) b a i t h = go (p c) refl (in_cases b c cs i) (λ j. find-least p cs b a.1 j t (λ d k. h d (in_later d c cs k)))
  where
    go : (z : Bool) → p c ≡ z → (c ≡ b) ⊎ Contains cs b → (Contains cs b → find p cs ≡ Some b) → cond (p c) (Some c) (find p cs) ≡ Some b
    go true e (inl s) more = ap (λ z. cond z (Some c) (find p cs)) e ∙ ap (λ (z : Named). Some z) s
    go true e (inr j) more =
        let less : c.number < b.number = below_others c.number (numbers_of cs) b.number a (in_map (λ (d : Named). d.number) cs b j) in
        let least : b.number ≤ c.number = h c (in_here c c cs refl) e in
        absurd (omega (arith, less, least))
    go false e (inl s) more = absurd (false≢true (sym e ∙ ap p s ∙ t))
    go false e (inr j) more = ap (λ z. cond z (Some c) (find p cs)) e ∙ more j

up_from : (o n : ℕ) → nat_le o n ≡ true → o ≤ n
up_from o n t = grind (arith, nat_tests)

from_up : (o n : ℕ) → o ≤ n → nat_le o n ≡ true
from_up o n t = grind (arith, nat_tests)

pub best-first : (wanted : Named) (cs : List Named) (from : ℕ) (list : List Signed) (best : Option Named) → IsAscending (numbers_of cs)
    → ((c : Named) → Contains cs c → IsTrue (subsumes wanted c) → Contains list (signed c)) → IsBest wanted cs from list best
    → best ≡ find (subsumes wanted) (from_number from cs)
best-first wanted cs from list None a h b = sym (find_none (subsumes wanted) (from_number from cs) (λ c i.
    let p = of_filter (λ (d : Named). nat_le from d.number) cs c i in
    false_from_ne_true (subsumes wanted c) (λ t. false≢true (b.least c (record { in_place = p.0; subsumed = t }) (up_from from c.number p.1) (h c p.0 t)))))
best-first wanted cs from list (Some d) a h b = sym (find-least (subsumes wanted) (from_number from cs) d
    (IsAscending-numbers (λ (c : Named). nat_le from c.number) cs a)
    (in_filter (λ (c : Named). nat_le from c.number) cs d b.met.in_place (from_up from d.number b.above))
    b.met.subsumed
    (λ c i t. let p = of_filter (λ (e : Named). nat_le from e.number) cs c i in
    up_from d.number c.number (b.least c (record { in_place = p.0; subsumed = t }) (up_from from c.number p.1) (h c p.0 t))))

-- ---- what is told of one candidate

pub only-none : {X : Type 0} (o : Option X) (P : Type 0) → P → IfNone o P
only-none None P p = p
only-none (Some x) P p = tt

pub same_clause : (d : Named) (n : ℕ) (ls : List ℕ) → d.number ≡ n → ls ≡ d.clause → (let c : Named = record { number = n; clause = ls } in c ≡ d)
same_clause d n ls e q =
    ap (λ z. let c : Named = record { number = z; clause = ls } in c) (sym e) ∙ ap (λ z. let c : Named = record { number = d.number; clause = z } in c) q

-- ---- buckets that are filled

place-below : (l count : ℕ) → 0 < count → place l count < count
place-below l count p = div_below (count * (l * 2654435769 % 2 ^ 32)) (2 ^ 32) count (omega arith) (mul-lt-mul_of_pos_left (mod_below (l * 2654435769) (2 ^ 32) (omega arith)) p)

-- a bucket with one clause more
pub listed-more : (x count : ℕ) (old new : List (List Signed)) (ls : List ℕ) (l : ℕ) (c : Signed) → 0 < count → count ≤ length old → Keeps old new
    → (variable_of l ≢ x → (d : List Signed) → Contains (slice_index_or new (place l count) d) c) → AreListed x count old ls c → AreListed x count new (ls ++ l ∷ []) c
listed-more x count old new ls l c p w keeps here h m d i n = elim (Contains-append_cases ls (l ∷ []) m i) [
  | inl j ↦ keeps (place m count) d c (below m) (h m d j n)
  | inr j ↦ elim (in_cases m l [] j) [
    | inl e ↦ subst (λ z. Contains (slice_index_or new (place z count) d) c) e (here (λ q. n (ap variable_of (sym e) ∙ q)) d)
    | inr k ↦ absurd (none_in m k)
  ]
]
  where
    below : (m : ℕ) → place m count < length old
    below m = let less : place m count < count = place-below m count p in omega (arith, less, w)

-- what was listed stays so
pub listed-kept : (x count : ℕ) (old new : List (List Signed)) (ls : List ℕ) (c : Signed) → 0 < count → count ≤ length old → Keeps old new → AreListed x count old ls c
    → AreListed x count new ls c
listed-kept x count old new ls c p w keeps h m d i n = keeps (place m count) d c (let less : place m count < count = place-below m count p in omega (arith, less, w)) (h m d i n)

-- a bucket is written that keeps what it has
pub put-keeps : (old : List (List Signed)) (k : ℕ) (before after : List Signed) → k < length old → before ≡ slice_index_or old k before
    → ((c : Signed) → Contains before c → Contains after c) → Keeps old (slice_set old k after)
put-keeps old k before after w e h j d c l i = elim (cases_eq j k) [
  | inl s ↦ subst (λ (z : List Signed). Contains z c) (sym (ap (λ n. slice_index_or (slice_set old k after) n d) s ∙ get_or-set_same old k after d w))
      (h c (subst (λ (z : List Signed). Contains z c) (ap (λ n. slice_index_or old n d) s ∙ get_or_default old k d before w ∙ sym e) i))
  | inr n ↦ subst (λ (z : List Signed). Contains z c) (sym (get_or-set_other old k j after d n)) i
]

pub put-has : (old : List (List Signed)) (k m : ℕ) (after : List Signed) (c : Signed) → k < length old → k ≡ m → Contains after c
    → (d : List Signed) → Contains (slice_index_or (slice_set old k after) m d) c
put-has old k m after c w e i d = subst (λ (z : List Signed). Contains z c) (sym (ap (λ n. slice_index_or (slice_set old k after) n d) (sym e) ∙ get_or-set_same old k after d w)) i

-- one literal more is taken
pub take-item : (xs : List ℕ) (i x : ℕ) → i < length xs → x ≡ get_or xs i x → take (i + 1) xs ≡ take i xs ++ x ∷ []
take-item xs i x h e = take_more xs i x h ∙ ap (λ y. take i xs ++ y ∷ []) (sym e)

-- one clause more is entered
pub entered-next : (x count : ℕ) (old new : List (List Signed)) (n : Named) (rest : List Named) (d : Named) → 0 < count → count ≤ length old → Keeps old new
    → AreListed x count new n.clause (signed n) → (Contains (n ∷ rest) d) ⊎ (AreListed x count old d.clause (signed d))
    → (Contains rest d) ⊎ (AreListed x count new d.clause (signed d))
entered-next x count old new n rest d p w keeps here (inl i) = elim (in_cases d n rest i) [
  | inl e ↦ inr (subst (λ (z : Named). AreListed x count new z.clause (signed z)) e here)
  | inr j ↦ inl j
]
entered-next x count old new n rest d p w keeps here (inr a) = inr (listed-kept x count old new d.clause (signed d) p w keeps a)
