-- How often a clause is in a list, and what a removal leaves of that.
use Rattle.std.proofs.Common.{◌≡◌, ℕ, ◌+◌, ◌<◌, ◌≤◌, Bool, true, false, cond, not, eqb, List, [], ◌∷◌, ◌++◌, refl, sym, ap, inl, inr, arith}
use Rattle.std.specs.Prelude.{◌==◌}
use Rattle.std.specs.List.{Contains}
use Rattle.std.proofs.lemmas.Bool.{and_parts, eq-eqb}
use Rattle.cp_logic.specs.declared.named.Named.{Named}
use Rattle.cp_logic.specs.Clauses.{is_subset, IsAscending}
use Rattle.cp_logic.specs.Formulas.{clauses_of, without_number}
use Rattle.cp_logic.specs.Legality.{same_literals}
use Rattle.cp_logic.proofs.Members.{none_in, in_here, in_later, in_cases}
use Rattle.cp_logic.proofs.SetFacts.{same_set, subset-in}
use Rattle.cp_logic.proofs.Parts.{literals_decides}
use Rattle.cp_drat.specs.Checks.{is_same_set, without_one}

-- 1 where the two are the same, and else 0
abbrev pub one_if_same : List ℕ → List ℕ → ℕ
one_if_same d c = cond (same_literals d c) 1 0

abbrev pub count : List ℕ → List (List ℕ) → ℕ
count d [] = 0
count d (c ∷ cs) = one_if_same d c + count d cs

-- each clause is in the second list at least as often as in the first
abbrev pub Covers : List (List ℕ) → List (List ℕ) → Type 0
Covers fewer more = (d : List ℕ) → count d fewer ≤ count d more

abbrev pub AreAscending : List (List ℕ) → Type 0
AreAscending cs = (c : List ℕ) → Contains cs c → IsAscending c

count-in : (d : List ℕ) (cs : List (List ℕ)) → 0 < count d cs → Contains cs d
count-in d [] h = absurd (omega arith)
count-in d (c ∷ cs) h = go (same_literals d c) refl h (count-in d cs)
  where
    go : (b : Bool) → same_literals d c ≡ b → 0 < cond b 1 0 + count d cs → (0 < count d cs → Contains cs d) → Contains (c ∷ cs) d
    go true e k more = in_here d c cs (sym ((literals_decides d c).0 e))
    go false e k more = in_later d c cs (more (omega arith))

in_count : (d : List ℕ) (cs : List (List ℕ)) → Contains cs d → 0 < count d cs
in_count d [] i = absurd (none_in d i)
in_count d (c ∷ cs) i = elim (in_cases d c cs i) [
  | inl e ↦ let k : one_if_same d c ≡ 1 = ap (λ b. cond b 1 0) ((literals_decides d c).1 (sym e)) in omega arith
  | inr t ↦ let k = in_count d cs t in omega arith
]

-- so it has each clause of the first
pub covers-in : (fewer more : List (List ℕ)) → Covers fewer more → (d : List ℕ) → Contains fewer d → Contains more d
covers-in fewer more h d i = let low = in_count d fewer i in let least = h d in count-in d more (omega arith)

count-append : (d : List ℕ) (cs ds : List (List ℕ)) → count d (cs ++ ds) ≡ count d cs + count d ds
count-append d [] ds = omega arith
count-append d (c ∷ cs) ds = let more = count-append d cs ds in omega arith

-- with a clause more in both
pub Covers-push : (fewer more : List (List ℕ)) (c : List ℕ) → Covers fewer more → Covers (fewer ++ c ∷ []) (more ++ c ∷ [])
Covers-push fewer more c h d =
    let least = h d in let left = count-append d fewer (c ∷ []) in let right = count-append d more (c ∷ []) in omega arith

pub of_without_one : (cs : List (List ℕ)) (c d : List ℕ) → Contains (without_one cs c) d → Contains cs d
of_without_one [] c d i = i
of_without_one (e ∷ es) c d i = go (is_same_set e c) i (of_without_one es c d)
  where
    go : (b : Bool) → Contains (cond b es (e ∷ without_one es c)) d → (Contains (without_one es c) d → Contains es d) → Contains (e ∷ es) d
    go true j more = in_later d e es j
    go false j more = elim (in_cases d e (without_one es c) j) [
      | inl s ↦ in_here d e es s
      | inr t ↦ in_later d e es (more t)
    ]

-- ascending clauses of the same literals are the same
same_clause : (c d : List ℕ) → IsAscending c → IsAscending d → is_same_set c d ≡ true → c ≡ d
same_clause c d a b h = let p = and_parts (is_subset c d) (is_subset d c) h in same_set c d a b (subset-in c d p.0) (subset-in d c p.1)

-- a deletion takes away at most one, and that of the clause
count-without_one : (d c : List ℕ) (cs : List (List ℕ)) → IsAscending c → AreAscending cs → count d cs ≤ count d (without_one cs c) + one_if_same d c
count-without_one d c [] a h = omega arith
count-without_one d c (e ∷ es) a h = go (is_same_set e c) refl (count-without_one d c es a (λ x i. h x (in_later x e es i)))
  where
    go : (b : Bool) → is_same_set e c ≡ b → count d es ≤ count d (without_one es c) + one_if_same d c
        → one_if_same d e + count d es ≤ count d (cond b es (e ∷ without_one es c)) + one_if_same d c
    go true s more = let k : one_if_same d e ≡ one_if_same d c = ap (one_if_same d) (same_clause e c (h e (in_here e e es refl)) a s) in omega arith
    go false s more = omega arith

count-fewer : (d : List ℕ) (cs : List Named) (n : ℕ) → count d (clauses_of (without_number cs n)) ≤ count d (clauses_of cs)
count-fewer d [] n = omega arith
count-fewer d (c ∷ cs) n = go (not (c.number == n)) (count-fewer d cs n)
  where
    go : (b : Bool) → count d (clauses_of (without_number cs n)) ≤ count d (clauses_of cs)
        → count d (clauses_of (cond b (c ∷ without_number cs n) (without_number cs n))) ≤ one_if_same d c.clause + count d (clauses_of cs)
    go true more = omega arith
    go false more = omega arith

-- and a removal by number takes away at least that one
count-without_number : (d : List ℕ) (c : Named) (cs : List Named) → Contains cs c → count d (clauses_of (without_number cs c.number)) + one_if_same d c.clause ≤ count d (clauses_of cs)
count-without_number d c [] i = absurd (none_in c i)
count-without_number d c (e ∷ es) i = elim (in_cases c e es i) [
  | inl s ↦
      let k : one_if_same d e.clause ≡ one_if_same d c.clause = ap (λ (x : Named). one_if_same d x.clause) s in
      here (eqb e.number c.number) (eq-eqb e.number c.number (ap (λ (x : Named). x.number) s)) k (count-fewer d es c.number)
  | inr t ↦ later (eqb e.number c.number) (count-without_number d c es t)
]
  where
    here : (b : Bool) → b ≡ true → one_if_same d e.clause ≡ one_if_same d c.clause → count d (clauses_of (without_number es c.number)) ≤ count d (clauses_of es)
        → count d (clauses_of (cond (not b) (e ∷ without_number es c.number) (without_number es c.number))) + one_if_same d c.clause ≤ one_if_same d e.clause + count d (clauses_of es)
    here true s k more = omega arith
    here false s k more = absurd cc

    later : (b : Bool) → count d (clauses_of (without_number es c.number)) + one_if_same d c.clause ≤ count d (clauses_of es)
        → count d (clauses_of (cond (not b) (e ∷ without_number es c.number) (without_number es c.number))) + one_if_same d c.clause ≤ one_if_same d e.clause + count d (clauses_of es)
    later true more = omega arith
    later false more = omega arith

-- with a clause less in both
pub Covers-without : (cs : List Named) (more : List (List ℕ)) (c : Named) → Contains cs c → IsAscending c.clause → AreAscending more → Covers (clauses_of cs) more
    → Covers (clauses_of (without_number cs c.number)) (without_one more c.clause)
Covers-without cs more c i a b h d =
    let left = count-without_number d c cs i in let least = h d in let right = count-without_one d c.clause more a b in omega arith
