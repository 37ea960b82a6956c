-- The resolvents of two lists on a variable, clause by clause of the first list, and how they are counted and numbered.
use Rattle.std.proofs.Common.{◌≡◌, ℕ, ◌+◌, ◌<◌, ◌≤◌, Bool, true, false, cond, not, List, [], ◌∷◌, ◌++◌, map, length, suc, refl, sym, ◌∙◌, ap, arith, append_assoc, append-nil, get_or, take}
use Rattle.std.specs.Prelude.{nat_le}
use Rattle.std.specs.List.{filter, flat_map}
use Rattle.std.proofs.lemmas.List.{length-append, map-append, take_more}
use Rattle.std.proofs.lemmas.List.Elements.{filter-append}
use Rattle.std.proofs.lemmas.Bool.{leb-true, le-leb}
use Rattle.std.proofs.lemmas.List.Concat.{flat_map-append}
use Rattle.cp_logic.specs.declared.named.Named.{Named}
use Rattle.cp_logic.specs.Literals.{positive}
use Rattle.cp_logic.specs.Clauses.{is_tautology, resolvent}
use Rattle.cp_logic.specs.Formulas.{clauses_of}
use Rattle.cp_logic.specs.Entries.{numbered_from}
use Rattle.cp_logic.specs.Legality.{resolvents}
use Rattle.cp_logic.proofs.Locals.{same_bool}
use Rattle.cp_logic.specs.Resolvents.{resolvents_by}

-- a list at the index of an item
pub take-item : {X : Type 0} (xs : List X) (i : ℕ) (x : X) → i < length xs → x ≡ get_or xs i x → take (i + 1) xs ≡ take i xs ++ x ∷ []
take-item xs i x h e = take_more xs i x h ∙ ap (λ y. take i xs ++ y ∷ []) (sym e)

-- the resolvents of a list are those of its first clause, and then those of the others
pub resolvents-cons : (x : ℕ) (c : Named) (pos neg : List Named) → resolvents x (c ∷ pos) neg ≡ resolvents_by (positive x) c.clause neg ++ resolvents x pos neg
resolvents-cons x c pos neg =
    filter-append (λ r. not (is_tautology r)) (map (λ d. resolvent (positive x) c.clause d.clause) neg) (flat_map (λ c. map (λ d. resolvent (positive x) c.clause d.clause) neg) pos)

-- with one more clause, they are those so far and then those of that clause
pub resolvents-push : (x : ℕ) (pos : List Named) (c : Named) (neg : List Named) → resolvents x (pos ++ c ∷ []) neg ≡ resolvents x pos neg ++ resolvents_by (positive x) c.clause neg
resolvents-push x pos c neg =
    ap (filter (λ r. not (is_tautology r))) (flat_map-append (λ c. map (λ d. resolvent (positive x) c.clause d.clause) neg) pos (c ∷ [])
    ∙ ap (λ rs. flat_map (λ c. map (λ d. resolvent (positive x) c.clause d.clause) neg) pos ++ rs) (append-nil (map (λ d. resolvent (positive x) c.clause d.clause) neg)))
    ∙ filter-append (λ r. not (is_tautology r)) (flat_map (λ c. map (λ d. resolvent (positive x) c.clause d.clause) neg) pos) (map (λ d. resolvent (positive x) c.clause d.clause) neg)

-- ---- the resolvents of one clause, step by step

pub by-same : (l k : ℕ) (clause other : List ℕ) (ds : List Named) → l ≡ k → clause ≡ other → resolvents_by l clause ds ≡ resolvents_by k other ds
by-same l k clause other ds e f = ap (λ m. resolvents_by m clause ds) e ∙ ap (λ ls. resolvents_by k ls ds) f

module _ (l : ℕ) (clause : List ℕ) (d : Named) where
  -- a tautology is left out
  pub by-tautology : (ds : List Named) → is_tautology (resolvent l clause d.clause) ≡ true → resolvents_by l clause (d ∷ ds) ≡ resolvents_by l clause ds
  by-tautology ds t = ap (λ b. cond (not b) (resolvent l clause d.clause ∷ resolvents_by l clause ds) (resolvents_by l clause ds)) t

  -- another resolvent counts
  pub by-other : (ds : List Named) → is_tautology (resolvent l clause d.clause) ≡ false → resolvents_by l clause (d ∷ ds) ≡ resolvent l clause d.clause ∷ resolvents_by l clause ds
  by-other ds t = ap (λ b. cond (not b) (resolvent l clause d.clause ∷ resolvents_by l clause ds) (resolvents_by l clause ds)) t

  by-push : (ds : List Named) → resolvents_by l clause (ds ++ d ∷ []) ≡ resolvents_by l clause ds ++ resolvents_by l clause (d ∷ [])
  by-push ds =
      ap (filter (λ r. not (is_tautology r))) (map-append (λ (d : Named). resolvent l clause d.clause) ds (d ∷ []))
      ∙ filter-append (λ r. not (is_tautology r)) (map (λ (d : Named). resolvent l clause d.clause) ds) (resolvent l clause d.clause ∷ [])

  pub by-push_tautology : (ds : List Named) → is_tautology (resolvent l clause d.clause) ≡ true → resolvents_by l clause (ds ++ d ∷ []) ≡ resolvents_by l clause ds
  by-push_tautology ds t = by-push ds ∙ ap (λ rs. resolvents_by l clause ds ++ rs) (by-tautology [] t) ∙ append-nil (resolvents_by l clause ds)

  pub by-push_other : (ds : List Named) → is_tautology (resolvent l clause d.clause) ≡ false
      → resolvents_by l clause (ds ++ d ∷ []) ≡ resolvents_by l clause ds ++ resolvent l clause d.clause ∷ []
  by-push_other ds t = by-push ds ∙ ap (λ rs. resolvents_by l clause ds ++ rs) (by-other [] t)

-- ---- counting

same_test : (a b c d : ℕ) → (a ≤ b → c ≤ d) → (c ≤ d → a ≤ b) → nat_le a b ≡ nat_le c d
same_test a b c d h k = same_bool (nat_le a b) (nat_le c d) (λ e. le-leb c d (h (leb-true a b e))) (λ e. le-leb a b (k (leb-true c d e)))

-- where a part was counted down, the test is on the rest
pub count-rest : (x : ℕ) (c : Named) (pos neg : List Named) (most left : ℕ) → left + length (resolvents_by (positive x) c.clause neg) ≡ most
    → nat_le (length (resolvents x pos neg)) left ≡ nat_le (length (resolvents x (c ∷ pos) neg)) most
count-rest x c pos neg most left e =
    same_test (length (resolvents x pos neg)) left (length (resolvents x pos neg) + length (resolvents_by (positive x) c.clause neg)) most (λ h. omega arith) (λ h. omega arith)
    ∙ ap (λ n. nat_le n most) (sum ∙ sym (ap length (resolvents-cons x c pos neg)))
  where
    sum : length (resolvents x pos neg) + length (resolvents_by (positive x) c.clause neg) ≡ length (resolvents_by (positive x) c.clause neg ++ resolvents x pos neg)
    sum = omega (arith, length-append (resolvents_by (positive x) c.clause neg) (resolvents x pos neg))

-- where a part alone is too much, so is the whole
pub count-above : (x : ℕ) (c : Named) (pos neg : List Named) (most : ℕ) → most < length (resolvents_by (positive x) c.clause neg)
    → nat_le (length (resolvents x (c ∷ pos) neg)) most ≡ false
count-above x c pos neg most h = go (nat_le (length (resolvents x (c ∷ pos) neg)) most) refl
  where
    go : (b : Bool) → nat_le (length (resolvents x (c ∷ pos) neg)) most ≡ b → nat_le (length (resolvents x (c ∷ pos) neg)) most ≡ false
    go false e = e
    go true e =
        absurd (omega (
          arith,
          leb-true (length (resolvents x (c ∷ pos) neg)) most e,
          ap length (resolvents-cons x c pos neg),
          length-append (resolvents_by (positive x) c.clause neg) (resolvents x pos neg),
        ))

-- ---- numbering

-- numbers are given in the order of the list
pub numbered_from-append : (n : ℕ) (rs qs : List (List ℕ)) → numbered_from n (rs ++ qs) ≡ numbered_from n rs ++ numbered_from (n + length rs) qs
numbered_from-append n [] qs = ap (λ k. numbered_from k qs) (omega arith)
numbered_from-append n (r ∷ rs) qs =
    ap (λ ds. named ∷ ds) (numbered_from-append (n + 1) rs qs)
    ∙ ap (λ k. named ∷ (numbered_from (n + 1) rs ++ numbered_from k qs)) (omega arith)
  where
    named : Named
    named = record { number = n; clause = r }

pub clauses_of-numbered : (n : ℕ) (rs : List (List ℕ)) → clauses_of (numbered_from n rs) ≡ rs
clauses_of-numbered n [] = refl
clauses_of-numbered n (r ∷ rs) = ap (λ ds. r ∷ ds) (clauses_of-numbered (n + 1) rs)

pub length-numbered : (n : ℕ) (rs : List (List ℕ)) → length (numbered_from n rs) ≡ length rs
length-numbered n [] = refl
length-numbered n (r ∷ rs) = ap suc (length-numbered (n + 1) rs)

-- the resolvents of one more clause are numbered where those so far end
pub numbered-more : (next x : ℕ) (before : List Named) (c : Named) (neg old : List Named) → old ≡ numbered_from next (resolvents x before neg)
    → old ++ numbered_from (next + length old) (resolvents_by (positive x) c.clause neg) ≡ numbered_from next (resolvents x (before ++ c ∷ []) neg)
numbered-more next x before c neg old e =
    ap (λ ds. ds ++ numbered_from (next + length ds) (resolvents_by (positive x) c.clause neg)) e
    ∙ ap (λ n. numbered_from next (resolvents x before neg) ++ numbered_from (next + n) (resolvents_by (positive x) c.clause neg)) (length-numbered next (resolvents x before neg))
    ∙ sym (numbered_from-append next (resolvents x before neg) (resolvents_by (positive x) c.clause neg))
    ∙ ap (numbered_from next) (sym (resolvents-push x before c neg))

-- one more resolvent gets the number after those so far
pub resolvent-more : (n l : ℕ) (clause : List ℕ) (before : List Named) (d : Named) (old new : List Named) (number : ℕ)
    → new ≡ old ++ numbered_from (n + length old) (resolvents_by l clause before) → is_tautology (resolvent l clause d.clause) ≡ false → number ≡ n + length new
    → new ++ record { number = number; clause = resolvent l clause d.clause } ∷ [] ≡ old ++ numbered_from (n + length old) (resolvents_by l clause (before ++ d ∷ []))
resolvent-more n l clause before d old new number e t k =
    ap (λ m. new ++ one m) place
    ∙ ap (λ ds. ds ++ one (n + length old + length rs)) e
    ∙ append_assoc old (numbered_from (n + length old) rs) (one (n + length old + length rs))
    ∙ ap (λ ds. old ++ ds) (sym (numbered_from-append (n + length old) rs (resolvent l clause d.clause ∷ [])))
    ∙ ap (λ qs. old ++ numbered_from (n + length old) qs) (sym (by-push_other l clause d before t))
  where
    rs : List (List ℕ)
    rs = resolvents_by l clause before

    one : ℕ → List Named
    one m = record { number = m; clause = resolvent l clause d.clause } ∷ []

    place : number ≡ n + length old + length rs
    place = omega (arith, k, ap length e, length-append old (numbered_from (n + length old) rs), length-numbered (n + length old) rs)

-- a tautology gets none
pub tautology-more : (n l : ℕ) (clause : List ℕ) (before : List Named) (d : Named) (old new : List Named)
    → new ≡ old ++ numbered_from (n + length old) (resolvents_by l clause before) → is_tautology (resolvent l clause d.clause) ≡ true
    → new ≡ old ++ numbered_from (n + length old) (resolvents_by l clause (before ++ d ∷ []))
tautology-more n l clause before d old new e t = e ∙ ap (λ qs. old ++ numbered_from (n + length old) qs) (sym (by-push_tautology l clause d before t))
