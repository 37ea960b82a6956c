-- A clause with a literal in place of its negation: which clauses have all of its literals, and what they have of its signature.
use Rattle.std.proofs.Common.{◌≡◌, ℕ, min, max, true, List, [], ◌∷◌, map, Option, Some, None, bit_and, bit_or, refl, sym, ◌∙◌, ap, subst, inl, inr, arith}
use Rattle.std.specs.Prelude.{◌≢◌, ◌==◌, ◌&&◌, not, IfSome}
use Rattle.std.specs.Int.{bit_at}
use Rattle.std.specs.List.{Contains}
use Rattle.std.proofs.lemmas.Bool.{and_parts, and_from, cases_eq}
use Rattle.std.proofs.lemmas.Nat.Bits.{bit_at_or, bit_at_and, same_from_bits}
use Rattle.cp_logic.specs.declared.named.Named.{Named}
use Rattle.cp_logic.specs.Literals.{negated, variable_of}
use Rattle.cp_logic.specs.Clauses.{contains, is_subset, without}
use Rattle.cp_logic.specs.Signatures.{signature}
use Rattle.cp_logic.proofs.Members.{in_map, of_map, all_from, contains-in, in_contains}
use Rattle.cp_logic.proofs.LiteralFacts.{variable_of-negated, negated-negated}
use Rattle.cp_logic.proofs.SetFacts.{subset-in, in_without, of_without}
use Rattle.cp_logic.proofs.Locals.{same_bool}
use Rattle.cp_logic.proofs.SignatureFacts.{signature-subset}
use Rattle.cp_find.specs.Finds.{struck, turned, strengthens}
use Rattle.cp_find.specs.Lookups.{with_taken}
use Rattle.cp_find.proofs.Firsts.{alone, turned-negation, turned-other}

-- the literals of other variables stay
pub kept-literal : (x : ℕ) (taken : Option ℕ) (clause : List ℕ) (l : ℕ) → IfSome taken (λ m. struck x clause ≡ Some m) → Contains clause l → variable_of l ≢ x
    → Contains (with_taken taken clause) l
kept-literal x None clause l h i n = i
kept-literal x (Some m) clause l h i n =
    subst (Contains (map (turned m) clause)) (turned-other m l (λ q. n (ap variable_of q ∙ variable_of-negated m ∙ (alone x clause m h).0))) (in_map (turned m) clause l i)

-- a clause that takes a literal has its negation
pub has-negation : (x : ℕ) (taken : Option ℕ) (clause : List ℕ) (l : ℕ) → IfSome taken (λ m. struck x clause ≡ Some m) → taken ≡ Some l → contains clause (negated l) ≡ true
has-negation x taken clause l h e = (alone x clause l (subst (λ o. IfSome o (λ m. struck x clause ≡ Some m)) e h)).1

-- the turned clause is a subset of those that have the literal and the others
pub turned-subset : (clause other : List ℕ) (l : ℕ) → contains clause (negated l) ≡ true
    → is_subset (map (turned l) clause) other ≡ (contains other l && is_subset (without clause (negated l)) other)
turned-subset clause other l h = same_bool _ _ there back
  where
    there : is_subset (map (turned l) clause) other ≡ true → (contains other l && is_subset (without clause (negated l)) other) ≡ true
    there t =
        let found = λ (m : ℕ) (k : Contains clause m). subset-in (map (turned l) clause) other t (turned l m) (in_map (turned l) clause m k) in
        and_from _ _ (in_contains other l (subst (Contains other) (turned-negation l) (found (negated l) (contains-in clause (negated l) h))))
        (all_from (contains other) (without clause (negated l)) (λ m k.
        let w = of_without clause (negated l) m k in
        in_contains other m (subst (Contains other) (turned-other l m w.1) (found m w.0))))

    back : (contains other l && is_subset (without clause (negated l)) other) ≡ true → is_subset (map (turned l) clause) other ≡ true
    back t =
        let q = and_parts (contains other l) (is_subset (without clause (negated l)) other) t in
        all_from (contains other) (map (turned l) clause) (λ y k.
        let m = of_map (turned l) clause y k in
        elim (cases_eq m.0 (negated l)) [
          | inl s ↦ ap (contains other) (sym m.2 ∙ ap (turned l) s ∙ turned-negation l) ∙ q.0
          | inr n ↦ ap (contains other) (sym m.2 ∙ turned-other l m.0 n)
              ∙ in_contains other m.0 (subset-in (without clause (negated l)) other q.1 m.0 (in_without clause (negated l) m.0 m.1 n))
        ])

-- a clause that is strengthened has the literal and the others
pub strengthened-has : (by on : Named) (l : ℕ) → contains by.clause (negated l) ≡ true → strengthens l by on ≡ true
    → (contains on.clause (negated (negated l)) ≡ true) × (is_subset (without by.clause (negated l)) on.clause ≡ true)
strengthened-has by on l h t =
    let q = and_parts (contains on.clause l) (is_subset (without by.clause (negated l)) on.clause)
    (sym (turned-subset by.clause on.clause l h) ∙ (and_parts (not (by.number == on.number)) (is_subset (map (turned l) by.clause) on.clause) t).1) in
    (ap (contains on.clause) (negated-negated l) ∙ q.0, q.1)

both_within : (x y z : ℕ) → min x z ≡ x → min y z ≡ y → min (max x y) z ≡ max x y
both_within x y z e d = omega arith

-- bits that such a clause has, and the literal's, are bits of it
pub turned-bits : (clause other : List ℕ) (l a b : ℕ) → contains clause (negated l) ≡ true
    → ((ls : List ℕ) → is_subset (without clause (negated l)) ls ≡ true → bit_and a (signature ls) ≡ a) → b ≡ signature (l ∷ []) → is_subset (map (turned l) clause) other ≡ true
    → bit_and (bit_or a b) (signature other) ≡ bit_or a b
turned-bits clause other l a b h k e t =
    let q = and_parts (contains other l) (is_subset (without clause (negated l)) other) (sym (turned-subset clause other l h) ∙ t) in
    let left : bit_and a (signature other) ≡ a = k other q.1 in
    let right : bit_and b (signature other) ≡ b = ap (λ z. bit_and z (signature other)) e ∙ signature-subset (l ∷ []) other (and_from _ _ q.0 refl) ∙ sym e in
    same_from_bits _ _ (λ i. rw (bit_at_and (bit_or a b) (signature other) i, bit_at_or a b i)
    (both_within (bit_at a i) (bit_at b i) (bit_at (signature other) i) (sym (bit_at_and a (signature other) i) ∙ ap (λ z. bit_at z i) left)
    (sym (bit_at_and b (signature other) i) ∙ ap (λ z. bit_at z i) right)))
