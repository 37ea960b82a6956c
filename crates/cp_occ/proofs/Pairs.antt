-- What is kept of two clauses, where the one is a subset of the other, with or without a literal.
use Rattle.std.proofs.Common.{◌≡◌, ℕ, ◌^◌, max, true, false, List, bit_and, bit_or, sym, ◌∙◌, ap, subst, arith}
use Rattle.std.specs.Int.{bit_at}
use Rattle.std.specs.List.{Contains}
use Rattle.std.proofs.lemmas.Bool.{false≢true}
use Rattle.std.proofs.lemmas.Nat.Bits.{bit_at_or, same_from_bits}
use Rattle.cp_logic.specs.Literals.{negated}
use Rattle.cp_logic.specs.Clauses.{contains, is_subset, is_tautology, without}
use Rattle.cp_logic.specs.Signatures.{bit_of, signature}
use Rattle.cp_logic.proofs.Members.{all_from, contains-in, in_contains}
use Rattle.cp_logic.proofs.SetFacts.{subset-in, of_without, in_without, tautology-from}
use Rattle.cp_logic.proofs.SignatureFacts.{signature-subset}
use Rattle.cp_occ.proofs.SharedBits.{at_whole}

swapped : (x y : ℕ) → max x y ≡ max y x
swapped x y = omega arith

-- the signature without a literal and the literal's bit make the signature
pub signature-whole : (clause : List ℕ) (l : ℕ) → contains clause l ≡ true → bit_or (signature (without clause l)) (2 ^ bit_of l) ≡ signature clause
signature-whole clause l h = same_from_bits _ _ (λ i.
    bit_at_or (signature (without clause l)) (2 ^ bit_of l) i ∙ swapped (bit_at (signature (without clause l)) i) (bit_at (2 ^ bit_of l) i)
    ∙ sym (at_whole clause l i (contains-in clause l h)))

-- a subset without a literal is one of the other clause without it
pub both-without : (clause other : List ℕ) (l : ℕ) → is_subset clause other ≡ true → bit_and (signature (without clause l)) (signature (without other l)) ≡ signature (without clause l)
both-without clause other l h = signature-subset (without clause l) (without other l)
    (all_from (contains (without other l)) (without clause l) (λ m k.
    let w = of_without clause l m k in
    in_contains (without other l) m (in_without other l m (subset-in clause other h m w.0) w.1)))

-- and it is one of the other clause without the negation, where the clause is no tautology
pub other-without : (clause other : List ℕ) (l n : ℕ) → contains clause l ≡ true → is_tautology clause ≡ false → n ≡ negated l → is_subset (without clause l) other ≡ true
    → bit_and (signature (without clause l)) (signature (without other n)) ≡ signature (without clause l)
other-without clause other l n has plain e h = signature-subset (without clause l) (without other n)
    (all_from (contains (without other n)) (without clause l) (λ m k.
    let w = of_without clause l m k in
    in_contains (without other n) m (in_without other n m (subset-in (without clause l) other h m k)
    (λ q. false≢true (sym plain ∙ tautology-from clause l (contains-in clause l has) (subst (Contains clause) (q ∙ e) w.0))))))

-- a clause that is no tautology is no subset of a clause with the negation of one of its literals
pub subset-opposite : (clause other : List ℕ) (l m : ℕ) → contains clause l ≡ true → contains other m ≡ true → is_tautology other ≡ false → l ≡ negated m
    → is_subset clause other ≡ true → ⊥
subset-opposite clause other l m has had plain e h =
    false≢true (sym plain ∙ tautology-from other m (contains-in other m had) (subset-in clause other h (negated m) (subst (Contains clause) e (contains-in clause l has))))
