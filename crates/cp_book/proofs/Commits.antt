-- Entries that are no looks: their numbers and legality, and the run that they stand for.
use Rattle.std.proofs.Common.{◌≡◌, ℕ, ◌+◌, true, false, List, [], ◌∷◌, ◌++◌, map, length, refl, ◌∙◌, ap, arith}
use Rattle.std.proofs.lemmas.Bool.{not_from_false, and_from}
use Rattle.cp_logic.specs.declared.named.Named.{Named}
use Rattle.cp_logic.specs.declared.settings.Rules.{Rules}
use Rattle.cp_logic.specs.Literals.{positive, negative}
use Rattle.cp_logic.specs.Formulas.{Formula, IsFormula, clauses_of, has_empty}
use Rattle.cp_logic.specs.Rules.{Add, Weaken, State, applied, state_after, IsRun}
use Rattle.cp_logic.specs.Entries.{Entry, Taut, Subsume, Strengthen, Block, Eliminate, Look, expand, new_clauses, renumbered, numbered, is_look}
use Rattle.cp_logic.specs.Legality.{is_legal_in, is_legal}
use Rattle.cp_logic.proofs.Eliminations.{state_after-append}
use Rattle.cp_logic.proofs.EntryRuns.{entry-run_in}
use Rattle.cp_logic.proofs.Complete.{clauses_of-renumbered, length-renumbered}

-- the next number rises by the new clauses
next-adds : (s : State) (cs : List Named) → (state_after s (map Add cs)).formula.next ≡ s.formula.next + length cs
next-adds s [] = omega arith
next-adds s (c ∷ cs) = let more : (state_after (applied s (Add c)) (map Add cs)).formula.next ≡ s.formula.next + 1 + length cs = next-adds (applied s (Add c)) cs in omega arith

next-weakens : (s : State) (cs : List Named) (l : ℕ) → (state_after s (map (λ c. Weaken c l) cs)).formula.next ≡ s.formula.next
next-weakens s [] l = refl
next-weakens s (c ∷ cs) l = next-weakens (applied s (Weaken c l)) cs l

pub after-next : (s : State) (e : Entry) → (state_after s (expand e)).formula.next ≡ s.formula.next + length (new_clauses e)
after-next s (Taut gone) = omega arith
after-next s (Subsume by gone) = omega arith
after-next s (Strengthen by on l new) = refl
after-next s (Block gone l) = omega arith
after-next s (Eliminate x pos neg new) =
    let adds = map Add new in
    let first = map (λ c. Weaken c (positive x)) pos in
    let second = map (λ c. Weaken c (negative x)) neg in
    ap (λ (z : State). z.formula.next) (state_after-append s adds (first ++ second) ∙ state_after-append (state_after s adds) first second)
    ∙ next-weakens (state_after (state_after s adds) first) neg (negative x) ∙ next-weakens (state_after s adds) pos (positive x) ∙ next-adds s new
after-next s (Look x) = omega arith

-- numbering once is enough
renumbered-again : (n : ℕ) (cs : List Named) → renumbered n cs ≡ renumbered n (renumbered n cs)
renumbered-again n [] = refl
renumbered-again n (c ∷ cs) = ap (λ ks. (let d : Named = record { number = n; clause = c.clause } in d) ∷ ks) (renumbered-again (n + 1) cs)

pub numbered-again : (n : ℕ) (e : Entry) → numbered n e ≡ numbered n (numbered n e)
numbered-again n (Taut gone) = refl
numbered-again n (Subsume by gone) = refl
numbered-again n (Strengthen by on l new) = refl
numbered-again n (Block gone l) = refl
numbered-again n (Eliminate x pos neg new) = ap (Eliminate x pos neg) (renumbered-again n new)
numbered-again n (Look x) = refl

pub look-numbered : (n : ℕ) (e : Entry) → is_look (numbered n e) ≡ is_look e
look-numbered n (Taut gone) = refl
look-numbered n (Subsume by gone) = refl
look-numbered n (Strengthen by on l new) = refl
look-numbered n (Block gone l) = refl
look-numbered n (Eliminate x pos neg new) = refl
look-numbered n (Look x) = refl

pub new-numbered : (n : ℕ) (e : Entry) → clauses_of (new_clauses (numbered n e)) ≡ clauses_of (new_clauses e)
new-numbered n (Taut gone) = refl
new-numbered n (Subsume by gone) = refl
new-numbered n (Strengthen by on l new) = refl
new-numbered n (Block gone l) = refl
new-numbered n (Eliminate x pos neg new) = clauses_of-renumbered n new
new-numbered n (Look x) = refl

pub count-numbered : (n : ℕ) (e : Entry) → length (new_clauses (numbered n e)) ≡ length (new_clauses e)
count-numbered n (Taut gone) = refl
count-numbered n (Subsume by gone) = refl
count-numbered n (Strengthen by on l new) = refl
count-numbered n (Block gone l) = refl
count-numbered n (Eliminate x pos neg new) = length-renumbered n new
count-numbered n (Look x) = refl

-- where no clause is empty, the rest of legality is enough
pub legal-open : (f : Formula) (rules : Rules) (e : Entry) → has_empty f.clauses ≡ false → is_legal_in f.clauses rules e ≡ true → is_legal f rules e ≡ true
unfolding is_legal
legal-open f rules e n h = and_from _ _ (not_from_false (has_empty f.clauses) n) h

-- where the entry, as it is numbered, is legal, it stands for a run
pub numbered-run : (s : State) (rules : Rules) (e : Entry) → IsFormula s.formula → is_legal_in s.formula.clauses rules (numbered s.formula.next e) ≡ true → IsRun s (expand (numbered s.formula.next e))
numbered-run s rules e v h = entry-run_in s rules (numbered s.formula.next e) v h (numbered-again s.formula.next e)
