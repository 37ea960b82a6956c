-- What a legal entry, and so a legal journal, adds is RUP where it is added.
use Rattle.std.proofs.Common.{◌≡◌, ℕ, zero, suc, ◌≤◌, true, List, [], ◌∷◌, ◌++◌, map, length, take, refl, sym, ◌∙◌, ap, subst, inl, inr, arith}
use Rattle.std.specs.List.{Contains}
use Rattle.std.proofs.lemmas.List.{map-append}
use Rattle.std.proofs.lemmas.Bool.{cases_Bool, false≢true, cases_eq}
use Rattle.std.proofs.lemmas.List.Elements.{Contains-append_left}
use Rattle.std.proofs.Math.Seq.{take-length}
use Rattle.cp_logic.specs.declared.named.Named.{Named}
use Rattle.cp_logic.specs.declared.settings.Rules.{Rules}
use Rattle.cp_logic.specs.Literals.{negated, positive, negative}
use Rattle.cp_logic.specs.Clauses.{contains, resolvent, IsAscending}
use Rattle.cp_logic.specs.Propagation.{falsified, unit, IsRup}
use Rattle.cp_logic.specs.Formulas.{Formula, IsFormula, clauses_of}
use Rattle.cp_logic.specs.Rules.{Rule, Add, Drop, Weaken, State, applied, state_after}
use Rattle.cp_logic.specs.Entries.{Entry, Taut, Subsume, Strengthen, Block, Eliminate, Look, expand}
use Rattle.cp_logic.specs.Legality.{is_legal_in}
use Rattle.cp_logic.specs.Journals.{Post, IsLegalJournal, expansion, folded, start_of}
use Rattle.cp_logic.proofs.Members.{in_here, in_later, contains-in, in_contains}
use Rattle.cp_logic.proofs.SetFacts.{difference_none, difference_one, in_without, in_resolvent_left, in_resolvent_right}
use Rattle.cp_logic.proofs.Parts.{IsEliminate, strengthen-parts, eliminate-parts}
use Rattle.cp_logic.proofs.Expansions.{in_clauses, ascending_at, strengthen-rup}
use Rattle.cp_logic.proofs.Eliminations.{rup-larger, of_pos, of_neg, of_new}
use Rattle.cp_logic.proofs.EntryRuns.{legal-in}
use Rattle.cp_logic.proofs.JournalRuns.{take-one_more, expansion-push, valid_to}

-- what the rule adds is RUP
abbrev AdditionIsRup : Formula → Rule → Type 0
AdditionIsRup f (Add c) = IsRup (clauses_of f.clauses) c.clause
AdditionIsRup f (Drop c) = Unit {0}
AdditionIsRup f (Weaken c l) = Unit {0}

-- what each rule adds is RUP in the state that those before it leave
abbrev pub AdditionsAreRup : State → List Rule → Type 0
AdditionsAreRup s [] = Unit {0}
AdditionsAreRup s (r ∷ rs) = AdditionIsRup s.formula r × AdditionsAreRup (applied s r) rs

AdditionsAreRup-append : (s : State) (rs qs : List Rule) → AdditionsAreRup s rs → AdditionsAreRup (state_after s rs) qs → AdditionsAreRup s (rs ++ qs)
AdditionsAreRup-append s [] qs a b = b
AdditionsAreRup-append s (r ∷ rs) qs a b = (a.0, AdditionsAreRup-append (applied s r) rs qs a.1 b)

-- what has all literals of two clauses but those on which they are resolved is RUP
resolved-rup : (clauses : List (List ℕ)) (a d : List ℕ) (l : ℕ) (r : List ℕ) → Contains clauses a → Contains clauses d → IsAscending a → Contains a l
    → ((x : ℕ) → Contains a x → (x ≡ l → ⊥) → Contains r x) → ((x : ℕ) → Contains d x → (x ≡ negated l → ⊥) → Contains r x) → IsRup clauses r
resolved-rup clauses a d l r i j ascending has left right = elim (cases_Bool (contains r l)) [
  | inl t ↦ inr (falsified {clause = a} i (difference_none a r (λ x k. elim (cases_eq x l) [
    | inl e ↦ subst (Contains r) (sym e) (contains-in r l t)
    | inr n ↦ left x k n
  ])))
  | inr f ↦ inr (unit {clause = a} {l = l} i (difference_one a r l ascending has (λ k. false≢true (sym f ∙ in_contains r l k)) left)
      (falsified {clause = d} j (difference_none d (negated l ∷ r) (λ x k. elim (cases_eq x (negated l)) [
        | inl e ↦ in_here x (negated l) r (sym e)
        | inr n ↦ in_later x (negated l) r (right x k n)
      ]))))
]

new-rup : (s : State) (v : IsFormula s.formula) (bound x : ℕ) (pos neg new : List Named) → IsEliminate s.formula.clauses bound x pos neg new → (c : Named) → Contains new c
    → IsRup (clauses_of s.formula.clauses) c.clause
new-rup s v bound x pos neg new p c i =
    let q = of_new s v bound x pos neg new p c i in
    let a = of_pos s v bound x pos neg new p q.0 q.2 in
    let d = of_neg s v bound x pos neg new p q.1 q.3 in
    subst (IsRup (clauses_of s.formula.clauses)) q.4
    (resolved-rup (clauses_of s.formula.clauses) q.0.clause q.1.clause (positive x) (resolvent (positive x) q.0.clause q.1.clause)
    (in_clauses s.formula.clauses q.0 a.0) (in_clauses s.formula.clauses q.1 d.0) (ascending_at s.formula q.0 v a.0) a.1
    (λ y k n. in_resolvent_left (positive x) q.0.clause q.1.clause y (in_without q.0.clause (positive x) y k n))
    (λ y k n. in_resolvent_right (positive x) q.0.clause q.1.clause y (in_without q.1.clause (negated (positive x)) y k n)))

-- clauses that are RUP are so too where some of them were added
adds-rup : (s : State) (new : List Named) → ((c : Named) → Contains new c → IsRup (clauses_of s.formula.clauses) c.clause) → AdditionsAreRup s (map Add new)
adds-rup s [] h = tt
adds-rup s (c ∷ cs) h = (
  h c (in_here c c cs refl),
  adds-rup (applied s (Add c)) cs (λ d i. rup-larger (clauses_of s.formula.clauses) (clauses_of (s.formula.clauses ++ c ∷ [])) d.clause
      (λ k j. subst (λ ks. Contains ks k) (sym (map-append (λ (e : Named). e.clause) s.formula.clauses (c ∷ []))) (Contains-append_left (clauses_of s.formula.clauses) (clauses_of (c ∷ [])) k j))
      (h d (in_later d c cs i))),
)

weakens-rup : (s : State) (gone : List Named) (l : ℕ) → AdditionsAreRup s (map (λ c. Weaken c l) gone)
weakens-rup s [] l = tt
weakens-rup s (c ∷ cs) l = (tt, weakens-rup (applied s (Weaken c l)) cs l)

entry-rup : (s : State) (rules : Rules) (e : Entry) → IsFormula s.formula → is_legal_in s.formula.clauses rules e ≡ true → AdditionsAreRup s (expand e)
unfolding is_legal_in
entry-rup s rules (Taut gone) v h = (tt, tt)
entry-rup s rules (Subsume by gone) v h = (tt, tt)
entry-rup s rules (Strengthen by on l new) v h = (strengthen-rup s.formula by on l new v (strengthen-parts s.formula.clauses rules by on l new h), (tt, tt))
entry-rup s rules (Block gone l) v h = (tt, tt)
entry-rup s rules (Eliminate x pos neg new) v h =
    AdditionsAreRup-append s (map Add new) (map (λ c. Weaken c (positive x)) pos ++ map (λ c. Weaken c (negative x)) neg)
    (adds-rup s new (new-rup s v rules.bound x pos neg new (eliminate-parts s.formula.clauses rules x pos neg new h)))
    (AdditionsAreRup-append (state_after s (map Add new)) (map (λ c. Weaken c (positive x)) pos) (map (λ c. Weaken c (negative x)) neg)
    (weakens-rup (state_after s (map Add new)) pos (positive x))
    (weakens-rup (state_after (state_after s (map Add new)) (map (λ c. Weaken c (positive x)) pos)) neg (negative x)))
entry-rup s rules (Look x) v h = tt

module _ (f : Formula) (rules : Rules) (posts : List Post) (v : IsFormula f) (legal : IsLegalJournal f rules posts) where
  rup_to : (n : ℕ) → n ≤ length posts → AdditionsAreRup (start_of f) (expansion (take n posts))
  unfolding folded
  rup_to zero h = tt
  rup_to (suc n) h =
      let r = take-one_more posts n h in
      let before = rup_to n (omega arith) in
      let follows = legal n r.0 r.1 in
      let s = state_after (start_of f) (expansion (take n posts)) in
      let step = entry-rup s rules r.0.entry (valid_to f rules posts v legal n (omega arith)) (legal-in s.formula rules r.0.entry follows.legal) in
      subst (AdditionsAreRup (start_of f)) (sym (ap expansion r.2 ∙ expansion-push (take n posts) r.0))
      (AdditionsAreRup-append (start_of f) (expansion (take n posts)) (expand r.0.entry) before step)

  pub journal-rup : AdditionsAreRup (start_of f) (expansion posts)
  journal-rup = subst (λ ps. AdditionsAreRup (start_of f) (expansion ps)) (take-length posts) (rup_to (length posts) (omega arith))
