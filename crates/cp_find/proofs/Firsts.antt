-- What the finders compute on the pairs of a cell is the first entry of each kind.
use Rattle.std.proofs.Common.{◌≡◌, ℕ, Bool, true, false, cond, not, ◌&&◌, List, map, Option, Some, None, refl, sym, ◌∙◌, ap, subst, inl, inr}
use Rattle.std.specs.Prelude.{◌==◌}
use Rattle.std.specs.Option.{option_map, option_and_then}
use Rattle.std.specs.List.{Contains, find, flat_map}
use Rattle.std.proofs.lemmas.Bool.{and_parts, and_from, false≢true, eqb-true, eqb-false, eq-eqb, ne_eqb, not-true, not_from_false, false_from_ne_true, cases_eq}
use Rattle.std.proofs.lemmas.Option.{none-some, same_Some}
use Rattle.cp_logic.specs.declared.named.Named.{Named}
use Rattle.cp_logic.specs.Literals.{negated, positive, negative, variable_of}
use Rattle.cp_logic.specs.Clauses.{contains, is_subset, is_tautology, without}
use Rattle.cp_logic.specs.Entries.{Entry, Taut, Subsume, is_at}
use Rattle.cp_logic.specs.Legality.{fits, tauts, subsumptions, strengthening, strengthenings, first_of_kind}
use Rattle.cp_logic.proofs.Members.{in_map, of_map, all_from, contains-in, in_contains}
use Rattle.cp_logic.proofs.LiteralFacts.{variable_of-positive, variable_of-negative, same_variable, negated-positive, negated-negative, negated-negated, negated-other}
use Rattle.cp_logic.proofs.SetFacts.{subset-in, in_without, of_without}
use Rattle.cp_logic.proofs.Parts.{IsStrengthen, taut-fits, subsume-fits, strengthen-fits}
use Rattle.cp_logic.proofs.Locals.{same_bool, taut-from, subsume-from, strengthen-from}
use Rattle.cp_logic.proofs.ListFacts.{find-one}
use Rattle.cp_occ.proofs.Having.{AllHave}
use Rattle.cp_find.specs.Finds.{subsumes, struck, turned, strengthens}
use Rattle.cp_find.proofs.Scans.{first_some, find-images, find-lists, find-nothing, first_some-chosen, first_some-nothing}

-- ---- tautologies

-- the first tautology at the variable is the first clause that is one
pub first-taut : (x : ℕ) (cs : List Named) → AllHave x cs → first_of_kind x cs (tauts cs) ≡ option_map Taut (find (λ (c : Named). is_tautology c.clause) cs)
first-taut x cs h = find-images (λ e. is_at x e && fits cs 0 e) Taut (λ (c : Named). is_tautology c.clause) cs (λ c i. same_bool _ _
    (λ t. (taut-fits cs 0 c (and_parts _ _ t).1).tautology)
    (λ t. and_from _ _ (h c i) (taut-from cs 0 c (record { in_place = i; tautology = t }))))

-- ---- subsumed clauses

-- a subsumption fits at the variable exactly where the one clause subsumes the other
subsume-test : (x : ℕ) (cs : List Named) (by gone : Named) → AllHave x cs → Contains cs by → Contains cs gone
    → (is_at x (Subsume by gone) && fits cs 0 (Subsume by gone)) ≡ subsumes by gone
subsume-test x cs by gone h i j = same_bool _ _
    (λ t. let p = subsume-fits cs 0 by gone (and_parts _ _ t).1 in and_from _ _ (not_from_false (by.number == gone.number) (ne_eqb by.number gone.number p.apart)) p.subset)
    (λ t. let q = and_parts (not (by.number == gone.number)) (is_subset by.clause gone.clause) t in
    and_from _ _ (h by i) (subsume-from cs 0 by gone (record { by_in = i; gone_in = j; apart = eqb-false by.number gone.number (not-true (by.number == gone.number) q.0); subset = q.1 })))

-- the first subsumption by one clause
abbrev pub subsumption_by : List Named → Named → Option Entry
subsumption_by cs by = option_map (Subsume by) (find (subsumes by) cs)

-- the first subsumption at the variable is the first by a clause, in their order
pub first-subsumed : (x : ℕ) (cs : List Named) → AllHave x cs
    → first_of_kind x cs (subsumptions cs) ≡ first_some (subsumption_by cs) cs
first-subsumed x cs h = find-lists (λ e. is_at x e && fits cs 0 e) (λ by. map (Subsume by) cs) (subsumption_by cs) cs
    (λ by i. find-images (λ e. is_at x e && fits cs 0 e) (Subsume by) (subsumes by) cs (λ gone j. subsume-test x cs by gone h i j))

-- ---- strengthened clauses

-- `struck` from which of the two literals a clause has
pub struck-cases : (x : ℕ) (clause : List ℕ) (below above : ℕ) (a b : Bool) → below ≡ positive x → above ≡ negated below → contains clause below ≡ a → contains clause above ≡ b
    → struck x clause ≡ cond a (cond b None (Some above)) (cond b (Some below) None)
struck-cases x clause below above a b e d p q =
    let n = d ∙ ap negated e ∙ negated-positive x in
    ap (λ c. cond c (cond (contains clause (negative x)) None (Some (negative x))) (cond (contains clause (negative x)) (Some (positive x)) None)) (ap (contains clause) (sym e) ∙ p)
    ∙ ap (λ c. cond a (cond c None (Some (negative x))) (cond c (Some (positive x)) None)) (ap (contains clause) (sym n) ∙ q)
    ∙ ap (λ z. cond a (cond b None (Some z)) (cond b (Some (positive x)) None)) (sym n)
    ∙ ap (λ z. cond a (cond b None (Some above)) (cond b (Some z) None)) (sym e)

-- a clause with one literal alone at the variable has the negation of what is struck, and not the struck one
pub alone : (x : ℕ) (clause : List ℕ) (l : ℕ) → struck x clause ≡ Some l → (variable_of l ≡ x) × (contains clause (negated l) ≡ true) × (contains clause l ≡ false)
alone x clause l e = go (contains clause (positive x)) (contains clause (negative x)) refl refl e
  where
    at : (m : ℕ) → m ≡ l → variable_of m ≡ x → contains clause (negated m) ≡ true → contains clause m ≡ false → (variable_of l ≡ x) × (contains clause (negated l) ≡ true) × (contains clause l ≡ false)
    at m q v n f = (ap variable_of (sym q) ∙ v, ap (λ k. contains clause (negated k)) (sym q) ∙ n, ap (contains clause) (sym q) ∙ f)

    go : (a b : Bool) → contains clause (positive x) ≡ a → contains clause (negative x) ≡ b
        → cond a (cond b None (Some (negative x))) (cond b (Some (positive x)) None) ≡ Some l
        → (variable_of l ≡ x) × (contains clause (negated l) ≡ true) × (contains clause l ≡ false)
    go true true p n q = absurd (none-some l q)
    go true false p n q = at (negative x) (same_Some (negative x) l q) (variable_of-negative x) (ap (contains clause) (negated-negative x) ∙ p) n
    go false true p n q = at (positive x) (same_Some (positive x) l q) (variable_of-positive x) (ap (contains clause) (negated-positive x) ∙ n) p
    go false false p n q = absurd (none-some l q)

-- a clause with no literal alone at the variable has none there, or both
not_alone : (x : ℕ) (clause : List ℕ) (l : ℕ) → struck x clause ≡ None → variable_of l ≡ x → contains clause (negated l) ≡ true → contains clause l ≡ true
not_alone x clause l e v n = elim (same_variable l (positive x) (v ∙ sym (variable_of-positive x))) [
  | inl q ↦ ap (contains clause) q ∙ below (contains clause (positive x)) (contains clause (negative x)) refl
      (ap (contains clause) (sym (negated-positive x)) ∙ ap (λ k. contains clause (negated k)) (sym q) ∙ n) e
  | inr q ↦
      let r = q ∙ negated-positive x in
      ap (contains clause) r ∙ above (contains clause (positive x)) (contains clause (negative x))
      (ap (contains clause) (sym (negated-negative x)) ∙ ap (λ k. contains clause (negated k)) (sym r) ∙ n) refl e
]
  where
    below : (a b : Bool) → contains clause (positive x) ≡ a → b ≡ true → cond a (cond b None (Some (negative x))) (cond b (Some (positive x)) None) ≡ None → contains clause (positive x) ≡ true
    below true b p t q = p
    below false true p t q = absurd (none-some (positive x) (sym q))
    below false false p t q = absurd (false≢true t)

    above : (a b : Bool) → a ≡ true → contains clause (negative x) ≡ b → cond a (cond b None (Some (negative x))) (cond b (Some (positive x)) None) ≡ None → contains clause (negative x) ≡ true
    above true true t p q = p
    above true false t p q = absurd (none-some (negative x) (sym q))
    above false b t p q = absurd (false≢true t)

-- the negation is turned, and each other literal stays
pub turned-negation : (l : ℕ) → turned l (negated l) ≡ l
turned-negation l = ap (λ b. cond b l (negated l)) (eq-eqb (negated l) (negated l) refl)

pub turned-other : (l m : ℕ) → (m ≡ negated l → ⊥) → turned l m ≡ m
turned-other l m n = ap (λ b. cond b l m) (ne_eqb m (negated l) n)

-- the first strengthening by one clause
abbrev pub strengthening_by : ℕ → ℕ → List Named → Named → Option Entry
strengthening_by x next cs by = option_and_then (λ l. option_map (λ on. strengthening next by on l) (find (strengthens l by) cs)) (struck x by.clause)

module _ (x next : ℕ) (cs : List Named) where
  -- whether the entry fits at the variable
  test : Entry → Bool
  test e = is_at x e && fits cs 0 e

  -- what that says of a strengthening, and what shows it
  parts : (by on : Named) (l : ℕ) → test (strengthening next by on l) ≡ true → (variable_of l ≡ x) × IsStrengthen cs by on l (let new : Named = record { number = next; clause = without on.clause l } in new)
  unfolding test
  parts by on l t =
      let q = and_parts (variable_of l == x) (fits cs 0 (strengthening next by on l)) t in
      (eqb-true (variable_of l) x q.0, strengthen-fits cs 0 by on l (record { number = next; clause = without on.clause l }) q.1)

  whole : (by on : Named) (l : ℕ) → variable_of l ≡ x → IsStrengthen cs by on l (let new : Named = record { number = next; clause = without on.clause l } in new) → test (strengthening next by on l) ≡ true
  unfolding test
  whole by on l v p = and_from _ _ (eq-eqb (variable_of l) x v) (strengthen-from cs 0 by on l (record { number = next; clause = without on.clause l }) p)

  -- where a clause has one literal alone, it takes the negation of that one and no other
  only : (by on : Named) (l m : ℕ) → struck x by.clause ≡ Some l → test (strengthening next by on m) ≡ true → m ≡ l
  only by on l m e t =
      let a = alone x by.clause l e in let p = parts by on m t in
      elim (same_variable m l (p.0 ∙ sym a.0)) [
        | inl q ↦ q
        | inr q ↦ absurd (false≢true (sym a.2 ∙ ap (contains by.clause) (sym (ap negated q ∙ negated-negated l)) ∙ p.1.by_has))
      ]

  -- a strengthening by that literal fits exactly where the one clause strengthens the other
  strengthen-test : (by on : Named) (l : ℕ) → struck x by.clause ≡ Some l → Contains cs by → Contains cs on
      → (contains on.clause l && test (strengthening next by on l)) ≡ strengthens l by on
  strengthen-test by on l e i j = same_bool _ _ there back
    where
      a : (variable_of l ≡ x) × (contains by.clause (negated l) ≡ true) × (contains by.clause l ≡ false)
      a = alone x by.clause l e

      there : (contains on.clause l && test (strengthening next by on l)) ≡ true → strengthens l by on ≡ true
      there t =
          let q = and_parts (contains on.clause l) (test (strengthening next by on l)) t in
          let p = (parts by on l q.1).1 in
          and_from _ _ (not_from_false (by.number == on.number) (ne_eqb by.number on.number p.apart))
          (all_from (contains on.clause) (map (turned l) by.clause) (λ y k.
          let m = of_map (turned l) by.clause y k in
          elim (cases_eq m.0 (negated l)) [
            | inl s ↦ ap (contains on.clause) (sym m.2 ∙ ap (turned l) s ∙ turned-negation l) ∙ q.0
            | inr n ↦ ap (contains on.clause) (sym m.2 ∙ turned-other l m.0 n)
                ∙ in_contains on.clause m.0 (of_without on.clause l m.0 (subset-in (without by.clause (negated l)) (without on.clause l) p.subset m.0 (in_without by.clause (negated l) m.0 m.1 n))).0
          ]))

      back : strengthens l by on ≡ true → (contains on.clause l && test (strengthening next by on l)) ≡ true
      back t =
          let q = and_parts (not (by.number == on.number)) (is_subset (map (turned l) by.clause) on.clause) t in
          let found = λ (m : ℕ) (k : Contains by.clause m). subset-in (map (turned l) by.clause) on.clause q.1 (turned l m) (in_map (turned l) by.clause m k) in
          let has = in_contains on.clause l (subst (Contains on.clause) (turned-negation l) (found (negated l) (contains-in by.clause (negated l) a.1))) in
          and_from _ _ has (whole by on l a.0 (record {
            by_in = i;
            on_in = j;
            apart = eqb-false by.number on.number (not-true (by.number == on.number) q.0);
            on_has = has;
            by_has = a.1;
            is_new = refl;
            subset = all_from (contains (without on.clause l)) (without by.clause (negated l)) (λ m k.
                let w = of_without by.clause (negated l) m k in
                in_contains (without on.clause l) m (in_without on.clause l m (subst (Contains on.clause) (turned-other l m w.1) (found m w.0))
                (λ s. false≢true (sym a.2 ∙ ap (contains by.clause) (sym s) ∙ in_contains by.clause m w.0))));
          }))

  -- a clause with both signs of the variable, or none, takes nothing
  strengthen-none : (by on : Named) (l : ℕ) → struck x by.clause ≡ None → test (strengthening next by on l) ≡ false
  strengthen-none by on l e = false_from_ne_true (test (strengthening next by on l)) (λ t.
      let p = parts by on l t in
      let i = contains-in by.clause l (not_alone x by.clause l e p.0 p.1.by_has) in
      (of_without on.clause l l (subset-in (without by.clause (negated l)) (without on.clause l) p.1.subset l (in_without by.clause (negated l) l i (λ s. negated-other l (sym s))))).1 refl)

  -- the first strengthening by one clause, over all literals of all clauses
  strengthened-by : (by : Named) → Contains cs by → find test (flat_map (λ on. map (strengthening next by on) on.clause) cs) ≡ strengthening_by x next cs by
  strengthened-by by i = go (struck x by.clause) refl
    where
      go : (o : Option ℕ) → struck x by.clause ≡ o → find test (flat_map (λ on. map (strengthening next by on) on.clause) cs)
          ≡ option_and_then (λ l. option_map (λ on. strengthening next by on l) (find (strengthens l by) cs)) o
      go None e = find-lists test (λ on. map (strengthening next by on) on.clause) (λ on. None) cs
          (λ on j. find-nothing test (strengthening next by on) on.clause (λ l k. strengthen-none by on l e)) ∙ first_some-nothing cs
      go (Some l) e = find-lists test (λ on. map (strengthening next by on) on.clause) (λ on. cond (strengthens l by on) (Some (strengthening next by on l)) None) cs
          (λ on j. find-one test (strengthening next by on) l on.clause (λ m k t. only by on l m e t)
          ∙ ap (λ b. cond b (Some (strengthening next by on l)) None) (strengthen-test by on l e i j))
          ∙ first_some-chosen (λ on. strengthening next by on l) (strengthens l by) cs

  -- the first strengthening at the variable is the first by a clause, in their order
  pub first-strengthened : first_of_kind x cs (strengthenings cs next)
      ≡ first_some (strengthening_by x next cs) cs
  unfolding test
  first-strengthened = find-lists test (λ by. flat_map (λ on. map (strengthening next by on) on.clause) cs) (strengthening_by x next cs) cs strengthened-by
