-- An entry at a variable: its clauses are of the variable's clauses, so all its variables are theirs.
use Rattle.std.proofs.Common.{◌≡◌, ℕ, true, false, List, [], ◌∷◌, ◌++◌, map, refl, sym, ◌∙◌, subst, inl, inr}
use Rattle.std.specs.Prelude.{◌⊎◌}
use Rattle.std.specs.List.{Contains, flat_map}
use Rattle.std.proofs.lemmas.Bool.{false≢true, eqb-true}
use Rattle.std.proofs.lemmas.List.Elements.{Contains-append_cases}
use Rattle.cp_logic.specs.declared.named.Named.{Named}
use Rattle.cp_logic.specs.declared.settings.Rules.{Rules}
use Rattle.cp_logic.specs.Literals.{variable_of, positive, negative, negated}
use Rattle.cp_logic.specs.Clauses.{contains, resolvent}
use Rattle.cp_logic.specs.Formulas.{variables_in}
use Rattle.cp_logic.specs.Entries.{Entry, Taut, Subsume, Strengthen, Block, Eliminate, Look, old_clauses, new_clauses, own_variables, variables_of, is_at, is_look, numbered}
use Rattle.cp_logic.specs.Legality.{is_legal_in}
use Rattle.cp_logic.proofs.Members.{none_in, in_cases, in_map, of_map, in_flat_map, of_flat_map, of_filter}
use Rattle.cp_logic.proofs.SetFacts.{in_clause_of, of_clause_of, of_without, of_resolvent}
use Rattle.cp_logic.proofs.Parts.{IsEliminate, taut-parts, subsume-parts, strengthen-parts, block-parts, eliminate-parts}
use Rattle.cp_logic.proofs.Complete.{applies-numbered}
use Rattle.cp_logic.proofs.Others.{only}

-- the variables of a list's clauses
pub in_variables : (cs : List Named) (c : Named) (l : ℕ) → Contains cs c → Contains c.clause l → Contains (variables_in cs) (variable_of l)
in_variables cs c l i j = in_clause_of (flat_map (λ (d : Named). map variable_of d.clause) cs) (variable_of l)
    (in_flat_map (λ (d : Named). map variable_of d.clause) cs c (variable_of l) i (in_map variable_of c.clause l j))

pub of_variables : (cs : List Named) (y : ℕ) → Contains (variables_in cs) y → (c : Named) × (l : ℕ) × Contains cs c × Contains c.clause l × (variable_of l ≡ y)
of_variables cs y i =
    let d = of_flat_map (λ (d : Named). map variable_of d.clause) cs y (of_clause_of (flat_map (λ (d : Named). map variable_of d.clause) cs) y i) in
    let l = of_map variable_of d.0.clause y d.2 in (d.0, l.0, d.1, l.1, l.2)

of_two : (c a b : Named) (cs : List Named) → Contains (a ∷ b ∷ []) c → Contains cs a → Contains cs b → Contains cs c
of_two c a b cs i j k = elim (in_cases c a (b ∷ []) i) [ inl e ↦ subst (Contains cs) e j | inr z ↦ only c b cs z k ]

-- some clause of the list has the literal
abbrev pub HasLiteral : List Named → ℕ → Type 0
HasLiteral cs l = (d : Named) × Contains cs d × Contains d.clause l

module _ (cs : List Named) (rules : Rules) where
  of_parts : (bound x : ℕ) (pos neg new : List Named) → IsEliminate cs bound x pos neg new → (c : Named) → Contains (pos ++ neg) c → Contains cs c
  of_parts bound x pos neg new p c i = elim (Contains-append_cases pos neg c i) [
    | inl a ↦ (of_filter (λ (d : Named). contains d.clause (positive x)) cs c (subst (λ z. Contains z c) p.is_pos a)).0
    | inr b ↦ (of_filter (λ (d : Named). contains d.clause (negative x)) cs c (subst (λ z. Contains z c) p.is_neg b)).0
  ]

  -- the clauses that it names as standing are among them
  pub old-in : (e : Entry) → is_legal_in cs rules e ≡ true → is_look e ≡ false → (c : Named) → Contains (old_clauses e) c → Contains cs c
  unfolding is_legal_in
  old-in (Taut gone) h n c i = only c gone cs i (taut-parts cs rules gone h).in_place
  old-in (Subsume by gone) h n c i = let p = subsume-parts cs rules by gone h in of_two c by gone cs i p.by_in p.gone_in
  old-in (Strengthen by on l new) h n c i = let p = strengthen-parts cs rules by on l new h in of_two c by on cs i p.by_in p.on_in
  old-in (Block gone l) h n c i = only c gone cs i (block-parts cs rules gone l h).in_place
  old-in (Eliminate x pos neg new) h n c i = of_parts rules.bound x pos neg new (eliminate-parts cs rules x pos neg new h) c i
  old-in (Look x) h n c i = absurd (false≢true (sym n))

  resolved : (bound x : ℕ) (pos neg new : List Named) → IsEliminate cs bound x pos neg new → (c : Named) → Contains new c → (l : ℕ) → Contains c.clause l → HasLiteral (pos ++ neg) l
  resolved bound x pos neg new p c i l j =
      let m = of_filter _ _ c.clause (subst (λ z. Contains z c.clause) p.is_new (in_map (λ (d : Named). d.clause) new c i)) in
      let a = of_flat_map (λ (a : Named). map (λ (b : Named). resolvent (positive x) a.clause b.clause) neg) pos c.clause m.0 in
      let b = of_map (λ (b : Named). resolvent (positive x) a.0.clause b.clause) neg c.clause a.2 in
      elim (of_resolvent (positive x) a.0.clause b.0.clause l (subst (λ z. Contains z l) (sym b.2) j)) [
        | inl q ↦ (a.0, Rattle.std.proofs.lemmas.List.Elements.Contains-append_left pos neg a.0 a.1, (of_without a.0.clause (positive x) l q).0)
        | inr q ↦ (b.0, Rattle.std.proofs.lemmas.List.Elements.Contains-append_right pos neg b.0 b.1, (of_without b.0.clause (negated (positive x)) l q).0)
      ]

  -- each literal of its new clauses is in one of them
  pub new-literal : (e : Entry) → is_legal_in cs rules e ≡ true → (c : Named) → Contains (new_clauses e) c → (l : ℕ) → Contains c.clause l → HasLiteral cs l
  unfolding is_legal_in
  new-literal (Taut gone) h c i l j = absurd (none_in c i)
  new-literal (Subsume by gone) h c i l j = absurd (none_in c i)
  new-literal (Strengthen by on k new) h c i l j =
      let p = strengthen-parts cs rules by on k new h in
      let at : Contains new.clause l = elim (in_cases c new [] i) [ inl e ↦ subst (λ (z : Named). Contains z.clause l) (sym e) j | inr z ↦ absurd (none_in c z) ] in
      (on, p.on_in, (of_without on.clause k l (subst (λ z. Contains z l) p.is_new at)).0)
  new-literal (Block gone k) h c i l j = absurd (none_in c i)
  new-literal (Eliminate x pos neg new) h c i l j =
      let p = eliminate-parts cs rules x pos neg new h in
      let r = resolved rules.bound x pos neg new p c i l j in (r.0, of_parts rules.bound x pos neg new p r.0 r.1, r.2)
  new-literal (Look x) h c i l j = absurd (none_in c i)

  -- so the variables of its clauses are theirs
  pub old-over : (e : Entry) → is_legal_in cs rules e ≡ true → is_look e ≡ false → (c : Named) → Contains (old_clauses e) c → (l : ℕ) → Contains c.clause l → Contains (variables_in cs) (variable_of l)
  old-over e h n c i l j = in_variables cs c l (old-in e h n c i) j

  pub new-over : (e : Entry) → is_legal_in cs rules e ≡ true → (c : Named) → Contains (new_clauses e) c → (l : ℕ) → Contains c.clause l → Contains (variables_in cs) (variable_of l)
  new-over e h c i l j = let r = new-literal e h c i l j in in_variables cs r.0 l r.1 r.2

  -- and its variables are x and theirs
  pub entry-over : (x : ℕ) (e : Entry) → is_at x e ≡ true → is_legal_in cs rules e ≡ true → is_look e ≡ false → (y : ℕ) → Contains (variables_of e) y → (y ≡ x) ⊎ Contains (variables_in cs) y
  entry-over x e a h n y i =
      elim (Contains-append_cases (own_variables e) (variables_in (old_clauses e) ++ variables_in (new_clauses e)) y (of_clause_of _ y i)) [
        | inl o ↦ inl (own e a o)
        | inr r ↦ elim (Contains-append_cases (variables_in (old_clauses e)) (variables_in (new_clauses e)) y r) [
          | inl o ↦ let m = of_variables (old_clauses e) y o in inr (subst (Contains (variables_in cs)) m.4 (old-over e h n m.0 m.2 m.1 m.3))
          | inr o ↦ let m = of_variables (new_clauses e) y o in inr (subst (Contains (variables_in cs)) m.4 (new-over e h m.0 m.2 m.1 m.3))
        ]
      ]
    where
      own : (e : Entry) → is_at x e ≡ true → Contains (own_variables e) y → y ≡ x
      own (Taut gone) a o = absurd (none_in y o)
      own (Subsume by gone) a o = absurd (none_in y o)
      own (Strengthen by on l new) a o = absurd (none_in y o)
      own (Block gone l) a o = absurd (none_in y o)
      own (Eliminate z pos neg new) a o = elim (in_cases y z [] o) [ inl e ↦ sym e ∙ eqb-true z x a | inr q ↦ absurd (none_in y q) ]
      own (Look z) a o = absurd (false≢true a)

-- what it removes it names as standing
-- an entry at a variable is no look
pub at-commit : (x : ℕ) (e : Entry) → is_at x e ≡ true → is_look e ≡ false
at-commit x (Taut gone) a = refl
at-commit x (Subsume by gone) a = refl
at-commit x (Strengthen by on l new) a = refl
at-commit x (Block gone l) a = refl
at-commit x (Eliminate y pos neg new) a = refl
at-commit x (Look y) a = absurd (false≢true a)

-- the numbers of new clauses do not count
pub legal_in-numbered : (cs : List Named) (rules : Rules) (n : ℕ) (e : Entry) → is_legal_in cs rules (numbered n e) ≡ is_legal_in cs rules e
unfolding is_legal_in
legal_in-numbered cs rules n (Taut gone) = refl
legal_in-numbered cs rules n (Subsume by gone) = refl
legal_in-numbered cs rules n (Strengthen by on l new) = applies-numbered cs rules n (Strengthen by on l new)
legal_in-numbered cs rules n (Block gone l) = refl
legal_in-numbered cs rules n (Eliminate x pos neg new) = applies-numbered cs rules n (Eliminate x pos neg new)
legal_in-numbered cs rules n (Look x) = refl
