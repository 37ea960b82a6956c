-- What the search computes on a cell is the first blocked clause at its variable.
use Rattle.std.proofs.Common.{◌≡◌, ℕ, ◌%◌, Bool, true, false, cond, ◌&&◌, List, map, Some, None, refl, sym, ◌∙◌, ap, subst, inl, inr, arith}
use Rattle.std.specs.Prelude.{◌==◌}
use Rattle.std.specs.Option.{option_map}
use Rattle.std.specs.List.{Contains, find, list_all, list_any}
use Rattle.std.proofs.lemmas.Bool.{and_parts, and_from, false≢true, eqb-true, eqb-false, eq-eqb, false_from_ne_true}
use Rattle.cp_logic.specs.declared.named.Named.{Named}
use Rattle.cp_logic.specs.Literals.{negated, positive, negative, is_positive, variable_of}
use Rattle.cp_logic.specs.Clauses.{contains, is_tautology, has_variable, resolvent}
use Rattle.cp_logic.specs.Entries.{Entry, Block, is_at}
use Rattle.cp_logic.specs.Legality.{fits, has_tautology_at, blocks, clauses_with, first_of_kind, is_blocked}
use Rattle.cp_logic.proofs.Members.{any_from, any_member, of_map, of_flat_map, contains-in, in_contains}
use Rattle.cp_logic.proofs.LiteralFacts.{variable_of-positive, variable_of-negative, same_variable, negated-positive, negated-even, negated-odd}
use Rattle.cp_logic.proofs.SetFacts.{tautology-from}
use Rattle.cp_logic.proofs.Parts.{IsBlock, block-fits}
use Rattle.cp_logic.proofs.Locals.{same_bool, block-from, find_none}
use Rattle.cp_logic.proofs.ListFacts.{find-one}
use Rattle.cp_occ.proofs.Having.{AllHave}
use Rattle.cp_blocked.specs.Finds.{literal_at, is_blocked_at}
use Rattle.cp_blocked.proofs.Scans.{find-chosen}

-- whether a clause of the list is a tautology
abbrev pub has_tautology : List Named → Bool
has_tautology cs = list_any (λ (c : Named). is_tautology c.clause) cs

-- ---- the literal of the variable

-- it is of the variable
literal_at-variable : (x : ℕ) (clause : List ℕ) → variable_of (literal_at x clause) ≡ x
literal_at-variable x clause = go (contains clause (positive x))
  where
    go : (b : Bool) → variable_of (cond b (positive x) (negative x)) ≡ x
    go true = variable_of-positive x
    go false = variable_of-negative x

-- a clause that has the variable has it
literal_at-has : (x : ℕ) (clause : List ℕ) → has_variable x clause ≡ true → contains clause (literal_at x clause) ≡ true
literal_at-has x clause h = go (contains clause (positive x)) refl
  where
    m : (l : ℕ) × Contains clause l × ((variable_of l == x) ≡ true)
    m = any_member (λ l. variable_of l == x) clause h

    go : (b : Bool) → contains clause (positive x) ≡ b → contains clause (cond b (positive x) (negative x)) ≡ true
    go true p = p
    go false p = elim (same_variable m.0 (positive x) (eqb-true (variable_of m.0) x m.2 ∙ sym (variable_of-positive x))) [
      | inl e ↦ absurd (false≢true (sym p ∙ in_contains clause (positive x) (subst (Contains clause) e m.1)))
      | inr e ↦ in_contains clause (negative x) (subst (Contains clause) (e ∙ negated-positive x) m.1)
    ]

-- where the clause is no tautology, no other literal of it is of the variable
literal_at-only : (x : ℕ) (clause : List ℕ) (m : ℕ) → has_variable x clause ≡ true → is_tautology clause ≡ false → Contains clause m → variable_of m ≡ x → m ≡ literal_at x clause
literal_at-only x clause m h n i v = elim (same_variable m (literal_at x clause) (v ∙ sym (literal_at-variable x clause))) [
  | inl e ↦ e
  | inr e ↦ absurd (false≢true (sym n ∙ tautology-from clause (literal_at x clause) (contains-in clause (literal_at x clause) (literal_at-has x clause h)) (subst (Contains clause) e i)))
]

-- it is found by one look at the clause
pub literal_at-negative : (x : ℕ) (clause : List ℕ) (l : ℕ) → l ≡ positive x → contains clause l ≡ false → negated l ≡ literal_at x clause
literal_at-negative x clause l e p =
    ap negated e ∙ negated-positive x ∙ sym (ap (λ b. cond b (positive x) (negative x)) (ap (contains clause) (sym e) ∙ p))

-- the negation of a literal of the variable is the variable's other literal
negated-is_negative : (l x : ℕ) → variable_of l ≡ x → is_positive l ≡ true → negative x ≡ negated l
negated-is_negative l x v e = let p : l % 2 ≡ 0 = eqb-true (l % 2) 0 e in omega (arith, v, p) ∙ sym (negated-even l e)

negated-is_positive : (l x : ℕ) → variable_of l ≡ x → is_positive l ≡ false → positive x ≡ negated l
negated-is_positive l x v e = let p : l % 2 ≡ 0 → ⊥ = eqb-false (l % 2) 0 e in omega (arith, v) ∙ sym (negated-odd l e)

-- the clauses with the variable and those with its negation, one after the other: those against the literal
pub against : (x : ℕ) (cs : List Named) (l : ℕ) (pos neg : List Named) → variable_of l ≡ x → pos ≡ clauses_with cs (positive x) → neg ≡ clauses_with cs (negative x)
    → cond (is_positive l) neg pos ≡ clauses_with cs (negated l)
against x cs l pos neg v p n = go (is_positive l) refl
  where
    go : (b : Bool) → is_positive l ≡ b → cond b neg pos ≡ clauses_with cs (negated l)
    go true e = n ∙ ap (clauses_with cs) (negated-is_negative l x v e)
    go false e = p ∙ ap (clauses_with cs) (negated-is_positive l x v e)

-- so the test with those is the test with the cell
pub blocked-against : (x : ℕ) (cs : List Named) (clause : List ℕ) (l : ℕ) (pos neg others : List Named) (b : Bool) → l ≡ literal_at x clause
    → pos ≡ clauses_with cs (positive x) → neg ≡ clauses_with cs (negative x) → others ≡ cond (is_positive l) neg pos
    → b ≡ list_all (λ (d : Named). is_tautology (resolvent l clause d.clause)) others → is_blocked cs clause (literal_at x clause) ≡ b
blocked-against x cs clause l pos neg others b e p n o t =
    ap (is_blocked cs clause) (sym e)
    ∙ ap (list_all (λ (d : Named). is_tautology (resolvent l clause d.clause))) (sym (o ∙ against x cs l pos neg (ap variable_of e ∙ literal_at-variable x clause) p n))
    ∙ sym t

-- ---- blocked clauses

module _ (x : ℕ) (cs : List Named) (h : AllHave x cs) where
  -- whether the entry fits at the variable
  test : Entry → Bool
  test e = is_at x e && fits cs 0 e

  -- what that says of a blocked clause, and what shows it
  parts : (gone : Named) (l : ℕ) → test (Block gone l) ≡ true → (variable_of l ≡ x) × IsBlock cs gone l
  unfolding test
  parts gone l t = let q = and_parts (variable_of l == x) (fits cs 0 (Block gone l)) t in (eqb-true (variable_of l) x q.0, block-fits cs 0 gone l q.1)

  whole : (gone : Named) (l : ℕ) → variable_of l ≡ x → IsBlock cs gone l → test (Block gone l) ≡ true
  unfolding test
  whole gone l v p = and_from _ _ (eq-eqb (variable_of l) x v) (block-from cs 0 gone l p)

  -- a tautology of the list is one at the variable
  tautology-at : has_tautology_at cs x ≡ has_tautology cs
  tautology-at = same_bool _ _
      (λ t. let m = any_member (λ (c : Named). has_variable x c.clause && is_tautology c.clause) cs t in
      any_from (λ (c : Named). is_tautology c.clause) cs m.0 m.1 (and_parts _ _ m.2).1)
      (λ t. let m = any_member (λ (c : Named). is_tautology c.clause) cs t in
      any_from (λ (c : Named). has_variable x c.clause && is_tautology c.clause) cs m.0 m.1 (and_from _ _ (h m.0 m.1) m.2))

  -- where there is one, nothing is blocked
  pub first-none : has_tautology cs ≡ true → first_of_kind x cs (blocks cs) ≡ None
  unfolding test
  first-none t = find_none test (blocks cs) (λ e i.
      let m = of_flat_map (λ (gone : Named). map (Block gone) gone.clause) cs e i in
      let k = of_map (Block m.0) m.0.clause e m.2 in
      subst (λ z. test z ≡ false) k.2 (false_from_ne_true (test (Block m.0 k.0)) (λ u.
      let p = parts m.0 k.0 u in
      false≢true (sym p.1.no_tautology ∙ ap (has_tautology_at cs) p.0 ∙ tautology-at ∙ t))))

  -- where there is none, each clause can be blocked on one literal alone, and is where its resolvents on it are tautologies
  none_is : has_tautology cs ≡ false → (c : Named) → Contains cs c → is_tautology c.clause ≡ false
  none_is n c i = false_from_ne_true (is_tautology c.clause) (λ t. false≢true (sym n ∙ any_from (λ (d : Named). is_tautology d.clause) cs c i t))

  block-test : has_tautology cs ≡ false → (c : Named) → Contains cs c
      → (contains c.clause (literal_at x c.clause) && test (Block c (literal_at x c.clause))) ≡ is_blocked_at x cs c
  block-test n c i = same_bool _ _
      (λ t. (parts c (literal_at x c.clause) (and_parts _ _ t).1).1.blocked)
      (λ t. and_from _ _ (literal_at-has x c.clause (h c i)) (whole c (literal_at x c.clause) (literal_at-variable x c.clause) (record {
        in_place = i;
        has = literal_at-has x c.clause (h c i);
        no_tautology = ap (has_tautology_at cs) (literal_at-variable x c.clause) ∙ tautology-at ∙ n;
        blocked = t;
      })))

  -- the first blocked clause at the variable is the first clause that is blocked on its literal of the variable
  pub first-blocked : has_tautology cs ≡ false → first_of_kind x cs (blocks cs) ≡ option_map (λ (c : Named). Block c (literal_at x c.clause)) (find (is_blocked_at x cs) cs)
  unfolding test
  first-blocked n = find-chosen test (λ (gone : Named). map (Block gone) gone.clause) (λ (c : Named). Block c (literal_at x c.clause)) (is_blocked_at x cs) cs (λ c i.
      find-one test (Block c) (literal_at x c.clause) c.clause (λ m k t. literal_at-only x c.clause m (h c i) (none_is n c i) k (parts c m t).0)
      ∙ ap (λ b. cond b (Some (Block c (literal_at x c.clause))) None) (block-test n c i))
