-- Three variables, as the tests have them.
use Rattle.std.proofs.Common.{◌≡◌, ℕ, zero, suc, ◌+◌, ◌-◌, ◌<◌, List, [], ◌∷◌, ◌++◌, map, length, length-append, Some, refl, sym, ap, ◌∙◌, subst, ⊎_elim, inl, inr, arith}
use Rattle.std.specs.Prelude.{nat_lt}
use Rattle.std.specs.List.{Contains, flat_map}
use Rattle.std.proofs.lemmas.Bool.{ltb-true}
use Rattle.std.proofs.lemmas.List.Elements.{Contains-append_cases}
use mathlib.Core.Option.{some}
use lib.ListN.{get_elem?}
use Rattle.atomic_table.proofs.Lists.{at_longer}
use Rattle.cp_logic.specs.declared.named.Named.{Named}
use Rattle.cp_logic.specs.Literals.{variable_of}
use Rattle.cp_logic.specs.Clauses.{contains}
use Rattle.cp_logic.specs.Formulas.{IsWithin, variables_in}
use Rattle.cp_logic.specs.Entries.{Entry, Taut, variables_of}
use Rattle.cp_logic.specs.Journals.{Post}
use Rattle.cp_logic.proofs.Members.{contains-in, none_in, in_cases, of_map, of_flat_map, all_at}
use Rattle.cp_logic.proofs.SetFacts.{of_clause_of}
use Rattle.cp_occ.specs.Cells.{CellView}
use Rattle.cp_yard.specs.Views.{Base, Lock, lock, held_of, without_lock, locks_after}
use Rattle.cp_yard.specs.Rule.{HoldsAll, clauses_at}
use Rattle.cp_yard.specs.Rows.{HasThree, Fits}
use Rattle.cp_yard.proofs.Lists.{in_front, in_range, held_of-others}
use Rattle.cp_yard.proofs.Closing.{AreAfter, AreAfter-at}

at_last : (front : List CellView) (c : CellView) → get_elem? (front ++ c ∷ []) (length front) ≡ some c
at_last [] c = refl
at_last (x ∷ xs) c = at_last xs c

pub Fits-last : (cells front : List CellView) (c : CellView) (n : ℕ) (ks : List Lock) → length cells ≡ n → Fits cells ks → cells ≡ front ++ c ∷ [] → (c.variable ≡ n) × (held_of n ks ≡ Some c.clauses)
Fits-last cells front c n ks len all is = let long = length-append front (c ∷ []) in let same : length cells ≡ length (front ++ c ∷ []) = ap length is in let e : length front + 1 ≡ n = omega arith in
    let p = all (length front) c (ap (λ (zs : List CellView). get_elem? zs (length front)) is ∙ at_last front c) in (p.0 ∙ e, ap (λ (z : ℕ). held_of z ks) (sym e) ∙ p.1)

pub Fits-front : (cells front : List CellView) (c : CellView) (n : ℕ) (ks : List Lock) → length cells ≡ n → Fits cells ks → cells ≡ front ++ c ∷ [] → (length front + 1 ≡ n) × Fits front (without_lock n ks)
Fits-front cells front c n ks len all is = let long = length-append front (c ∷ []) in let same : length cells ≡ length (front ++ c ∷ []) = ap length is in let e : length front + 1 ≡ n = omega arith in (
  e,
  λ k d at. let p = all k d (ap (λ (zs : List CellView). get_elem? zs k) is ∙ at_longer front (c ∷ []) k d at) in let a = in_range front k d at in
      (p.0, held_of-others n (k + 1) ks (λ q. omega arith) ∙ p.1),
)

pub three_held : (ks : List Lock) → HasThree ks → (x : ℕ) → Contains (1 ∷ 2 ∷ 3 ∷ []) x → (cs : List Named) × (held_of x ks ≡ Some cs)
three_held ks three x m = let a = three.0 in let b = three.1 in let c = three.2 in let all : List Lock = lock 3 c ∷ lock 2 b ∷ lock 1 a ∷ [] in
    ⊎_elim (λ (e : x ≡ 1). (a, ap (held_of x) three.3 ∙ ap (λ (z : ℕ). held_of z all) e))
    (λ (t : Contains (2 ∷ 3 ∷ []) x). ⊎_elim (λ (e : x ≡ 2). (b, ap (held_of x) three.3 ∙ ap (λ (z : ℕ). held_of z all) e))
    (λ (u : Contains (3 ∷ []) x). ⊎_elim (λ (e : x ≡ 3). (c, ap (held_of x) three.3 ∙ ap (λ (z : ℕ). held_of z all) e)) (λ w. absurd (none_in x w)) (in_front x 3 [] u)) (in_front x 2 (3 ∷ []) t)) (in_front x 1 (2 ∷ 3 ∷ []) m)

pub HasThree-after : (e : Entry) (ks js : List Lock) → HasThree ks → js ≡ locks_after e ks → HasThree js
HasThree-after e ks js three is = let all = ap (locks_after e) three.3 in (_, _, _, is ∙ all)

small_place : (k : ℕ) → k < 3 → Contains (1 ∷ 2 ∷ 3 ∷ []) (k + 1)
small_place zero h = (0, omega arith, refl)
small_place (suc zero) h = (1, omega arith, refl)
small_place (suc (suc zero)) h = (2, omega arith, refl)
small_place (suc (suc (suc k))) h = absurd (omega arith)

pub Fits-fresh : (f : Base) (h : List Post) (cells : List CellView) (ks : List Lock) → length cells ≡ 3 → AreAfter f h 3 cells → HasThree ks
    → ((x : ℕ) (cs : List Named) → held_of x ks ≡ Some cs → cs ≡ clauses_at f h x) → Fits cells ks
Fits-fresh f h cells ks len all three stand k c at = let is = AreAfter-at f h 3 cells all k c at in let a = in_range cells k c at in let t = three_held ks three (k + 1) (small_place k (omega arith)) in
    (is.0, t.1 ∙ ap Some (stand (k + 1) t.0 t.1 ∙ sym is.1))

-- a clause of these variables goes under their locks
pub holds_within : (gone : Named) (ks : List Lock) → IsWithin 3 gone.clause → HasThree ks → HoldsAll (Taut gone) ks
holds_within gone ks w three x within =
    elim (Contains-append_cases (variables_in (gone ∷ [])) (variables_in []) x (of_clause_of (variables_in (gone ∷ []) ++ variables_in []) x (contains-in (variables_of (Taut gone)) x within))) [
      | inl i ↦ near (of_flat_map (λ (c : Named). map variable_of c.clause) (gone ∷ []) x (of_clause_of (flat_map (λ (c : Named). map variable_of c.clause) (gone ∷ [])) x i))
      | inr i ↦ absurd (none_in x (of_clause_of [] x i))
    ]
  where
    near : (c : Named) × Contains (gone ∷ []) c × Contains (map variable_of c.clause) x → (cs : List Named) × (held_of x ks ≡ Some cs)
    near a =
        let is : gone ≡ a.0 = elim (in_cases a.0 gone [] a.1) [ inl e ↦ e | inr n ↦ absurd (none_in a.0 n) ] in
        let b = of_map variable_of a.0.clause x a.2 in
        let there : Contains gone.clause b.0 = subst (λ (c : Named). Contains c.clause b.0) (sym is) b.1 in
        let low : 0 < variable_of b.0 = ltb-true 0 (variable_of b.0) (all_at (λ l. nat_lt 0 (variable_of l)) gone.clause b.0 w.0 there) in
        let high : variable_of b.0 < 4 = ltb-true (variable_of b.0) 4 (all_at (λ l. nat_lt (variable_of l) 4) gone.clause b.0 w.1 there) in
        let v : variable_of b.0 ≡ x = b.2 in
        let back : (x - 1) + 1 ≡ x = omega arith in
        three_held ks three x (subst (Contains (1 ∷ 2 ∷ 3 ∷ [])) back (small_place (x - 1) (omega arith)))
