-- What a seat holds that holds just the variables of ascending cells.
use Rattle.std.proofs.Common.{◌≡◌, ◌≢◌, ℕ, zero, suc, ◌<◌, ◌≤◌, Bool, cond, eqb, List, [], ◌∷◌, ◌++◌, length, length-append, get_or, Option, Some, None, refl, sym, ap, ◌∙◌, subst, inl, inr, arith}
use lib.ListN.{get_or-append}
use Rattle.std.specs.List.{All, Contains}
use Rattle.std.proofs.lemmas.Bool.{eq-eqb, ne_eqb, cases_eq}
use Rattle.std.proofs.lemmas.List.{map-append}
use Rattle.std.proofs.lemmas.List.Elements.{Contains-append_left, Contains-append_right, Contains-get_or}
use Rattle.cp_logic.specs.declared.named.Named.{Named}
use Rattle.cp_logic.specs.Clauses.{IsAscending}
use Rattle.cp_logic.proofs.Members.{in_here, in_map}
use Rattle.cp_logic.proofs.Ascending.{below_others, IsAscending-cons}
use Rattle.cp_occ.specs.Cells.{CellView, variables_of}
use Rattle.cp_yard.specs.Views.{Lock, SeatView, held_of, without_lock, unlocked}
use Rattle.cp_yard.proofs.Lists.{held_of-without, held_of-others}
use Rattle.cp_hood.specs.Hoods.{listed_of, clauses_at_home, HoldsJust, IsIdle}

pub listed-here : (x : ℕ) (c : CellView) (cs : List CellView) → c.variable ≡ x → listed_of x (c ∷ cs) ≡ Some c.clauses
listed-here x c cs e = ap (λ (b : Bool). cond b (Some c.clauses) (listed_of x cs)) (eq-eqb c.variable x e)

pub listed-later : (x : ℕ) (c : CellView) (cs : List CellView) → c.variable ≢ x → listed_of x (c ∷ cs) ≡ listed_of x cs
listed-later x c cs ne = ap (λ (b : Bool). cond b (Some c.clauses) (listed_of x cs)) (ne_eqb c.variable x ne)

-- the variables before the last one are below it
below-last : (d : CellView) (ds : List CellView) (c : CellView) → IsAscending (variables_of (d ∷ ds ++ c ∷ [])) → d.variable < c.variable
below-last d ds c a = below_others d.variable (variables_of (ds ++ c ∷ [])) c.variable a
    (in_map (λ (z : CellView). z.variable) (ds ++ c ∷ []) c (Contains-append_right ds (c ∷ []) c (in_here c c [] refl)))

pub listed-last : (cs : List CellView) (c : CellView) → IsAscending (variables_of (cs ++ c ∷ [])) → listed_of c.variable (cs ++ c ∷ []) ≡ Some c.clauses
listed-last [] c a = listed-here c.variable c [] refl
listed-last (d ∷ ds) c a = let l = below-last d ds c a in listed-later c.variable d (ds ++ c ∷ []) (λ e. omega arith) ∙ listed-last ds c a.1

pub listed-front_last : (cs : List CellView) (c : CellView) → IsAscending (variables_of (cs ++ c ∷ [])) → listed_of c.variable cs ≡ None
listed-front_last [] c a = refl
listed-front_last (d ∷ ds) c a = let l = below-last d ds c a in listed-later c.variable d ds (λ e. omega arith) ∙ listed-front_last ds c a.1

pub listed-front : (x : ℕ) (cs : List CellView) (c : CellView) → c.variable ≢ x → listed_of x (cs ++ c ∷ []) ≡ listed_of x cs
listed-front x [] c ne = listed-later x c [] ne
listed-front x (d ∷ ds) c ne = ap (λ (r : Option (List Named)). cond (eqb d.variable x) (Some d.clauses) r) (listed-front x ds c ne)

pub front-ascends : (cs : List CellView) (c : CellView) → IsAscending (variables_of (cs ++ c ∷ [])) → IsAscending (variables_of cs)
front-ascends [] c a = tt
front-ascends (d ∷ ds) c a = IsAscending-cons d.variable (variables_of ds)
    (λ y m. below_others d.variable (variables_of (ds ++ c ∷ [])) y a
    (subst (λ (xs : List ℕ). Contains xs y) (sym (map-append (λ (z : CellView). z.variable) ds (c ∷ []))) (Contains-append_left (variables_of ds) (c.variable ∷ []) y m)))
    (front-ascends ds c a.1)

front-range : (n : ℕ) (cs : List CellView) (c : CellView) → All (λ (z : CellView). z.variable ≤ n) (cs ++ c ∷ []) → All (λ (z : CellView). z.variable ≤ n) cs
front-range n cs c h = λ k d l. let long = length-append cs (c ∷ []) in subst (λ (z : CellView). z.variable ≤ n) (get_or-append cs (c ∷ []) d k l) (h k d (omega arith))

-- the last cell's lock is given back
pub HoldsJust-unlocked : (v : SeatView) (cs : List CellView) (c : CellView) → IsAscending (variables_of (cs ++ c ∷ [])) → HoldsJust v (cs ++ c ∷ []) → HoldsJust (unlocked c.variable v) cs
HoldsJust-unlocked v cs c a h = record {
  turn = h.turn;
  range = front-range v.base.formula.variables cs c h.range;
  held = λ x. elim (cases_eq x c.variable) [
    | inl e ↦ ap (λ (z : ℕ). held_of z (without_lock c.variable v.held)) e ∙ held_of-without c.variable v.held ∙ sym (ap (λ (z : ℕ). listed_of z cs) e ∙ listed-front_last cs c a)
    | inr ne ↦ held_of-others c.variable x v.held ne ∙ h.held x ∙ listed-front x cs c (λ e. ne (sym e))
  ];
}

pub IsIdle-none : (v : SeatView) → HoldsJust v [] → IsIdle v
IsIdle-none v h = record { turn = h.turn; held = none v.held h.held }
  where
    none : (ks : List Lock) → ((x : ℕ) → held_of x ks ≡ None) → ks ≡ []
    none [] n = refl
    none (k ∷ ks) n = let e = n k.variable in let t = eq-eqb k.variable k.variable refl in grind arith

-- the cell at the position has the variable that it is of
pub clauses-at : (cells : List CellView) (i : ℕ) (x : ℕ) (d : CellView) → IsAscending (variables_of cells) → i < length cells → (get_or cells i d).variable ≡ x
    → clauses_at_home x cells ≡ (get_or cells i d).clauses
clauses-at [] i x d a l e = absurd (omega arith)
clauses-at (c ∷ cs) zero x d a l e = ap (λ (b : Bool). cond b c.clauses (clauses_at_home x cs)) (eq-eqb c.variable x e)
clauses-at (c ∷ cs) (suc i) x d a l e =
    let below : c.variable < (get_or cs i d).variable = below_others c.variable (variables_of cs) (get_or cs i d).variable a
    (in_map (λ (z : CellView). z.variable) cs (get_or cs i d) (Contains-get_or cs i d (omega arith))) in
    ap (λ (b : Bool). cond b c.clauses (clauses_at_home x cs)) (ne_eqb c.variable x (omega arith)) ∙ clauses-at cs i x d a.1 (omega arith) e

pub none-left : {A : Type 0} (xs : List A) → (0 < length xs → ⊥) → xs ≡ []
none-left [] h = refl
none-left (x ∷ xs) h = absurd (h (omega arith))
