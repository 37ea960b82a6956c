-- What a run of additions and weakenings does, a rule at a time.
use Rattle.std.proofs.Common.{◌≡◌, ℕ, ◌+◌, ◌<◌, ◌≤◌, Bool, true, false, cond, List, [], ◌∷◌, ◌++◌, map, length, drop, get_or, Some, refl, sym, ◌∙◌, ap, subst, inl, inr, arith}
use Rattle.std.specs.Prelude.{◌⊎◌, ◌==◌}
use Rattle.std.specs.List.{Contains, All}
use Rattle.std.proofs.lemmas.Bool.{eq-eqb, ne_eqb}
use Rattle.std.proofs.lemmas.List.Elements.{All-nil, All-cons}
use Rattle.cp_logic.specs.declared.named.Named.{Named}
use Rattle.cp_logic.specs.Literals.{variable_of, positive, negative}
use Rattle.cp_logic.specs.Clauses.{IsAscending}
use Rattle.cp_logic.specs.Formulas.{Formula, IsFormula, IsWithin, clauses_of, numbers_of, find_number}
use Rattle.cp_logic.specs.Rules.{Rule, Add, Weaken, State, IsAllowed, added, applied, state_after, IsRun}
use Rattle.cp_logic.specs.Entries.{Eliminate, expand}
use Rattle.cp_logic.proofs.Runs.{variables-state_after}
use Rattle.cp_logic.proofs.Eliminations.{state_after-append}
use Rattle.cp_logic.proofs.Members.{none_in, in_cases, in_map, contains-in}
use Rattle.cp_logic.proofs.LiteralFacts.{variable_of-positive, variable_of-negative}
use Rattle.cp_logic.proofs.Ascending.{below_others}
use Rattle.cp_logic.proofs.Expansions.{within_at, variable_within}
use Rattle.cp_logic.proofs.ListFacts.{drop-at}
use Rattle.cp_book.specs.Changes.{with_all}

-- the parts of a run
pub IsRun-split : (s : State) (rs qs : List Rule) → IsRun s (rs ++ qs) → IsRun s rs × IsRun (state_after s rs) qs
IsRun-split s [] qs h = (tt, h)
IsRun-split s (r ∷ rs) qs h = let more = IsRun-split (applied s r) rs qs h.1 in ((h.0, more.0), more.1)

-- ---- additions

pub with_all-variables : (f : Formula) (cs : List (List ℕ)) → (with_all f cs).variables ≡ f.variables
with_all-variables f [] = refl
with_all-variables f (k ∷ ks) = with_all-variables (added f (record { number = f.next; clause = k })) ks

pub adds-after : (s : State) (cs : List Named) → IsRun s (map Add cs) → state_after s (map Add cs) ≡ (let t : State = record { formula = with_all s.formula (clauses_of cs); pairs = s.pairs } in t)
adds-after s [] h = refl
adds-after s (c ∷ cs) h =
    adds-after (applied s (Add c)) cs h.1
    ∙ ap (λ n. let t : State = record { formula = with_all (added s.formula (record { number = n; clause = c.clause })) (clauses_of cs); pairs = s.pairs } in t) h.0.0

pub adds-within : (s : State) (cs : List Named) → IsRun s (map Add cs) → All (IsWithin s.formula.variables) (clauses_of cs)
adds-within s [] h = All-nil (IsWithin s.formula.variables)
adds-within s (c ∷ cs) h = All-cons (IsWithin s.formula.variables) c.clause (clauses_of cs) h.0.2 (adds-within (applied s (Add c)) cs h.1)

-- ---- weakenings

-- a clause is found under its number
find-its : (cs : List Named) (c : Named) → IsAscending (numbers_of cs) → Contains cs c → find_number cs c.number ≡ Some c
find-its [] c a i = absurd (none_in c i)
find-its (d ∷ ds) c a i = go (in_cases c d ds i) (find-its ds c a.1)
  where
    go : (d ≡ c) ⊎ Contains ds c → (Contains ds c → find_number ds c.number ≡ Some c) → cond (d.number == c.number) (Some d) (find_number ds c.number) ≡ Some c
    go (inl e) more = ap (λ b. cond b (Some d) (find_number ds c.number)) (eq-eqb d.number c.number (ap (λ (k : Named). k.number) e)) ∙ ap Some e
    go (inr j) more =
        let below : d.number < c.number = below_others d.number (numbers_of ds) c.number a (in_map (λ (k : Named). k.number) ds c j) in
        ap (λ b. cond b (Some d) (find_number ds c.number)) (ne_eqb d.number c.number (omega arith)) ∙ more j

pub weaken-found : (f : Formula) (c : Named) (l : ℕ) → IsFormula f → IsAllowed f (Weaken c l) → find_number f.clauses c.number ≡ Some c
weaken-found f c l v h = find-its f.clauses c v.rising h.0

pub weaken-within : (f : Formula) (c : Named) (l : ℕ) → IsFormula f → IsAllowed f (Weaken c l) → IsWithin f.variables c.clause
weaken-within f c l v h = within_at f c v h.0

-- its literal is of a variable in range
pub weaken-variable : (f : Formula) (c : Named) (l : ℕ) → IsFormula f → IsAllowed f (Weaken c l) → (0 < variable_of l) × (variable_of l ≤ f.variables)
weaken-variable f c l v h = variable_within f.variables c.clause l (within_at f c v h.0) (contains-in c.clause l h.1.has)

pub variable_of-signed : (sign : Bool) (x : ℕ) → variable_of (cond sign (positive x) (negative x)) ≡ x
variable_of-signed true x = variable_of-positive x
variable_of-signed false x = variable_of-negative x

-- a run of weakenings whose next clause is read
pub weakens-read : (s : State) (cs : List Named) (i l : ℕ) (c : Named) → i < length cs → c ≡ get_or cs i c → IsRun s (map (λ k. Weaken k l) (drop i cs))
    → IsAllowed s.formula (Weaken c l) × IsRun (applied s (Weaken c l)) (map (λ k. Weaken k l) (drop (i + 1) cs))
weakens-read s cs i l c h e r = subst (λ ks. IsRun s (map (λ k. Weaken k l) ks)) (drop-at cs i c h e) r

-- ---- an elimination: the additions, and then the weakenings of each list

module _ (s : State) (x : ℕ) (pos neg new : List Named) (seconds : List (List ℕ)) (h : IsRun s (expand (Eliminate x pos neg new))) (e : seconds ≡ clauses_of new) where
  parts : IsRun s (map Add new) × IsRun (state_after s (map Add new)) (map (λ c. Weaken c (positive x)) pos ++ map (λ c. Weaken c (negative x)) neg)
  parts = IsRun-split s (map Add new) (map (λ c. Weaken c (positive x)) pos ++ map (λ c. Weaken c (negative x)) neg) h

  pub eliminate-within : All (IsWithin s.formula.variables) seconds
  eliminate-within = subst (All (IsWithin s.formula.variables)) (sym e) (adds-within s new parts.0)

  -- the state after the additions
  module _ (f : Formula) (q : f ≡ with_all s.formula seconds) where
    added_to : state_after s (map Add new) ≡ (let t : State = record { formula = f; pairs = s.pairs } in t)
    added_to = adds-after s new parts.0 ∙ ap (λ g. let t : State = record { formula = g; pairs = s.pairs } in t) (ap (with_all s.formula) (sym e) ∙ sym q)

    weakenings : IsRun (record { formula = f; pairs = s.pairs }) (map (λ c. Weaken c (positive x)) pos ++ map (λ c. Weaken c (negative x)) neg)
    weakenings = subst (λ t. IsRun t (map (λ c. Weaken c (positive x)) pos ++ map (λ c. Weaken c (negative x)) neg)) added_to parts.1

    pub eliminate-first : IsRun (record { formula = f; pairs = s.pairs }) (map (λ c. Weaken c (positive x)) pos)
    eliminate-first = (IsRun-split (record { formula = f; pairs = s.pairs }) (map (λ c. Weaken c (positive x)) pos) (map (λ c. Weaken c (negative x)) neg) weakenings).0

    -- and after the first weakenings
    module _ (t : State) (r : t ≡ state_after (record { formula = f; pairs = s.pairs }) (map (λ c. Weaken c (positive x)) pos)) where
      pub eliminate-second : IsRun t (map (λ c. Weaken c (negative x)) neg)
      eliminate-second =
          subst (λ u. IsRun u (map (λ c. Weaken c (negative x)) neg)) (sym r)
          (IsRun-split (record { formula = f; pairs = s.pairs }) (map (λ c. Weaken c (positive x)) pos) (map (λ c. Weaken c (negative x)) neg) weakenings).1

      pub eliminate-variables : t.formula.variables ≡ s.formula.variables
      eliminate-variables =
          ap (λ (u : State). u.formula.variables) r ∙ variables-state_after (record { formula = f; pairs = s.pairs }) (map (λ c. Weaken c (positive x)) pos)
          ∙ ap (λ (g : Formula). g.variables) q ∙ with_all-variables s.formula seconds

      pub eliminate-after : state_after t (map (λ c. Weaken c (negative x)) neg) ≡ state_after s (expand (Eliminate x pos neg new))
      eliminate-after =
          sym (state_after-append s (map Add new) (map (λ c. Weaken c (positive x)) pos ++ map (λ c. Weaken c (negative x)) neg)
          ∙ state_after-append (state_after s (map Add new)) (map (λ c. Weaken c (positive x)) pos) (map (λ c. Weaken c (negative x)) neg)
          ∙ ap (λ u. state_after (state_after u (map (λ c. Weaken c (positive x)) pos)) (map (λ c. Weaken c (negative x)) neg)) added_to
          ∙ ap (λ u. state_after u (map (λ c. Weaken c (negative x)) neg)) (sym r))
