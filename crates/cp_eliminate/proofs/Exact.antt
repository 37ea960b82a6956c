-- The elimination at a variable is the one that fits there, and the search gives the first entry of the formula.
use Rattle.std.proofs.Common.{◌≡◌, ℕ, Bool, true, false, cond, ◌&&◌, List, [], ◌∷◌, ◌++◌, map, Option, Some, None, refl, sym, ◌∙◌, ap, subst}
use Rattle.std.specs.Option.{option_map}
use Rattle.std.specs.List.{find, flat_map}
use Rattle.std.proofs.lemmas.Bool.{eq-eqb}
use Rattle.std.proofs.lemmas.List.{map-append}
use Rattle.cp_logic.specs.declared.named.Named.{Named}
use Rattle.cp_logic.specs.declared.settings.Rules.{Rules}
use Rattle.cp_logic.specs.Literals.{positive, negative}
use Rattle.cp_logic.specs.Formulas.{occurrences}
use Rattle.cp_logic.specs.Entries.{Entry, Taut, Subsume, Block, Eliminate, numbered, numbered_from, is_at}
use Rattle.cp_logic.specs.Legality.{clauses_with, resolvents, fits, applies, tauts, subsumptions, strengthening, strengthenings, blocks, elimination_of, elimination, candidates, first_in, first}
use Rattle.cp_logic.proofs.LiteralFacts.{variable_of-positive, variable_of-negative}
use Rattle.cp_logic.proofs.Parts.{eliminate-fits}
use Rattle.cp_logic.proofs.Locals.{clauses_with-occurrences, fits-local, first_in-local}
use Rattle.cp_logic.proofs.Complete.{renumbered-clauses, applies-numbered, is_at-numbered}
use Rattle.cp_eliminate.specs.Laws.{EliminationFits, EliminationIsAlone, EliminationIsLocal, SearchIsFirst}
use Rattle.cp_eliminate.proofs.Pairs.{clauses_of-numbered}

-- ---- the elimination

given-fits : (b : Bool) (d e : Entry) → cond b (Some d) None ≡ Some e → (b ≡ true) × (d ≡ e)
given-fits true d e h = (refl, cc)
given-fits false d e h = absurd (cc)

pub elimination-fits : EliminationFits
elimination-fits cs bound next x e h =
    let p = given-fits (fits cs bound (elimination cs next x)) (elimination cs next x) e h in subst (λ d. fits cs bound d ≡ true) p.1 p.0

-- rules under which an elimination that fits applies
eliminating : ℕ → Rules
eliminating bound = record { choice = record { t = true; s = true; x = true; b = true; e = true }; bound = bound; budget = 0 }

pub elimination-alone : EliminationIsAlone
unfolding eliminating
elimination-alone cs bound next x pos neg new h =
    ap (λ b. cond b (Some (elimination cs next x)) None) (ap (fits cs bound) (sym same) ∙ applies-numbered cs (eliminating bound) next (Eliminate x pos neg new) ∙ h)
    ∙ ap (λ (e : Entry). Some e) (sym same)
  where
    same : numbered next (Eliminate x pos neg new) ≡ elimination cs next x
    same = let p = eliminate-fits cs bound x pos neg new h in
        ap (λ w. Eliminate x pos neg w) (renumbered-clauses next new ∙ ap (numbered_from next) p.is_new)
        ∙ ap (λ q. elimination_of next x q neg) p.is_pos ∙ ap (elimination_of next x (clauses_with cs (positive x))) p.is_neg

pub elimination-local : EliminationIsLocal
elimination-local cs bound next x =
    ap (λ (e : Entry). cond (fits (occurrences cs x) bound e) (Some e) None)
    (ap (λ q. elimination_of next x q (clauses_with (occurrences cs x) (negative x))) (clauses_with-occurrences cs x (positive x) (variable_of-positive x))
    ∙ ap (elimination_of next x (clauses_with cs (positive x))) (clauses_with-occurrences cs x (negative x) (variable_of-negative x)))
    ∙ ap (λ b. cond b (Some (elimination cs next x)) None) (sym (fits-local cs x bound (elimination cs next x) (eq-eqb x x refl)))

-- ---- other numbers for new clauses

module _ (m : ℕ) where
  joined : (es ds xs ys : List Entry) → es ≡ map (numbered m) xs → ds ≡ map (numbered m) ys → es ++ ds ≡ map (numbered m) (xs ++ ys)
  joined es ds xs ys e f = ap (λ z. z ++ ds) e ∙ ap (λ z. map (numbered m) xs ++ z) f ∙ sym (map-append (numbered m) xs ys)

  images : {X : Type 0} (f h : X → Entry) → ((x : X) → f x ≡ numbered m (h x)) → (xs : List X) → map f xs ≡ map (numbered m) (map h xs)
  images f h e [] = refl
  images f h e (x ∷ xs) = ap (λ z. z ∷ map f xs) (e x) ∙ ap (λ z. numbered m (h x) ∷ z) (images f h e xs)

  lists : {X : Type 0} (f h : X → List Entry) → ((x : X) → f x ≡ map (numbered m) (h x)) → (xs : List X) → flat_map f xs ≡ map (numbered m) (flat_map h xs)
  lists f h e [] = refl
  lists f h e (x ∷ xs) = joined (f x) (flat_map f xs) (h x) (flat_map h xs) (e x) (lists f h e xs)

  module _ (cs : List Named) (n x : ℕ) where
    strengthenings-numbered : strengthenings cs m ≡ map (numbered m) (strengthenings cs n)
    strengthenings-numbered =
        lists (λ (by : Named). flat_map (λ (on : Named). map (strengthening m by on) on.clause) cs) (λ (by : Named). flat_map (λ (on : Named). map (strengthening n by on) on.clause) cs)
        (λ by. lists (λ (on : Named). map (strengthening m by on) on.clause) (λ (on : Named). map (strengthening n by on) on.clause)
        (λ on. images (strengthening m by on) (strengthening n by on) (λ l. refl) on.clause) cs) cs

    elimination-numbered : elimination cs m x ≡ numbered m (elimination cs n x)
    elimination-numbered =
        let rs = resolvents x (clauses_with cs (positive x)) (clauses_with cs (negative x)) in
        ap (λ w. Eliminate x (clauses_with cs (positive x)) (clauses_with cs (negative x)) w)
        (sym (renumbered-clauses m (numbered_from n rs) ∙ ap (numbered_from m) (clauses_of-numbered n rs)))

    candidates-numbered : candidates cs m x ≡ map (numbered m) (candidates cs n x)
    unfolding candidates
    candidates-numbered =
        joined (tauts cs) _ (tauts cs) _ (images Taut Taut (λ c. refl) cs)
        (joined (subsumptions cs) _ (subsumptions cs) _ (lists (λ by. map (Subsume by) cs) (λ by. map (Subsume by) cs) (λ by. images (Subsume by) (Subsume by) (λ c. refl) cs) cs)
        (joined (strengthenings cs m) _ (strengthenings cs n) _ strengthenings-numbered
        (joined (blocks cs) _ (blocks cs) _
        (lists (λ (c : Named). map (Block c) c.clause) (λ (c : Named). map (Block c) c.clause) (λ c. images (Block c) (Block c) (λ l. refl) c.clause) cs)
        (ap (λ (e : Entry). e ∷ []) elimination-numbered))))

pulled : {X Y : Type 0} (g : X → Y) (b : Bool) (x : X) (o : Option X) → cond b (Some (g x)) (option_map g o) ≡ option_map g (cond b (Some x) o)
pulled g true x o = refl
pulled g false x o = refl

find-map : {X Y : Type 0} (p : Y → Bool) (q : X → Bool) (g : X → Y) → ((x : X) → p (g x) ≡ q x) → (xs : List X) → find p (map g xs) ≡ option_map g (find q xs)
find-map p q g h [] = refl
find-map {X} {Y} p q g h (x ∷ xs) =
    ap (λ b. cond b (Some (g x)) (find p (map g xs))) (h x) ∙ ap (cond (q x) (Some (g x))) (find-map p q g h xs) ∙ pulled g (q x) x (find q xs)

-- whether the entry applies at the variable
abbrev test : List Named → Rules → ℕ → Entry → Bool
test cs rules x e = is_at x e && applies cs rules e

-- the numbers of new clauses have no part in the search
first_in-numbered : (cs : List Named) (rules : Rules) (m n x : ℕ) → first_in cs rules m x ≡ option_map (numbered m) (first_in cs rules n x)
unfolding first_in
first_in-numbered cs rules m n x =
    ap (find (test cs rules x)) (candidates-numbered m cs n x)
    ∙ find-map (test cs rules x) (test cs rules x) (numbered m) (λ e. ap (λ b. b && applies cs rules (numbered m e)) (is_at-numbered x m e) ∙ ap (λ b. is_at x e && b) (applies-numbered cs rules m e)) (candidates cs n x)

-- ---- the search

pub search-first : SearchIsFirst
unfolding first
search-first f rules next x h =
    sym (first_in-local f.clauses rules next x) ∙ first_in-numbered f.clauses rules next f.next x
    ∙ ap (option_map (numbered next)) (sym (ap (λ b. cond b None (first_in f.clauses rules f.next x)) h))
