-- The first blocked clause fits at the variable and is the least that does; and the clauses of the variable decide it.
use Rattle.std.proofs.Common.{◌≡◌, ℕ, Bool, true, false, cond, ◌&&◌, List, [], ◌∷◌, ◌++◌, map, Option, Some, None, refl, sym, ◌∙◌, ap, subst, inl, inr}
use Rattle.std.specs.Option.{option_or}
use Rattle.std.specs.List.{Contains, find, flat_map}
use Rattle.std.proofs.lemmas.Bool.{false≢true, eqb-true, eq-eqb}
use Rattle.std.proofs.lemmas.List.Folds.{find-append}
use Rattle.cp_logic.specs.declared.named.Named.{Named}
use Rattle.cp_logic.specs.declared.settings.Rules.{Rules}
use Rattle.cp_logic.specs.Literals.{variable_of}
use Rattle.cp_logic.specs.Formulas.{Formula, IsFormula, occurrences}
use Rattle.cp_logic.specs.Entries.{Entry, Taut, Subsume, Strengthen, Block, Eliminate, Look, is_at}
use Rattle.cp_logic.specs.Legality.{is_chosen, fits, applies, tauts, subsumptions, strengthening, strengthenings, blocks, elimination, candidates, first_in, first_of_kind}
use Rattle.cp_logic.proofs.Members.{in_here, in_later, in_cases, none_in, of_map, of_flat_map}
use Rattle.cp_logic.proofs.Locals.{find_none, first_in-local}
use Rattle.cp_logic.proofs.Complete.{nothing-missed}
use Rattle.cp_logic.proofs.Order.{first-least}
use Rattle.cp_logic.proofs.ListFacts.{find-second, or-none}
use Rattle.cp_blocked.specs.Laws.{IsBlockedAt, IsFirstBlocked, FirstIsLeast, FirstIsLocal}

-- rules that choose blocked clauses alone
abbrev pub only_blocks : Rules
only_blocks = record { choice = record { t = false; s = false; x = false; b = true; e = false }; bound = 0; budget = 0 }

-- nothing in the second of two lists passes
find-first : {X : Type 0} (p : X → Bool) (xs ys : List X) → ((y : X) → Contains ys y → p y ≡ false) → find p (xs ++ ys) ≡ find p xs
find-first p xs ys h = find-append p xs ys ∙ ap (option_or (find p xs)) (find_none p ys h) ∙ or-none (find p xs)

-- a search by a test that agrees on the items
find-same : {X : Type 0} (p q : X → Bool) (xs : List X) → ((x : X) → Contains xs x → p x ≡ q x) → find p xs ≡ find q xs
find-same p q [] h = refl
find-same {X} p q (x ∷ xs) h =
    ap (λ c. cond c (Some x) (find p xs)) (h x (in_here x x xs refl)) ∙ ap (cond (q x) (Some x)) (find-same p q xs (λ y i. h y (in_later y x xs i)))

and-false : (b : Bool) → (b && false) ≡ false
and-false true = refl
and-false false = refl

module _ (cs : List Named) (next x : ℕ) where
  -- whether the entry is a blocked clause that may be taken out at the variable
  test : Entry → Bool
  test e = is_at x e && applies cs only_blocks e

  not_chosen : (e : Entry) → is_chosen only_blocks.choice e ≡ false → test e ≡ false
  unfolding test
  not_chosen e h = ap (λ b. is_at x e && (b && fits cs 0 e)) h ∙ and-false (is_at x e)

  tauts-none : (e : Entry) → Contains (tauts cs) e → test e ≡ false
  tauts-none e i = let m = of_map Taut cs e i in subst (λ z. test z ≡ false) m.2 (not_chosen (Taut m.0) refl)

  subsumptions-none : (e : Entry) → Contains (subsumptions cs) e → test e ≡ false
  subsumptions-none e i =
      let m = of_flat_map (λ by. map (Subsume by) cs) cs e i in let k = of_map (Subsume m.0) cs e m.2 in
      subst (λ z. test z ≡ false) k.2 (not_chosen (Subsume m.0 k.0) refl)

  strengthenings-none : (e : Entry) → Contains (strengthenings cs next) e → test e ≡ false
  strengthenings-none e i =
      let m = of_flat_map (λ by. flat_map (λ (on : Named). map (strengthening next by on) on.clause) cs) cs e i in
      let n = of_flat_map (λ (on : Named). map (strengthening next m.0 on) on.clause) cs e m.2 in
      let k = of_map (strengthening next m.0 n.0) n.0.clause e n.2 in
      subst (λ z. test z ≡ false) k.2 (not_chosen (strengthening next m.0 n.0 k.0) refl)

  elimination-none : (e : Entry) → Contains (elimination cs next x ∷ []) e → test e ≡ false
  elimination-none e i = elim (in_cases e (elimination cs next x) [] i) [
    | inl q ↦ subst (λ z. test z ≡ false) q (not_chosen (elimination cs next x) refl)
    | inr n ↦ absurd (none_in e n)
  ]

  blocks-same : (e : Entry) → Contains (blocks cs) e → test e ≡ (is_at x e && fits cs 0 e)
  unfolding test
  blocks-same e i =
      let m = of_flat_map (λ (gone : Named). map (Block gone) gone.clause) cs e i in let k = of_map (Block m.0) m.0.clause e m.2 in
      subst (λ z. (is_at x z && applies cs only_blocks z) ≡ (is_at x z && fits cs 0 z)) k.2 refl

  -- the first entry is the first of the kind
  pub first_in-blocks : first_in cs only_blocks next x ≡ first_of_kind x cs (blocks cs)
  unfolding first_in candidates test
  first_in-blocks =
      find-second test (tauts cs) (subsumptions cs ++ (strengthenings cs next ++ (blocks cs ++ elimination cs next x ∷ []))) tauts-none
      ∙ find-second test (subsumptions cs) (strengthenings cs next ++ (blocks cs ++ elimination cs next x ∷ [])) subsumptions-none
      ∙ find-second test (strengthenings cs next) (blocks cs ++ elimination cs next x ∷ []) strengthenings-none
      ∙ find-first test (blocks cs) (elimination cs next x ∷ []) elimination-none
      ∙ find-same test (λ e. is_at x e && fits cs 0 e) (blocks cs) blocks-same

-- an entry that applies is a blocked clause
block-of : (cs : List Named) (x : ℕ) (e : Entry) → is_at x e ≡ true → applies cs only_blocks e ≡ true → (gone : Named) × (l : ℕ) × (e ≡ Block gone l) × IsBlockedAt x cs gone l
block-of cs x (Taut gone) a h = absurd (false≢true h)
block-of cs x (Subsume by gone) a h = absurd (false≢true h)
block-of cs x (Strengthen by on l new) a h = absurd (false≢true h)
block-of cs x (Block gone l) a h = (gone, l, refl, (eqb-true (variable_of l) x a, h))
block-of cs x (Eliminate y pos neg new) a h = absurd (false≢true h)
block-of cs x (Look y) a h = absurd (false≢true a)

first-of : (f : Formula) (x : ℕ) (o : Option Entry) → IsFormula f → first_in f.clauses only_blocks 1 x ≡ o → IsFirstBlocked x f.clauses o
first-of f x None v q = λ gone l p. (nothing-missed f.clauses only_blocks 1 x).1 q (Block gone l) (eq-eqb (variable_of l) x p.0) p.1
first-of f x (Some e) v q =
    let r = (nothing-missed f.clauses only_blocks 1 x).0 e q in
    let b = block-of f.clauses x e r.0 r.1 in
    (b.0, b.1, b.2, b.3, λ other m p. first-least f only_blocks 1 x e (Block other m) v q (eq-eqb (variable_of m) x p.0) p.1)

pub first-blocked_least : FirstIsLeast
first-blocked_least f x v = first-of f x (first_of_kind x f.clauses (blocks f.clauses)) v (first_in-blocks f.clauses 1 x)

pub first-blocked_local : FirstIsLocal
first-blocked_local cs x =
    sym (first_in-blocks (occurrences cs x) 1 x) ∙ sym (first_in-local cs only_blocks 1 x) ∙ first_in-blocks cs 1 x
