-- The first entry over all chosen kinds, from the first of each kind; and that each first is read in the clauses of the variable alone.
use Rattle.std.proofs.Common.{◌≡◌, ℕ, Bool, true, false, cond, ◌&&◌, List, [], ◌∷◌, ◌++◌, map, Option, Some, None, refl, sym, ◌∙◌, ap, subst, inl, inr}
use Rattle.std.specs.Option.{option_or}
use Rattle.std.specs.List.{Contains, find, flat_map}
use Rattle.std.proofs.lemmas.Bool.{eq-eqb}
use Rattle.std.proofs.lemmas.List.Folds.{find-append}
use Rattle.std.proofs.lemmas.List.Elements.{Contains-append_cases}
use Rattle.cp_logic.specs.declared.named.Named.{Named}
use Rattle.cp_logic.specs.declared.settings.Rules.{Rules}
use Rattle.cp_logic.specs.Formulas.{Formula, occurrences, has_empty}
use Rattle.cp_logic.specs.Entries.{Entry, Taut, Subsume, Block, is_at}
use Rattle.cp_logic.specs.Legality.{fits, applies, tauts, subsumptions, strengthening, strengthenings, blocks, elimination, candidates, first_in, first, first_of_kind}
use Rattle.cp_logic.proofs.Members.{in_here, in_later, in_cases, none_in, of_map, of_flat_map}
use Rattle.cp_logic.proofs.Locals.{find_none, first_in-local}
use Rattle.cp_logic.proofs.ListFacts.{or-none}
use Rattle.cp_find.specs.Chosen.{where_chosen}

-- a search with a test that asks for a choice besides
find-chosen : {X : Type 0} (b : Bool) (p q : X → Bool) (xs : List X) → ((x : X) → Contains xs x → p x ≡ (b && q x)) → find p xs ≡ where_chosen b (find q xs)
find-chosen true p q [] h = refl
find-chosen {X} true p q (x ∷ xs) h =
    ap (λ c. cond c (Some x) (find p xs)) (h x (in_here x x xs refl)) ∙ ap (cond (q x) (Some x)) (find-chosen true p q xs (λ y i. h y (in_later y x xs i)))
find-chosen false p q xs h = find_none p xs h

-- a choice is asked before or after
swap : (a b c : Bool) → (a && (b && c)) ≡ (b && (a && c))
swap true b c = refl
swap false true c = refl
swap false false c = refl

-- two tests of one item, the first of them a choice
both-chosen : {X : Type 0} (b c : Bool) (x : X) → cond (b && c) (Some x) None ≡ where_chosen b (cond c (Some x) None)
both-chosen true c x = refl
both-chosen false c x = refl

module _ (cs : List Named) (rules : Rules) (next x : ℕ) where
  -- whether the entry applies at the variable; whether it fits there, whatever is chosen
  test : Entry → Bool
  test e = is_at x e && applies cs rules e

  fitting : Entry → Bool
  fitting e = is_at x e && fits cs 0 e

  -- an entry of a kind applies where the kind is chosen and it fits
  taut-chosen : (e : Entry) → Contains (tauts cs) e → test e ≡ (rules.choice.t && fitting e)
  unfolding test fitting fits
  taut-chosen e i = let m = of_map Taut cs e i in
      subst (λ z. (is_at x z && applies cs rules z) ≡ (rules.choice.t && (is_at x z && fits cs 0 z))) m.2 (swap (is_at x (Taut m.0)) rules.choice.t (fits cs 0 (Taut m.0)))

  subsumption-chosen : (e : Entry) → Contains (subsumptions cs) e → test e ≡ (rules.choice.s && fitting e)
  unfolding test fitting fits
  subsumption-chosen e i =
      let m = of_flat_map (λ by. map (Subsume by) cs) cs e i in let k = of_map (Subsume m.0) cs e m.2 in
      subst (λ z. (is_at x z && applies cs rules z) ≡ (rules.choice.s && (is_at x z && fits cs 0 z))) k.2
      (swap (is_at x (Subsume m.0 k.0)) rules.choice.s (fits cs 0 (Subsume m.0 k.0)))

  strengthening-chosen : (e : Entry) → Contains (strengthenings cs next) e → test e ≡ (rules.choice.x && fitting e)
  unfolding test fitting fits
  strengthening-chosen e i =
      let m = of_flat_map (λ by. flat_map (λ (on : Named). map (strengthening next by on) on.clause) cs) cs e i in
      let n = of_flat_map (λ (on : Named). map (strengthening next m.0 on) on.clause) cs e m.2 in
      let k = of_map (strengthening next m.0 n.0) n.0.clause e n.2 in
      subst (λ z. (is_at x z && applies cs rules z) ≡ (rules.choice.x && (is_at x z && fits cs 0 z))) k.2
      (swap (is_at x (strengthening next m.0 n.0 k.0)) rules.choice.x (fits cs 0 (strengthening next m.0 n.0 k.0)))

  block-chosen : (e : Entry) → Contains (blocks cs) e → test e ≡ (rules.choice.b && fitting e)
  unfolding test fitting fits
  block-chosen e i =
      let m = of_flat_map (λ (gone : Named). map (Block gone) gone.clause) cs e i in let k = of_map (Block m.0) m.0.clause e m.2 in
      subst (λ z. (is_at x z && applies cs rules z) ≡ (rules.choice.b && (is_at x z && fits cs 0 z))) k.2
      (swap (is_at x (Block m.0 k.0)) rules.choice.b (fits cs 0 (Block m.0 k.0)))

  -- the elimination, where it is chosen and fits
  elimination-chosen : find test (elimination cs next x ∷ [])
      ≡ where_chosen rules.choice.e (cond (fits cs rules.bound (elimination cs next x)) (Some (elimination cs next x)) None)
  unfolding test
  elimination-chosen =
      ap (λ b. cond (b && applies cs rules (elimination cs next x)) (Some (elimination cs next x)) None) (eq-eqb x x refl)
      ∙ both-chosen rules.choice.e (fits cs rules.bound (elimination cs next x)) (elimination cs next x)

  -- the first of the kinds that are not told apart here
  pub first_of_rest : Option Entry
  first_of_rest = find test (blocks cs ++ elimination cs next x ∷ [])

  -- the first over all kinds is that of the first kind that has one
  pub first_in-kinds : first_in cs rules next x
      ≡ option_or (where_chosen rules.choice.t (first_of_kind x cs (tauts cs)))
      (option_or (where_chosen rules.choice.s (first_of_kind x cs (subsumptions cs)))
      (option_or (where_chosen rules.choice.x (first_of_kind x cs (strengthenings cs next))) first_of_rest))
  unfolding first_in candidates test fitting first_of_rest
  first_in-kinds =
      find-append test (tauts cs) (subsumptions cs ++ (strengthenings cs next ++ (blocks cs ++ elimination cs next x ∷ [])))
      ∙ ap (option_or (find test (tauts cs))) (find-append test (subsumptions cs) (strengthenings cs next ++ (blocks cs ++ elimination cs next x ∷ []))
      ∙ ap (option_or (find test (subsumptions cs))) (find-append test (strengthenings cs next) (blocks cs ++ elimination cs next x ∷ [])
      ∙ ap (λ o. option_or o (find test (blocks cs ++ elimination cs next x ∷ []))) (find-chosen rules.choice.x test fitting (strengthenings cs next) strengthening-chosen))
      ∙ ap (λ o. option_or o (option_or (where_chosen rules.choice.x (find fitting (strengthenings cs next))) (find test (blocks cs ++ elimination cs next x ∷ []))))
      (find-chosen rules.choice.s test fitting (subsumptions cs) subsumption-chosen))
      ∙ ap (λ o. option_or o (option_or (where_chosen rules.choice.s (find fitting (subsumptions cs)))
      (option_or (where_chosen rules.choice.x (find fitting (strengthenings cs next))) (find test (blocks cs ++ elimination cs next x ∷ [])))))
      (find-chosen rules.choice.t test fitting (tauts cs) taut-chosen)

  -- what is not chosen does not apply
  off : (a c : Bool) → (a && (false && c)) ≡ false
  off true c = refl
  off false c = refl

  -- of blocked clauses and elimination there is none where neither is chosen
  pub first_of_rest-none : rules.choice.b ≡ false → rules.choice.e ≡ false → first_of_rest ≡ None
  unfolding first_of_rest test
  first_of_rest-none b e = find_none test (blocks cs ++ elimination cs next x ∷ []) (λ z i. elim (Contains-append_cases (blocks cs) (elimination cs next x ∷ []) z i) [
    | inl j ↦
        let m = of_flat_map (λ (gone : Named). map (Block gone) gone.clause) cs z j in let k = of_map (Block m.0) m.0.clause z m.2 in
        subst (λ u. (is_at x u && applies cs rules u) ≡ false) k.2
        (ap (λ c. is_at x (Block m.0 k.0) && (c && fits cs rules.bound (Block m.0 k.0))) b ∙ off (is_at x (Block m.0 k.0)) (fits cs rules.bound (Block m.0 k.0)))
    | inr j ↦ elim (in_cases z (elimination cs next x) [] j) [
      | inl q ↦ subst (λ u. (is_at x u && applies cs rules u) ≡ false) q
          (ap (λ c. is_at x (elimination cs next x) && (c && fits cs rules.bound (elimination cs next x))) e ∙ off (is_at x (elimination cs next x)) (fits cs rules.bound (elimination cs next x)))
      | inr n ↦ absurd (none_in z n)
    ]
  ])

  -- else the first of them is the first blocked clause, or the elimination where it fits
  pub first_of_rest-kinds : first_of_rest
      ≡ option_or (where_chosen rules.choice.b (first_of_kind x cs (blocks cs)))
      (where_chosen rules.choice.e (cond (fits cs rules.bound (elimination cs next x)) (Some (elimination cs next x)) None))
  unfolding test fitting first_of_rest
  first_of_rest-kinds =
      find-append test (blocks cs) (elimination cs next x ∷ [])
      ∙ ap (λ o. option_or o (find test (elimination cs next x ∷ []))) (find-chosen rules.choice.b test fitting (blocks cs) block-chosen)
      ∙ ap (option_or (where_chosen rules.choice.b (find fitting (blocks cs)))) elimination-chosen

  -- where neither of those is chosen, the first is that of the first of the three kinds that has one
  pub first_in-three : rules.choice.b ≡ false → rules.choice.e ≡ false → first_in cs rules next x
      ≡ option_or (where_chosen rules.choice.t (first_of_kind x cs (tauts cs)))
      (option_or (where_chosen rules.choice.s (first_of_kind x cs (subsumptions cs)))
      (where_chosen rules.choice.x (first_of_kind x cs (strengthenings cs next))))
  first_in-three b e =
      first_in-kinds ∙ ap (λ o. option_or (where_chosen rules.choice.t (first_of_kind x cs (tauts cs))) (option_or (where_chosen rules.choice.s (first_of_kind x cs (subsumptions cs))) o))
      (ap (option_or (where_chosen rules.choice.x (first_of_kind x cs (strengthenings cs next)))) (first_of_rest-none b e) ∙ or-none _)

-- ---- where one kind alone is chosen

-- rules that choose these of the three kinds, and no others
abbrev pub only : Bool → Bool → Bool → Rules
only t s x = record { choice = record { t = t; s = s; x = x; b = false; e = false }; bound = 0; budget = 0 }

-- the first entry is the first of the kind
pub first_in-taut_alone : (cs : List Named) (next x : ℕ) → first_in cs (only true false false) next x ≡ first_of_kind x cs (tauts cs)
first_in-taut_alone cs next x = first_in-three cs (only true false false) next x refl refl ∙ or-none (first_of_kind x cs (tauts cs))

pub first_in-subsumption_alone : (cs : List Named) (next x : ℕ) → first_in cs (only false true false) next x ≡ first_of_kind x cs (subsumptions cs)
first_in-subsumption_alone cs next x = first_in-three cs (only false true false) next x refl refl ∙ or-none (first_of_kind x cs (subsumptions cs))

pub first_in-strengthening_alone : (cs : List Named) (next x : ℕ) → first_in cs (only false false true) next x ≡ first_of_kind x cs (strengthenings cs next)
first_in-strengthening_alone cs next x = first_in-three cs (only false false true) next x refl refl

-- ---- in the clauses of the variable

-- the first tautology of all clauses is that of the clauses of the variable
pub first_taut-local : (cs : List Named) (x : ℕ) → first_of_kind x (occurrences cs x) (tauts (occurrences cs x)) ≡ first_of_kind x cs (tauts cs)
first_taut-local cs x =
    sym (first_in-taut_alone (occurrences cs x) 1 x) ∙ sym (first_in-local cs (only true false false) 1 x) ∙ first_in-taut_alone cs 1 x

-- the first subsumption of all clauses is that of the clauses of the variable
pub first_subsumption-local : (cs : List Named) (x : ℕ) → first_of_kind x (occurrences cs x) (subsumptions (occurrences cs x)) ≡ first_of_kind x cs (subsumptions cs)
first_subsumption-local cs x =
    sym (first_in-subsumption_alone (occurrences cs x) 1 x) ∙ sym (first_in-local cs (only false true false) 1 x) ∙ first_in-subsumption_alone cs 1 x

-- the first strengthening of all clauses is that of the clauses of the variable
pub first_strengthening-local : (cs : List Named) (x next : ℕ) → first_of_kind x (occurrences cs x) (strengthenings (occurrences cs x) next) ≡ first_of_kind x cs (strengthenings cs next)
first_strengthening-local cs x next =
    sym (first_in-strengthening_alone (occurrences cs x) next x) ∙ sym (first_in-local cs (only false false true) next x) ∙ first_in-strengthening_alone cs next x

-- a search in the cell of a variable is the search in the formula
pub first-from_cell : (f : Formula) (rules : Rules) (x : ℕ) (cell : List Named) → has_empty f.clauses ≡ false → cell ≡ occurrences f.clauses x → first_in cell rules f.next x ≡ first f rules x
unfolding first
first-from_cell f rules x cell h e =
    ap (λ cs. first_in cs rules f.next x) e ∙ sym (first_in-local f.clauses rules f.next x) ∙ sym (ap (λ b. cond b None (first_in f.clauses rules f.next x)) h)
