-- The variables of a cell's neighbourhood: how they are found, how many there are, and where they lie.
use Rattle.std.proofs.Common.{◌≡◌, ℕ, ◌+◌, ◌-◌, ◌<◌, ◌≤◌, eqb, List, [], ◌∷◌, ◌++◌, map, take, length, get_or, sym, append_assoc, ap, ◌∙◌, subst, inl, inr, arith, IsPermutation}
use Rattle.std.specs.Prelude.{nat_lt}
use Rattle.std.specs.List.{All, Contains, flat_map, dedup}
use Rattle.std.specs.List.Sorted.{IsSorted}
use Rattle.std.specs.Ordering.{nat_cmp}
use Rattle.std.proofs.lemmas.Bool.{ltb-true}
use Rattle.std.proofs.lemmas.List.{map-append, take_more}
use Rattle.std.proofs.lemmas.List.Elements.{All-map, All-contains, Contains-get_or, Contains-append_cases, Contains-append_left, Contains-append_right, Contains-push_cases}
use Rattle.cp_logic.specs.declared.named.Named.{Named}
use Rattle.cp_logic.specs.Literals.{variable_of, IsLiteral}
use Rattle.cp_logic.specs.Clauses.{clause_of, has_variable}
use Rattle.cp_logic.specs.Formulas.{Formula, IsWithin, occurrences, variables_in, neighbourhood}
use Rattle.cp_logic.specs.Journals.{folded}
use Rattle.cp_logic.proofs.Members.{of_flat_map, of_map, of_filter, in_here, in_later, in_cases, all_at}
use Rattle.cp_logic.proofs.SetFacts.{same_set, IsAscending-clause_of, of_clause_of, in_clause_of}
use Rattle.cp_logic.proofs.SortedClauses.{dedup-clause_of}
use Rattle.cp_logic.proofs.Totals.{length-ascending}
use Rattle.cp_logic.proofs.JournalRuns.{journal-formula}
use Rattle.cp_occ.specs.Cells.{IsListed}
use Rattle.cp_yard.specs.Views.{Base}
use Rattle.cp_yard.specs.Rule.{AreClausesAt}
use Rattle.cp_hood.proofs.Neighbours.{all-occur}

abbrev pub each_variable : List Named → List ℕ
each_variable cs = flat_map (λ (c : Named). map variable_of c.clause) cs

pub literals-range : (ls : List ℕ) → All IsLiteral ls → All (λ (y : ℕ). (1 ≤ y) × (y ≤ 2000000)) (map variable_of ls)
literals-range ls h = All-map (λ (y : ℕ). (1 ≤ y) × (y ≤ 2000000)) variable_of ls (λ k d l. let b = h k d l in (omega arith, omega arith))

-- what is appended to two lists of one set
pub set-append : (xs ys more : List ℕ) → clause_of xs ≡ clause_of ys → clause_of (xs ++ more) ≡ clause_of (ys ++ more)
set-append xs ys more e = same_set (clause_of (xs ++ more)) (clause_of (ys ++ more)) (IsAscending-clause_of (xs ++ more)) (IsAscending-clause_of (ys ++ more))
    (λ z i. in_clause_of (ys ++ more) z (moved xs ys e z (of_clause_of (xs ++ more) z i)))
    (λ z i. in_clause_of (xs ++ more) z (moved ys xs (sym e) z (of_clause_of (ys ++ more) z i)))
  where
    moved : (us vs : List ℕ) → clause_of us ≡ clause_of vs → (z : ℕ) → Contains (us ++ more) z → Contains (vs ++ more) z
    moved us vs q z i = elim (Contains-append_cases us more z i) [
      | inl j ↦ Contains-append_left vs more z (of_clause_of vs z (subst (λ (ws : List ℕ). Contains ws z) q (in_clause_of us z j)))
      | inr j ↦ Contains-append_right vs more z j
    ]

-- an item that is there once more
pub set-repeat : (xs : List ℕ) (x : ℕ) → Contains xs x → clause_of (xs ++ x ∷ []) ≡ clause_of xs
set-repeat xs x h = same_set (clause_of (xs ++ x ∷ [])) (clause_of xs) (IsAscending-clause_of (xs ++ x ∷ [])) (IsAscending-clause_of xs)
    (λ z i. in_clause_of xs z (elim (Contains-push_cases xs x z (of_clause_of (xs ++ x ∷ []) z i)) [ inl j ↦ j | inr e ↦ subst (Contains xs) e h ]))
    (λ z i. in_clause_of (xs ++ x ∷ []) z (Contains-append_left xs (x ∷ []) z (of_clause_of xs z i)))

-- a set of a set
set-again : (x : ℕ) (ys : List ℕ) → clause_of (x ∷ ys) ≡ clause_of (x ∷ clause_of ys)
set-again x ys = same_set (clause_of (x ∷ ys)) (clause_of (x ∷ clause_of ys)) (IsAscending-clause_of (x ∷ ys)) (IsAscending-clause_of (x ∷ clause_of ys))
    (λ z i. in_clause_of (x ∷ clause_of ys) z (elim (in_cases z x ys (of_clause_of (x ∷ ys) z i)) [ inl e ↦ in_here z x (clause_of ys) e | inr j ↦ in_later z x (clause_of ys) (in_clause_of ys z j) ]))
    (λ z i. in_clause_of (x ∷ ys) z (elim (in_cases z x (clause_of ys) (of_clause_of (x ∷ clause_of ys) z i)) [ inl e ↦ in_here z x ys e | inr j ↦ in_later z x ys (of_clause_of ys z j) ]))

pub sorted-neighbourhood : (x : ℕ) (cs : List Named) (all sorted : List ℕ) → IsListed x cs → clause_of all ≡ clause_of (x ∷ each_variable cs) → IsPermutation all sorted → IsSorted nat_cmp sorted
    → dedup eqb sorted ≡ neighbourhood cs x
sorted-neighbourhood x cs all sorted l e p s =
    dedup-clause_of all sorted p s ∙ e ∙ set-again x (each_variable cs)
    ∙ ap (λ (ds : List Named). clause_of (x ∷ variables_in ds)) (sym (all-occur x cs l))

pub few-neighbours : (x : ℕ) (cs : List Named) (all : List ℕ) → IsListed x cs → clause_of all ≡ clause_of (x ∷ each_variable cs) → All (λ (y : ℕ). (1 ≤ y) × (y ≤ 2000000)) all → length (neighbourhood cs x) ≤ 2000000
few-neighbours x cs all l e r =
    let same : neighbourhood cs x ≡ clause_of all = ap (λ (ds : List Named). clause_of (x ∷ variables_in ds)) (all-occur x cs l) ∙ sym (set-again x (each_variable cs)) ∙ sym e in
    let n : length (clause_of all) ≤ 2000001 - 1 = length-ascending (clause_of all) 1 2000001 (IsAscending-clause_of all)
    (λ y m. let b = All-contains (λ (y : ℕ). (1 ≤ y) × (y ≤ 2000000)) all y r (of_clause_of all y m) in (b.0, omega arith)) in
    subst (λ (ys : List ℕ). length ys ≤ 2000000) (sym same) (omega arith)

-- the clauses are of the formula's variables
neighbour-within : (f : Base) (x : ℕ) (cs : List Named) → AreClausesAt f x cs → 1 ≤ x → x ≤ f.formula.variables → (y : ℕ) → Contains (neighbourhood cs x) y → (1 ≤ y) × (y ≤ f.formula.variables)
neighbour-within f x cs is low high y m = elim (in_cases y x (variables_in (occurrences cs x)) (of_clause_of (x ∷ variables_in (occurrences cs x)) y m)) [
  | inl e ↦ (omega arith, omega arith)
  | inr j ↦
      let g : Formula = (folded f.formula is.0).formula in
      let kept = journal-formula f.formula f.rules is.0 is.1.0 is.1.1 in
      let a = of_flat_map (λ (c : Named). map variable_of c.clause) (occurrences cs x) y (of_clause_of (each_variable (occurrences cs x)) y j) in
      let b = of_map variable_of a.0.clause y a.2 in
      let here = (of_filter (λ (c : Named). has_variable x c.clause) cs a.0 a.1).0 in
      let there = (of_filter (λ (c : Named). has_variable x c.clause) g.clauses a.0 (subst (λ (ds : List Named). Contains ds a.0) is.2 here)).0 in
      let w = All-contains (λ (c : Named). IsWithin g.variables c.clause) g.clauses a.0 kept.0.within there in
      let p : 0 < variable_of b.0 = ltb-true 0 (variable_of b.0) (all_at (λ l. nat_lt 0 (variable_of l)) a.0.clause b.0 w.0 b.1) in
      let q : variable_of b.0 < g.variables + 1 = ltb-true (variable_of b.0) (g.variables + 1) (all_at (λ l. nat_lt (variable_of l) (g.variables + 1)) a.0.clause b.0 w.1 b.1) in
      let v : variable_of b.0 ≡ y = b.2 in
      let n : g.variables ≡ f.formula.variables = kept.1 in
      (omega arith, omega arith)
]

pub neighbours-within : (f : Base) (x : ℕ) (cs : List Named) → AreClausesAt f x cs → 1 ≤ x → x ≤ f.formula.variables → All (λ (y : ℕ). (1 ≤ y) × (y ≤ f.formula.variables)) (neighbourhood cs x)
neighbours-within f x cs is low high k d l = neighbour-within f x cs is low high (get_or (neighbourhood cs x) k d) (Contains-get_or (neighbourhood cs x) k d l)

-- the variable of the next literal is appended
pub pushed-set : (items start lits : List ℕ) (at d : ℕ) → at < length lits → clause_of items ≡ clause_of (start ++ map variable_of (take at lits))
    → clause_of (items ++ variable_of (get_or lits at d) ∷ []) ≡ clause_of (start ++ map variable_of (take (at + 1) lits))
pushed-set items start lits at d near e =
    let next : List ℕ = variable_of (get_or lits at d) ∷ [] in
    set-append items (start ++ map variable_of (take at lits)) next e
    ∙ ap clause_of (append_assoc start (map variable_of (take at lits)) next
    ∙ ap (λ (xs : List ℕ). start ++ xs) (sym (map-append variable_of (take at lits) (get_or lits at d ∷ [])) ∙ ap (map variable_of) (sym (take_more lits at d near))))

-- it is there already
pub kept-set : (items start lits : List ℕ) (at d : ℕ) → at < length lits → Contains items (variable_of (get_or lits at d)) → clause_of items ≡ clause_of (start ++ map variable_of (take at lits))
    → clause_of items ≡ clause_of (start ++ map variable_of (take (at + 1) lits))
kept-set items start lits at d near h e = sym (set-repeat items (variable_of (get_or lits at d)) h) ∙ pushed-set items start lits at d near e
