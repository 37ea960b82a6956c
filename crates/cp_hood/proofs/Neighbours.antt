-- The locks of a neighbourhood: those of the variables below the centre, the centre, and those above it.
use Rattle.std.proofs.Common.{◌≡◌, ℕ, suc, ◌<◌, ◌≤◌, Bool, true, false, cond, not, eqb, List, [], ◌∷◌, ◌++◌, length, get_or, Some, None, refl, sym, ap, ◌∙◌, subst, inl, inr, arith, append_assoc, append-nil, length-append}
use Rattle.std.proofs.Math.Seq.{get_or-append_seam}
use lib.ListN.{length-map}
use Rattle.std.specs.Prelude.{◌==◌}
use Rattle.std.specs.List.{Contains, filter}
use Rattle.std.proofs.lemmas.Bool.{eq-eqb, ne_eqb, not_from_false, cases_eq}
use Rattle.std.proofs.lemmas.List.{map-append}
use Rattle.std.proofs.lemmas.List.Elements.{All-push, All-contains, filter-append, Contains-append_left, Contains-append_right}
use Rattle.cp_logic.specs.declared.named.Named.{Named}
use Rattle.cp_logic.specs.Clauses.{contains, has_variable, IsAscending}
use Rattle.cp_logic.specs.Formulas.{occurrences, variables_in, neighbourhood}
use Rattle.cp_logic.proofs.Members.{none_in, in_here, in_later, in_cases, in_map, contains-in, in_contains}
use Rattle.cp_logic.proofs.Ascending.{below_others, IsAscending-cons, IsAscending-push}
use Rattle.cp_logic.proofs.SetFacts.{in_clause_of}
use Rattle.cp_logic.proofs.Eliminations.{filter_all}
use Rattle.cp_occ.specs.Cells.{CellView, IsOf, IsListed, variables_of}
use Rattle.cp_yard.specs.Views.{Note, Got, Met, SeatView, held_of, lock, noted, with_lock}
use Rattle.cp_yard.proofs.Lists.{held_of-same, held_of-other}
use Rattle.cp_hood.specs.Hoods.{listed_of, clauses_at_home, Covers, HoldsJust}
use Rattle.cp_hood.specs.Seats.{with_locks}
use Rattle.cp_hood.specs.Tries.{other_variables, other_cells, gots, IsWhole, IsCut}
use Rattle.cp_hood.proofs.Holding.{listed-here, listed-later, listed-front, listed-last}

-- ---- ascending lists in parts

pub ascends-front : (xs ys : List ℕ) → IsAscending (xs ++ ys) → IsAscending xs
ascends-front [] ys a = tt
ascends-front (x ∷ xs) ys a = IsAscending-cons x xs (λ y m. below_others x (xs ++ ys) y a (Contains-append_left xs ys y m)) (ascends-front xs ys a.1)

pub ascends-back : (xs ys : List ℕ) → IsAscending (xs ++ ys) → IsAscending ys
ascends-back [] ys a = a
ascends-back (x ∷ xs) ys a = ascends-back xs ys a.1

pub below-seam : (xs : List ℕ) (x : ℕ) (ys : List ℕ) (y : ℕ) → IsAscending (xs ++ x ∷ ys) → Contains xs y → y < x
below-seam [] x ys y a m = absurd (none_in y m)
below-seam (z ∷ zs) x ys y a m = elim (in_cases y z zs m) [
  | inl e ↦ let b : z < x = below_others z (zs ++ x ∷ ys) x a (Contains-append_right zs (x ∷ ys) x (in_here x x ys refl)) in omega arith
  | inr j ↦ below-seam zs x ys y a.1 j
]

pub above-seam : (xs : List ℕ) (x : ℕ) (ys : List ℕ) (y : ℕ) → IsAscending (xs ++ x ∷ ys) → Contains ys y → x < y
above-seam xs x ys y a m = below_others x ys y (ascends-back xs (x ∷ ys) a) m

-- ---- what is held after a row

pub listed-absent : (y : ℕ) (cells : List CellView) → (Contains (variables_of cells) y → ⊥) → listed_of y cells ≡ None
listed-absent y [] n = refl
listed-absent y (c ∷ cs) n = listed-later y c cs (λ e. n (in_here y c.variable (variables_of cs) e)) ∙ listed-absent y cs (λ m. n (in_later y c.variable (variables_of cs) m))

listed-back : (y : ℕ) (cells bs : List CellView) → listed_of y cells ≡ None → listed_of y (cells ++ bs) ≡ listed_of y bs
listed-back y [] bs n = refl
listed-back y (c ∷ cs) bs n = go (eqb c.variable y) n (listed-back y cs bs)
  where
    go : (b : Bool) → cond b (Some c.clauses) (listed_of y cs) ≡ None → (listed_of y cs ≡ None → listed_of y (cs ++ bs) ≡ listed_of y bs) → cond b (Some c.clauses) (listed_of y (cs ++ bs)) ≡ listed_of y bs
    go true m more = cc
    go false m more = more m

-- one lock more
pub HoldsJust-locked : (v : SeatView) (cells : List CellView) (c : CellView) → HoldsJust v cells → listed_of c.variable cells ≡ None → c.variable ≤ v.base.formula.variables
    → HoldsJust (with_lock c.variable c.clauses v) (cells ++ c ∷ [])
HoldsJust-locked v cells c h n r = record {
  turn = h.turn;
  range = All-push (λ (z : CellView). z.variable ≤ v.base.formula.variables) cells c h.range r;
  held = λ y. elim (cases_eq y c.variable) [
    | inl e ↦ ap (λ (z : ℕ). held_of z (lock c.variable c.clauses ∷ v.held)) e ∙ held_of-same c.variable c.clauses v.held
        ∙ sym (ap (λ (z : ℕ). listed_of z (cells ++ c ∷ [])) e ∙ listed-back c.variable cells (c ∷ []) n ∙ listed-here c.variable c [] refl)
    | inr ne ↦ held_of-other c.variable y c.clauses v.held ne ∙ h.held y ∙ sym (listed-front y cells c (λ e. ne (sym e)))
  ];
}

pub HoldsJust-locks : (got : List CellView) (v : SeatView) (cells : List CellView) → HoldsJust v cells → IsAscending (variables_of got)
    → ((y : ℕ) → Contains (variables_of got) y → (listed_of y cells ≡ None) × (y ≤ v.base.formula.variables)) → HoldsJust (with_locks got v) (cells ++ got)
HoldsJust-locks [] v cells h a f = subst (HoldsJust v) (sym (append-nil cells)) h
HoldsJust-locks (d ∷ ds) v cells h a f =
    let w : SeatView = with_lock d.variable d.clauses v in
    let first = f d.variable (in_here d.variable d.variable (variables_of ds) refl) in
    subst (HoldsJust (with_locks ds w)) (append_assoc cells (d ∷ []) ds)
    (HoldsJust-locks ds w (cells ++ d ∷ []) (HoldsJust-locked v cells d h first.0 first.1) a.1
    (λ y m. let r = f y (in_later y d.variable (variables_of ds) m) in let b : d.variable < y = below_others d.variable (variables_of ds) y a m in
    (listed-front y cells d (λ e. omega arith) ∙ r.0, r.1)))

pub HoldsJust-noted : (n : Note) (v : SeatView) (cells : List CellView) → HoldsJust v cells → HoldsJust (noted n v) cells
HoldsJust-noted n v cells h = record { turn = h.turn; range = h.range; held = h.held }

-- the centre's cell, after those of lesser variables
pub home-seam : (got : List CellView) (c : CellView) (more : List CellView) → ((d : CellView) → Contains got d → d.variable < c.variable) → clauses_at_home c.variable ((got ++ c ∷ []) ++ more) ≡ c.clauses
home-seam [] c more h = ap (λ (b : Bool). cond b c.clauses (clauses_at_home c.variable more)) (eq-eqb c.variable c.variable refl)
home-seam (d ∷ ds) c more h = let l : d.variable < c.variable = h d (in_here d d ds refl) in
    ap (λ (b : Bool). cond b d.clauses (clauses_at_home c.variable ((ds ++ c ∷ []) ++ more))) (ne_eqb d.variable c.variable (λ e. omega arith))
    ∙ home-seam ds c more (λ z m. h z (in_later z d ds m))

-- ---- the variables of a neighbourhood

pub all-occur : (x : ℕ) (cs : List Named) → IsListed x cs → occurrences cs x ≡ cs
all-occur x cs l = filter_all (λ (d : Named). has_variable x d.clause) cs (λ d m. (All-contains (IsOf x) cs d l.have m).has)

pub neighbour : (x : ℕ) (cs : List Named) (y : ℕ) → IsListed x cs → Contains (variables_in cs) y → Contains (neighbourhood cs x) y
neighbour x cs y l m = in_clause_of (x ∷ variables_in (occurrences cs x)) y
    (in_later y x (variables_in (occurrences cs x)) (subst (λ (ds : List Named). Contains (variables_in ds) y) (sym (all-occur x cs l)) m))

pub centre-is_near : (x : ℕ) (cs : List Named) → Contains (neighbourhood cs x) x
centre-is_near x cs = in_clause_of (x ∷ variables_in (occurrences cs x)) x (in_here x x (variables_in (occurrences cs x)) refl)

-- ---- the centre, between

module _ (c : CellView) (low high : List ℕ) (a : IsAscending (low ++ c.variable ∷ high)) where
  pub low-ascends : IsAscending low
  low-ascends = ascends-front low (c.variable ∷ high) a

  pub high-ascends : IsAscending high
  high-ascends = (ascends-back low (c.variable ∷ high) a).1

  others-are : other_variables c.variable (low ++ c.variable ∷ high) ≡ low ++ high
  others-are = filter-append (λ (y : ℕ). not (y == c.variable)) low (c.variable ∷ high)
      ∙ (λ i. kept-low i ++ here i)
    where
      kept-low : filter (λ (y : ℕ). not (y == c.variable)) low ≡ low
      kept-low = filter_all (λ (y : ℕ). not (y == c.variable)) low (λ y m. let b : y < c.variable = below-seam low c.variable high y a m in not_from_false (eqb y c.variable) (ne_eqb y c.variable (λ e. omega arith)))

      here : filter (λ (y : ℕ). not (y == c.variable)) (c.variable ∷ high) ≡ high
      here = ap (λ (b : Bool). cond (not b) (c.variable ∷ filter (λ (y : ℕ). not (y == c.variable)) high) (filter (λ (y : ℕ). not (y == c.variable)) high)) (eq-eqb c.variable c.variable refl)
          ∙ filter_all (λ (y : ℕ). not (y == c.variable)) high (λ y m. let b : c.variable < y = above-seam low c.variable high y a m in not_from_false (eqb y c.variable) (ne_eqb y c.variable (λ e. omega arith)))

  -- the cells of variables below, of the centre, and of variables above
  module _ (got : List CellView) (rest : List ℕ) (is : variables_of got ++ rest ≡ low) where
    in-low : (y : ℕ) → Contains (variables_of got) y → Contains low y
    in-low y m = subst (λ (xs : List ℕ). Contains xs y) is (Contains-append_left (variables_of got) rest y m)

    below-centre : (y : ℕ) → Contains (variables_of got) y → y < c.variable
    below-centre y m = below-seam low c.variable high y a (in-low y m)

    got-ascends : IsAscending (variables_of got)
    got-ascends = ascends-front (variables_of got) rest (subst IsAscending (sym is) low-ascends)

    pub below-ascends : IsAscending (variables_of (got ++ c ∷ []))
    below-ascends = subst IsAscending (sym (map-append (λ (z : CellView). z.variable) got (c ∷ [])))
        (IsAscending-push (variables_of got) c.variable got-ascends below-centre)

    pub below-held : (v : SeatView) → HoldsJust v (c ∷ []) → ((y : ℕ) → Contains low y → y ≤ v.base.formula.variables) → HoldsJust (with_locks got v) (got ++ c ∷ [])
    below-held v h r =
        let one = HoldsJust-locks got v (c ∷ []) h got-ascends (λ y m. let b = below-centre y m in (listed-later y c [] (λ e. omega arith), r y (in-low y m))) in record {
          turn = one.turn;
          range = All-push (λ (z : CellView). z.variable ≤ (with_locks got v).base.formula.variables) got c (λ k d l. one.range (suc k) d (omega arith)) (one.range 0 c (omega arith));
          held = λ y. one.held y ∙ turned y;
        }
      where
        turned : (y : ℕ) → listed_of y (c ∷ got) ≡ listed_of y (got ++ c ∷ [])
        turned y = elim (cases_eq c.variable y) [
          | inl e ↦ listed-here y c got e ∙ sym (ap (λ (z : ℕ). listed_of z (got ++ c ∷ [])) (sym e) ∙ listed-last got c below-ascends)
          | inr ne ↦ listed-later y c got ne ∙ sym (listed-front y got c ne)
        ]

  pub low-cut : (got : List CellView) (left : List ℕ) (var by limit n : ℕ) → variables_of got ++ var ∷ left ≡ low
      → low ++ c.variable ∷ high ≡ neighbourhood c.clauses c.variable → length (low ++ c.variable ∷ high) ≤ limit
      → IsCut c.variable limit n (Got c.variable c.clauses n ∷ (gots n got ++ Met var by ∷ [])) var by
  low-cut got left var by limit n is near small = inr (
    c.clauses,
    got,
    left ++ high,
    subst (λ (xs : List ℕ). length xs ≤ limit) near small,
    sym (append_assoc (variables_of got) (var ∷ left) high) ∙ (ap (λ (xs : List ℕ). xs ++ high) is ∙ (sym others-are ∙ ap (other_variables c.variable) near)),
    refl,
  )

  high-absent : (got : List CellView) → variables_of got ≡ low → (y : ℕ) → Contains high y → listed_of y (got ++ c ∷ []) ≡ None
  high-absent got is y m = let b : c.variable < y = above-seam low c.variable high y a m in listed-front y got c (λ e. omega arith)
      ∙ listed-absent y got (λ i. let d : y < c.variable = below-seam low c.variable high y a (subst (λ (xs : List ℕ). Contains xs y) is i) in absurd (omega arith))

  module _ (got : List CellView) (is : variables_of got ≡ low) (more : List CellView) where
    module _ (rest : List ℕ) (are : variables_of more ++ rest ≡ high) where
      in-high : (y : ℕ) → Contains (variables_of more) y → Contains high y
      in-high y m = subst (λ (xs : List ℕ). Contains xs y) are (Contains-append_left (variables_of more) rest y m)

      variables-are : variables_of ((got ++ c ∷ []) ++ more) ++ rest ≡ low ++ c.variable ∷ high
      variables-are = ap (λ (xs : List ℕ). xs ++ rest) (map-append (λ (z : CellView). z.variable) (got ++ c ∷ []) more
          ∙ ap (λ (xs : List ℕ). xs ++ variables_of more) (map-append (λ (z : CellView). z.variable) got (c ∷ []) ∙ ap (λ (xs : List ℕ). xs ++ c.variable ∷ []) is)
          ∙ append_assoc low (c.variable ∷ []) (variables_of more))
          ∙ append_assoc low (c.variable ∷ variables_of more) rest ∙ ap (λ (xs : List ℕ). low ++ c.variable ∷ xs) are

      pub above-ascends : IsAscending (variables_of ((got ++ c ∷ []) ++ more))
      above-ascends = ascends-front (variables_of ((got ++ c ∷ []) ++ more)) rest (subst IsAscending (sym variables-are) a)

      pub above-held : (v : SeatView) → HoldsJust v (got ++ c ∷ []) → ((y : ℕ) → Contains high y → y ≤ v.base.formula.variables) → HoldsJust (with_locks more v) ((got ++ c ∷ []) ++ more)
      above-held v h r = HoldsJust-locks more v (got ++ c ∷ []) h (ascends-front (variables_of more) rest (subst IsAscending (sym are) high-ascends))
          (λ y m. (high-absent got is y (in-high y m), r y (in-high y m)))

      pub high-cut : (left : List ℕ) (var by limit n : ℕ) → rest ≡ var ∷ left
          → low ++ c.variable ∷ high ≡ neighbourhood c.clauses c.variable → length (low ++ c.variable ∷ high) ≤ limit
          → IsCut c.variable limit n (Got c.variable c.clauses n ∷ (gots n got ++ (gots n more ++ Met var by ∷ []))) var by
      high-cut left var by limit n e near small = inr (
        c.clauses,
        got ++ more,
        left,
        subst (λ (xs : List ℕ). length xs ≤ limit) near small,
        ap (λ (xs : List ℕ). xs ++ var ∷ left) (map-append (λ (z : CellView). z.variable) got more) ∙ append_assoc (variables_of got) (variables_of more) (var ∷ left)
            ∙ ((λ i. is i ++ (ap (λ (xs : List ℕ). variables_of more ++ xs) (sym e) ∙ are) i) ∙ (sym others-are ∙ ap (other_variables c.variable) near)),
        ap (λ (ns : List Note). Got c.variable c.clauses n ∷ ns) (sym (append_assoc (gots n got) (gots n more) (Met var by ∷ [])) ∙ ap (λ (ns : List Note). ns ++ Met var by ∷ []) (sym (map-append (λ (d : CellView). Got d.variable d.clauses n) got more))),
      )

    other-cells : variables_of more ≡ high → other_cells c.variable ((got ++ c ∷ []) ++ more) ≡ got ++ more
    other-cells are = filter-append differs (got ++ c ∷ []) more
        ∙ (ap (λ (ds : List CellView). ds ++ filter differs more) (filter-append differs got (c ∷ []) ∙ (λ i. kept i ++ dropped i) ∙ append-nil got)
        ∙ ap (λ (ds : List CellView). got ++ ds) later)
      where
        differs : CellView → Bool
        differs d = not (d.variable == c.variable)

        kept : filter differs got ≡ got
        kept = filter_all differs got (λ d m. let b : d.variable < c.variable = below-seam low c.variable high d.variable a (subst (λ (xs : List ℕ). Contains xs d.variable) is (in_map (λ (z : CellView). z.variable) got d m)) in
            not_from_false (eqb d.variable c.variable) (ne_eqb d.variable c.variable (λ e. omega arith)))

        dropped : filter differs (c ∷ []) ≡ []
        dropped = ap (λ (b : Bool). cond (not b) (c ∷ []) []) (eq-eqb c.variable c.variable refl)

        later : filter differs more ≡ more
        later = filter_all differs more (λ d m. let b : c.variable < d.variable = above-seam low c.variable high d.variable a (subst (λ (xs : List ℕ). Contains xs d.variable) are (in_map (λ (z : CellView). z.variable) more d m)) in
            not_from_false (eqb d.variable c.variable) (ne_eqb d.variable c.variable (λ e. omega arith)))

    -- all were got
    pub whole : (x limit n : ℕ) → x ≡ c.variable → variables_of more ≡ high → low ++ c.variable ∷ high ≡ neighbourhood c.clauses c.variable → length (low ++ c.variable ∷ high) ≤ limit
        → IsWhole c.variable limit n (Got c.variable c.clauses n ∷ (gots n got ++ gots n more)) (record { centre = x; cells = (got ++ c ∷ []) ++ more })
    whole x limit n e are near small =
        let cells : List CellView = (got ++ c ∷ []) ++ more in
        let home : clauses_at_home x cells ≡ c.clauses = ap (λ (z : ℕ). clauses_at_home z cells) e ∙ home-seam got c more (λ d m. below-seam low c.variable high d.variable a (subst (λ (xs : List ℕ). Contains xs d.variable) is (in_map (λ (z : CellView). z.variable) got d m))) in
        let vars : variables_of cells ≡ low ++ c.variable ∷ high = sym (append-nil (variables_of cells)) ∙ variables-are [] (append-nil (variables_of more) ∙ are) in record {
          centre = e;
          variables = vars ∙ near ∙ ap (λ (cs : List Named). neighbourhood cs c.variable) (sym home);
          within = subst (λ (k : ℕ). k ≤ limit) (sym (ap length vars) ∙ length-map cells (λ (z : CellView). z.variable)) small;
          notes = ap (λ (cs : List Named). Got c.variable cs n ∷ (gots n got ++ gots n more)) (sym home)
              ∙ ap (λ (ns : List Note). Got c.variable (clauses_at_home x cells) n ∷ ns) (sym (map-append (λ (d : CellView). Got d.variable d.clauses n) got more) ∙ ap (gots n) (sym (other-cells are)));
        }

  pub high-free : (v : SeatView) (got : List CellView) → variables_of got ≡ low → HoldsJust v (got ++ c ∷ []) → (y : ℕ) → Contains high y → held_of y v.held ≡ None
  high-free v got is h y m = h.held y ∙ high-absent got is y m

  pub low-free : (v : SeatView) → HoldsJust v (c ∷ []) → (y : ℕ) → Contains low y → held_of y v.held ≡ None
  low-free v h y m = let b : y < c.variable = below-seam low c.variable high y a m in h.held y ∙ listed-later y c [] (λ e. omega arith)

  module _ (got : List CellView) (is : variables_of got ≡ low) (more : List CellView) (are : variables_of more ≡ high) where
    pub centre-within : length low < length ((got ++ c ∷ []) ++ more)
    centre-within = let n = length-append (got ++ c ∷ []) more in let m = length-append got (c ∷ []) in let k : length low ≡ length got = ap length (sym is) ∙ length-map got (λ (z : CellView). z.variable) in omega arith

    pub centre-at : (x : ℕ) → x ≡ c.variable → (d : CellView) → (get_or ((got ++ c ∷ []) ++ more) (length low) d).variable ≡ x
    centre-at x e d = let k : length low ≡ length got = ap length (sym is) ∙ length-map got (λ (z : CellView). z.variable) in
        ap (λ (n : ℕ). (get_or ((got ++ c ∷ []) ++ more) n d).variable) k
        ∙ ap (λ (ds : List CellView). (get_or ds (length got) d).variable) (append_assoc got (c ∷ []) more)
        ∙ ap (λ (z : CellView). z.variable) (get_or-append_seam got c more d) ∙ sym e

    pub centre-covers : (x : ℕ) → x ≡ c.variable → low ++ c.variable ∷ high ≡ neighbourhood c.clauses c.variable → IsListed c.variable c.clauses → Covers x ((got ++ c ∷ []) ++ more)
    centre-covers x e near l y m =
        let cells : List CellView = (got ++ c ∷ []) ++ more in
        let all : variables_of cells ≡ neighbourhood c.clauses c.variable = sym (append-nil (variables_of cells)) ∙ variables-are got is more [] (append-nil (variables_of more) ∙ are) ∙ near in
        let home : clauses_at_home x cells ≡ c.clauses = ap (λ (z : ℕ). clauses_at_home z cells) e ∙ home-seam got c more (λ d m. below-seam low c.variable high d.variable a (subst (λ (xs : List ℕ). Contains xs d.variable) is (in_map (λ (z : CellView). z.variable) got d m))) in
        let there : Contains (variables_in c.clauses) y = contains-in (variables_in c.clauses) y (ap (λ (cs : List Named). contains (variables_in cs) y) (sym home) ∙ m) in
        in_contains (variables_of cells) y (subst (λ (xs : List ℕ). Contains xs y) (sym all) (neighbour c.variable c.clauses y l there))
