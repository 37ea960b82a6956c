-- What became of the two rows of a neighbourhood: that of the variables below the centre, and that of those above it.
use Rattle.std.proofs.Common.{◌≡◌, ℕ, ◌+◌, ◌-◌, ◌<◌, ◌≤◌, List, [], ◌∷◌, ◌++◌, length, take, drop, get_or, None, refl, sym, ap, ◌∙◌, subst, append-nil}
use Rattle.std.specs.Prelude.{IsTrue}
use Rattle.std.specs.List.{All, Contains}
use Rattle.std.proofs.lemmas.List.Elements.{All-contains, Contains-append_left, Contains-append_right}
use Rattle.cp_logic.specs.Clauses.{contains, IsAscending}
use Rattle.cp_logic.specs.Formulas.{neighbourhood}
use Rattle.cp_logic.proofs.Members.{in_later, contains-in}
use Rattle.cp_logic.proofs.SetFacts.{IsAscending-clause_of}
use Rattle.cp_occ.specs.Cells.{CellView, IsListed, variables_of}
use Rattle.cp_yard.specs.Views.{Base, Note, Got, Met, SeatView, held_of, noted}
use Rattle.cp_hood.specs.declared.answers.HoodAnswer.{HoodAnswer}
use Rattle.cp_hood.specs.declared.answers.HoodAnswer.TheVariants.{Busy, Wide, NoMemory}
use Rattle.cp_hood.specs.Hoods.{Covers, HoldsJust}
use Rattle.cp_hood.specs.Seats.{GoesOn, with_locks}
use Rattle.cp_hood.specs.Rows.{IsRow, IsCutRow, IsRowAnswer}
use Rattle.cp_hood.specs.Tries.{gots, IsWhole, IsCut}
use Rattle.cp_hood.proofs.Going.{GoesOn-then, GoesOn-back, GoesOn-noted}
use Rattle.cp_hood.proofs.Rows.{GoesOn-locks, split-around}
use Rattle.cp_hood.proofs.Neighbours.{HoldsJust-noted, below-ascends, below-held, low-free, high-free, low-cut, high-cut, above-ascends, above-held, whole, centre-within, centre-at, centre-covers}

-- the seat holds the centre, and the variables of its neighbourhood are these, the centre and those
pub record Around (c : CellView) (low high vars : List ℕ) (v : SeatView) : Type 0 where
  pub split : vars ≡ low ++ c.variable ∷ high
  pub ascending : IsAscending (low ++ c.variable ∷ high)
  pub near : low ++ c.variable ∷ high ≡ neighbourhood c.clauses c.variable
  pub holds : HoldsJust v (c ∷ [])
  pub range : (y : ℕ) → Contains (low ++ c.variable ∷ high) y → y ≤ v.base.formula.variables

abbrev pub above : ℕ → List ℕ → List ℕ
above at vars = take (length vars - (at + 1)) (drop (at + 1) vars)

pub around : (c : CellView) (vars : List ℕ) (at x : ℕ) (v : SeatView) (f : Base) → vars ≡ neighbourhood c.clauses c.variable → at < length vars → get_or vars at 0 ≡ x → x ≡ c.variable
    → HoldsJust v (c ∷ []) → All (λ (y : ℕ). (1 ≤ y) × (y ≤ f.formula.variables)) vars → v.base ≡ f → Around c (take at vars) (above at vars) vars v
around c vars at x v f near l e q h r b =
    let split = split-around vars at c.variable l (e ∙ q) in record {
      split = split;
      ascending = subst IsAscending (sym near ∙ split) (IsAscending-clause_of _);
      near = sym split ∙ near;
      holds = h;
      range = λ y m. subst (λ (g : Base). y ≤ g.formula.variables) (sym b) (All-contains (λ (z : ℕ). (1 ≤ z) × (z ≤ f.formula.variables)) vars y r (subst (λ (xs : List ℕ). Contains xs y) (sym split) m)).1;
    }

-- not all were got because one was met
pub row-cut : (vars : List ℕ) (v w : SeatView) (before after : List CellView) (a : HoodAnswer) → IsRowAnswer vars v w before after a → (var by : ℕ) × (a ≡ Busy var by) × IsCutRow vars v w before after var by
row-cut vars v w before after (Busy var by) r = (var, by, refl, r)
row-cut vars v w before after (Wide count) r = absurd r
row-cut vars v w before after NoMemory r = absurd r

-- with some notes it came to this answer, and the seat had made so many posts
abbrev pub ComesTo : CellView → List ℕ → SeatView → SeatView → (ℕ → ℕ → List Note → Type 0) → Type 0
ComesTo c vars v w P = let n : ℕ = length v.own.posts in
    (notes : List Note) × GoesOn v w notes [] × ((limit : ℕ) → length vars ≤ limit → P limit n (Got c.variable c.clauses n ∷ notes))

-- a row of locks, of a seat that had made so many posts
row-goes : (n : ℕ) (got : List CellView) (v w : SeatView) → length v.own.posts ≡ n → w ≡ with_locks got v → GoesOn v w (gots n got) []
row-goes n got v w e is = subst (λ (p : ℕ × SeatView). GoesOn v p.1 (gots p.0 got) []) (λ i. (e i, sym is i)) (GoesOn-locks got v)

cut-goes : (n : ℕ) (got : List CellView) (v w : SeatView) (var by : ℕ) → length v.own.posts ≡ n → w ≡ noted (Met var by) (with_locks got v) → GoesOn v w (gots n got ++ Met var by ∷ []) []
cut-goes n got v w var by e is = subst (λ (s : SeatView). GoesOn v s (gots n got ++ Met var by ∷ []) []) (sym is)
    (GoesOn-then v (with_locks got v) (noted (Met var by) (with_locks got v)) (gots n got) (Met var by ∷ []) [] [] (row-goes n got v (with_locks got v) e refl) (GoesOn-noted (Met var by) (with_locks got v)))

module _ (c : CellView) (low high vars : List ℕ) (v : SeatView) (a : Around c low high vars v) where
  -- how many posts the seat had made
  abbrev made : ℕ
  made = length v.own.posts

  small : (limit : ℕ) → length vars ≤ limit → length (low ++ c.variable ∷ high) ≤ limit
  small limit l = subst (λ (xs : List ℕ). length xs ≤ limit) a.split l

  low-range : (y : ℕ) → Contains low y → y ≤ v.base.formula.variables
  low-range y m = a.range y (Contains-append_left low (c.variable ∷ high) y m)

  pub low-is_free : (y : ℕ) → IsTrue (contains low y) → held_of y v.held ≡ None
  low-is_free y t = low-free c low high a.ascending v a.holds y (contains-in low y t)

  module _ (w : SeatView) (before cells pushed : List CellView) (none : before ≡ []) (push : pushed ≡ cells ++ c ∷ []) where
    pushed-is : (got : List CellView) → cells ≡ before ++ got → pushed ≡ got ++ c ∷ []
    pushed-is got e = push ∙ ap (λ (ds : List CellView). ds ++ c ∷ []) (e ∙ ap (λ (ds : List CellView). ds ++ got) none)

    module _ (var by : ℕ) (r : IsCutRow low v w before cells var by) where
      pub low-cut_ascends : IsAscending (variables_of pushed)
      low-cut_ascends = subst (λ (ds : List CellView). IsAscending (variables_of ds)) (sym (pushed-is r.got r.cells)) (below-ascends c low high a.ascending r.got (var ∷ r.left) r.variables)

      pub low-cut_holds : HoldsJust w pushed
      low-cut_holds = subst (λ (ds : List CellView). HoldsJust w ds) (sym (pushed-is r.got r.cells))
          (subst (λ (s : SeatView). HoldsJust s (r.got ++ c ∷ [])) (sym r.seat)
          (HoldsJust-noted (Met var by) (with_locks r.got v) (r.got ++ c ∷ []) (below-held c low high a.ascending r.got (var ∷ r.left) r.variables v a.holds low-range)))

      low-cut_goes : GoesOn v w (gots made r.got ++ Met var by ∷ []) []
      low-cut_goes = cut-goes made r.got v w var by refl r.seat

      pub low-cut_base : w.base ≡ v.base
      low-cut_base = low-cut_goes.base

      pub low-cut_comes : (u : SeatView) → GoesOn w u [] [] → ComesTo c vars v u (λ limit n notes. IsCut c.variable limit n notes var by)
      low-cut_comes u g = (
        gots made r.got ++ Met var by ∷ [],
        GoesOn-back v w u (gots made r.got ++ Met var by ∷ []) [] low-cut_goes g,
        λ limit l. low-cut c low high a.ascending r.got r.left var by limit made r.variables a.near (small limit l),
      )

    module _ (r : IsRow low v w before cells) where
      whole-low : variables_of r.got ++ [] ≡ low
      whole-low = append-nil (variables_of r.got) ∙ r.variables

      low-goes : GoesOn v w (gots made r.got) []
      low-goes = row-goes made r.got v w refl r.seat

      still-made : length w.own.posts ≡ made
      still-made = ap length (low-goes.posts ∙ append-nil v.own.posts)

      low-held : HoldsJust w (r.got ++ c ∷ [])
      low-held = subst (λ (s : SeatView). HoldsJust s (r.got ++ c ∷ [])) (sym r.seat) (below-held c low high a.ascending r.got [] whole-low v a.holds low-range)

      high-range : (y : ℕ) → Contains high y → y ≤ w.base.formula.variables
      high-range y m = subst (λ (f : Base). y ≤ f.formula.variables) (sym low-goes.base) (a.range y (Contains-append_right low (c.variable ∷ high) y (in_later y c.variable high m)))

      pub high-is_free : (y : ℕ) → IsTrue (contains high y) → held_of y w.held ≡ None
      high-is_free y t = high-free c low high a.ascending w r.got r.variables low-held y (contains-in high y t)

      module _ (u : SeatView) (after : List CellView) (var by : ℕ) (s : IsCutRow high w u pushed after var by) where
        after-is : after ≡ (r.got ++ c ∷ []) ++ s.got
        after-is = s.cells ∙ ap (λ (ds : List CellView). ds ++ s.got) (pushed-is r.got r.cells)

        pub high-cut_ascends : IsAscending (variables_of after)
        high-cut_ascends = subst (λ (ds : List CellView). IsAscending (variables_of ds)) (sym after-is) (above-ascends c low high a.ascending r.got r.variables s.got (var ∷ s.left) s.variables)

        pub high-cut_holds : HoldsJust u after
        high-cut_holds = subst (λ (ds : List CellView). HoldsJust u ds) (sym after-is)
            (subst (λ (t : SeatView). HoldsJust t ((r.got ++ c ∷ []) ++ s.got)) (sym s.seat)
            (HoldsJust-noted (Met var by) (with_locks s.got w) ((r.got ++ c ∷ []) ++ s.got) (above-held c low high a.ascending r.got r.variables s.got (var ∷ s.left) s.variables w low-held high-range)))

        high-cut_goes : GoesOn v u (gots made r.got ++ (gots made s.got ++ Met var by ∷ [])) []
        high-cut_goes = GoesOn-then v w u (gots made r.got) (gots made s.got ++ Met var by ∷ []) [] [] low-goes (cut-goes made s.got w u var by still-made s.seat)

        pub high-cut_base : u.base ≡ v.base
        high-cut_base = high-cut_goes.base

        pub high-cut_comes : (t : SeatView) → GoesOn u t [] [] → ComesTo c vars v t (λ limit n notes. IsCut c.variable limit n notes var by)
        high-cut_comes t g = (
          gots made r.got ++ (gots made s.got ++ Met var by ∷ []),
          GoesOn-back v u t (gots made r.got ++ (gots made s.got ++ Met var by ∷ [])) [] high-cut_goes g,
          λ limit l. high-cut c low high a.ascending r.got r.variables s.got (var ∷ s.left) s.variables s.left var by limit made refl a.near (small limit l),
        )

      module _ (u : SeatView) (after : List CellView) (s : IsRow high w u pushed after) where
        all-is : after ≡ (r.got ++ c ∷ []) ++ s.got
        all-is = s.cells ∙ ap (λ (ds : List CellView). ds ++ s.got) (pushed-is r.got r.cells)

        whole-high : variables_of s.got ++ [] ≡ high
        whole-high = append-nil (variables_of s.got) ∙ s.variables

        pub all-held : HoldsJust u after
        all-held = subst (λ (ds : List CellView). HoldsJust u ds) (sym all-is)
            (subst (λ (t : SeatView). HoldsJust t ((r.got ++ c ∷ []) ++ s.got)) (sym s.seat) (above-held c low high a.ascending r.got r.variables s.got [] whole-high w low-held high-range))

        pub all-comes : (x : ℕ) → x ≡ c.variable → ComesTo c vars v u (λ limit n notes. IsWhole c.variable limit n notes (record { centre = x; cells = after }))
        all-comes x e = (
          gots made r.got ++ gots made s.got,
          GoesOn-then v w u (gots made r.got) (gots made s.got) [] [] low-goes (row-goes made s.got w u still-made s.seat),
          λ limit l. subst (λ (ds : List CellView). IsWhole c.variable limit made (Got c.variable c.clauses made ∷ (gots made r.got ++ gots made s.got)) (record { centre = x; cells = ds })) (sym all-is)
              (whole c low high a.ascending r.got r.variables s.got x limit made e s.variables a.near (small limit l)),
        )

        -- what the type of hoods asks
        pub all-fits : (x : ℕ) → x ≡ c.variable → IsListed c.variable c.clauses
            → (length low < length after) × ((d : CellView) → (get_or after (length low) d).variable ≡ x) × IsAscending (variables_of after) × Covers x after
        all-fits x e l = subst (λ (ds : List CellView). (length low < length ds) × ((d : CellView) → (get_or ds (length low) d).variable ≡ x) × IsAscending (variables_of ds) × Covers x ds) (sym all-is) (
          centre-within c low high a.ascending r.got r.variables s.got s.variables,
          centre-at c low high a.ascending r.got r.variables s.got s.variables x e,
          above-ascends c low high a.ascending r.got r.variables s.got [] whole-high,
          centre-covers c low high a.ascending r.got r.variables s.got s.variables x e a.near l,
        )
