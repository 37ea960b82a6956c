-- One try of a neighbourhood: which locks it got, in order, and what ended it. n is how many posts the seat had made, which a try doesn't change.
use Rattle.std.specs.Prelude.{◌≡◌, ◌⊎◌, ℕ, ◌<◌, ◌≤◌, ◌==◌, not, Result, Ok, Err, List, [], ◌∷◌, ◌++◌, map, length}
use Rattle.std.specs.List.{filter}
use Rattle.cp_logic.specs.declared.named.Named.{Named}
use Rattle.cp_logic.specs.Formulas.{neighbourhood}
use Rattle.cp_occ.specs.Cells.{CellView, variables_of}
use Rattle.cp_yard.specs.Views.{Note, Got, Met}
use Rattle.cp_hood.specs.declared.answers.HoodAnswer.{HoodAnswer}
use Rattle.cp_hood.specs.declared.answers.HoodAnswer.TheVariants.{Busy, Wide, NoMemory}
use Rattle.cp_hood.specs.Hoods.{HoodView, centre_clauses}

-- the variables other than x, and the cells of such variables
abbrev pub other_variables : ℕ → List ℕ → List ℕ
other_variables x xs = filter (λ y. not (y == x)) xs

abbrev pub other_cells : ℕ → List CellView → List CellView
other_cells x cells = filter (λ c. not (c.variable == x)) cells

-- the notes of the locks of these cells
abbrev pub gots : ℕ → List CellView → List Note
gots n cells = map (λ c. Got c.variable c.clauses n) cells

-- the whole neighbourhood was got: x first, and then the others upwards
pub record IsWhole (x limit n : ℕ) (noted : List Note) (h : HoodView) : Type 0 where
  pub centre : h.centre ≡ x
  pub variables : variables_of h.cells ≡ neighbourhood (centre_clauses h) x
  pub within : length h.cells ≤ limit
  pub notes : noted ≡ Got x (centre_clauses h) n ∷ gots n (other_cells x h.cells)

-- seat `by` was met at `var`: at x itself; or x was got, which has a neighbourhood within the limit, and of its other variables
-- those below var were got
abbrev pub IsCut : ℕ → ℕ → ℕ → List Note → ℕ → ℕ → Type 0
IsCut x limit n notes var by =
    ((var ≡ x) × (notes ≡ Met x by ∷ []))
    ⊎ ((cs : List Named) × (got : List CellView) × (left : List ℕ)
    × (length (neighbourhood cs x) ≤ limit)
    × (variables_of got ++ var ∷ left ≡ other_variables x (neighbourhood cs x))
    × (notes ≡ Got x cs n ∷ (gots n got ++ Met var by ∷ [])))

-- x was got, and its neighbourhood has this many variables, more than the limit
abbrev pub IsTooWide : ℕ → ℕ → ℕ → List Note → ℕ → Type 0
IsTooWide x limit n notes count = (cs : List Named) × (notes ≡ Got x cs n ∷ []) × (count ≡ length (neighbourhood cs x)) × (limit < count)

-- what the notes of one try of the neighbourhood of x have to do with its answer
abbrev pub IsTry : ℕ → ℕ → ℕ → List Note → Result HoodView HoodAnswer → Type 0
IsTry x limit n notes (Ok h) = IsWhole x limit n notes h
IsTry x limit n notes (Err (Busy var by)) = IsCut x limit n notes var by
IsTry x limit n notes (Err (Wide count)) = IsTooWide x limit n notes count
IsTry x limit n notes (Err NoMemory) = Unit {0}
