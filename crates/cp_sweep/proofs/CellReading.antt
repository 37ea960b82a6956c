-- The cell of a variable, read out of the cells of a formula.
use Rattle.std.proofs.Common.{◌≡◌, ℕ, ◌+◌, ◌-◌, ◌<◌, ◌≤◌, Bool, true, false, cond, List, length, get_or, Some, None, refl, sym, ◌∙◌, ap, arith}
use Rattle.std.specs.List.{slice_get}
use Rattle.std.proofs.lemmas.Option.{none-some, get_or_from_slice_get, slice_get-get_or}
use Rattle.cp_logic.specs.declared.settings.Rules.{Rules}
use Rattle.cp_logic.specs.Formulas.{Formula, occurrences, has_empty}
use Rattle.cp_logic.specs.Legality.{first, first_in}
use Rattle.cp_find.proofs.Searches.{first-from_cell}
use Rattle.cp_occ.specs.Cells.{CellView}
use Rattle.cp_occ.specs.Changes.{AreCellsOf}
use Rattle.cp_occ.proofs.Posted.{cells-length, cells-numbered, cells-list}
use Rattle.cp_sweep.specs.Sweeping.{IsSilentAt}

module _ (f : Formula) (cells : List CellView) (a : AreCellsOf f cells) (x : ℕ) (low : 1 ≤ x) (high : x ≤ f.variables) where
  place : x - 1 < length cells
  place = omega (arith, cells-length f cells a)

  -- there is one
  pub cell-there : slice_get cells (x - 1) ≡ None → ⊥
  cell-there h = absurd (none-some (get_or cells (x - 1) blank) (sym h ∙ slice_get-get_or cells (x - 1) blank place))
    where
      blank : CellView
      blank = record { variable = 0; clauses = Rattle.std.proofs.Common.[]; spare = 0 }

  -- it is that of the variable, and lists its occurrences
  pub cell-is : (cell : CellView) → slice_get cells (x - 1) ≡ Some cell → (cell.variable ≡ x) × (cell.clauses ≡ occurrences f.clauses x)
  cell-is cell h =
      let is : get_or cells (x - 1) cell ≡ cell = get_or_from_slice_get cells (x - 1) cell cell h in
      let back : x - 1 + 1 ≡ x = omega arith in (
        ap (λ (c : CellView). c.variable) (sym is) ∙ cells-numbered f cells a (x - 1) cell place ∙ back,
        ap (λ (c : CellView). c.clauses) (sym is) ∙ cells-list f cells a (x - 1) cell place ∙ ap (occurrences f.clauses) back,
      )

  -- nothing is applicable at the variable where its cell is silent
  pub silent-there : (rules : Rules) → IsSilentAt cells rules (x - 1) → first f rules x ≡ None
  unfolding first
  silent-there rules (cell, got, none) = go (has_empty f.clauses) refl
    where
      go : (b : Bool) → has_empty f.clauses ≡ b → first f rules x ≡ None
      go true h = ap (λ b. cond b None (first_in f.clauses rules f.next x)) h
      go false h =
          let is = cell-is cell got in
          sym (first-from_cell f rules x cell.clauses h is.1) ∙ ap (first_in cell.clauses rules f.next) (sym is.0) ∙ none f.next
