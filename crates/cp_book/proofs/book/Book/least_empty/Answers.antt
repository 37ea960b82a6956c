use Rattle.std.proofs.Common.{ℕ, List, ◌∙◌, ap}
use Rattle.std.specs.Prelude.{slice_get}
use Rattle.cp_logic.specs.Formulas.{Formula}
use Rattle.cp_book.specs.declared.book.Parts.{Parts}
use Rattle.cp_book.specs.Empties.{least_empty}
use Rattle.cp_book.specs.Views.{BookView, current}
use Rattle.cp_book.proofs.EmptyFacts.{first-empty}
use Rattle.cp_book.proofs.book.Book.least_empty.Goals as goal

pub returns : goal.returns
returns c =
    let held = c.self.inside.parts.value in
    c.first.ensures ∙ ap (λ (ns : List ℕ). slice_get ns 0) (ap (λ (p : Parts). p.empties.items) c.deref.ensures ∙ c.self.invariant.0.empty)
    ∙ first-empty held.formula.formula.clauses ∙ ap (λ (f : Formula). least_empty f.clauses) c.self.invariant.0.formula
    ∙ ap (λ (b : BookView). least_empty (current b).clauses) c.self.view_is
