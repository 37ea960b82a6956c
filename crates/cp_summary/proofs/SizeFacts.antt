-- Sizes that are equal one by one.
use Rattle.std.proofs.Common.{◌≡◌, ℕ, length, ◌∙◌, ap}
use Rattle.cp_logic.specs.Formulas.{Formula}
use Rattle.cp_summary.specs.declared.sizes.Sizes.{Sizes}
use Rattle.cp_summary.specs.Text.{sizes_of, literals_in}

pub same_sizes : (f : Formula) (variables clauses literals : ℕ) → variables ≡ f.variables → clauses ≡ length f.clauses → literals ≡ literals_in f.clauses
    → record { variables = variables; clauses = clauses; literals = literals } ≡ sizes_of f
same_sizes f variables clauses literals v n l =
    let make : ℕ → ℕ → ℕ → Sizes = λ a b d. record { variables = a; clauses = b; literals = d } in
    ap (λ a. make a clauses literals) v ∙ ap (λ b. make f.variables b literals) n ∙ ap (λ d. make f.variables (length f.clauses) d) l
