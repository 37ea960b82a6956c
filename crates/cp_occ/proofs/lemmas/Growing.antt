-- A cell whose clauses came by ascending number.
use Rattle.std.proofs.Common.{◌≡◌, ℕ, ◌+◌, ◌<◌, List, [], ◌∷◌, ◌++◌, subst, sym, arith}
use Rattle.std.specs.List.{All}
use Rattle.std.proofs.lemmas.List.Elements.{All-push, All-weaker}
use Rattle.cp_logic.specs.declared.named.Named.{Named}
use Rattle.cp_occ.specs.Cells.{CellView}

-- the numbers of the clauses are below n
abbrev pub AreBelow : ℕ → List Named → Type 0
AreBelow n cs = All (λ (c : Named). c.number < n) cs

pub below-later : (n : ℕ) (cs : List Named) → AreBelow n cs → AreBelow (n + 1) cs
below-later n cs h = All-weaker (λ (c : Named). c.number < n) (λ (c : Named). c.number < n + 1) (λ c lt. omega (arith, lt)) cs h

-- one clause more, under the number n
pub below-grown : (n : ℕ) (before after : CellView) (clause : List ℕ) → AreBelow n before.clauses
    → after.clauses ≡ before.clauses ++ record { number = n; clause = clause } ∷ [] → AreBelow (n + 1) after.clauses
below-grown n before after clause h e =
    subst (AreBelow (n + 1)) (sym e) (All-push (λ (c : Named). c.number < n + 1) before.clauses (record { number = n; clause = clause }) (below-later n before.clauses h) (omega arith))
