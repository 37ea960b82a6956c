-- The draws of the seed 7 with three variables, and its first two clauses.
use Rattle.std.proofs.Common.{◌≡◌, ℕ, zero, suc, List, [], ◌∷◌, refl, map}
use Rattle.cp_logic.specs.declared.named.Named.{Named}
use Rattle.cp_logic.specs.Clauses.{clause_of}
use Rattle.cp_gen.specs.Generated.{next_state, draw_of, drawn_literal, drawn_clauses, generated}

-- the states from one on
abbrev pub states : ℕ → ℕ → List ℕ
states zero x = []
states (suc more) x = x ∷ states more (next_state x)

pub states-seven : states 6 (next_state 7) ≡ 1282168116 ∷ 642666333 ∷ 712265938 ∷ 1486001571 ∷ 2131988640 ∷ 220562521 ∷ []
unfolding next_state
states-seven = refl

pub draws-seven : map draw_of (states 6 (next_state 7)) ≡ 5008469 ∷ 2510415 ∷ 2782288 ∷ 5804693 ∷ 8328080 ∷ 861572 ∷ []
unfolding next_state
draws-seven = refl

-- -3, -2, 3, -3, 2 and 2
pub literals-seven : map (drawn_literal 3) (states 6 (next_state 7)) ≡ 7 ∷ 5 ∷ 6 ∷ 7 ∷ 4 ∷ 4 ∷ []
unfolding next_state drawn_literal
literals-seven = refl

abbrev pub named : ℕ → List ℕ → Named
named number clause = record { number = number; clause = clause }

pub generated-seven : generated 7 3 2 ≡ record { variables = 3; next = 3; clauses = named 1 (5 ∷ 6 ∷ 7 ∷ []) ∷ named 2 (4 ∷ 7 ∷ []) ∷ [] }
unfolding next_state drawn_literal drawn_clauses clause_of
generated-seven = refl
