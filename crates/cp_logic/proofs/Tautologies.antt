-- Whether an ascending clause is a tautology, from literals that stand side by side.
use Rattle.std.proofs.Common.{◌≡◌, ℕ, ◌<◌, ◌≤◌, true, false, List, [], ◌∷◌, ◌++◌, refl, sym, ◌∙◌, ap, subst, inl, inr, arith}
use Rattle.std.specs.Prelude.{◌⊎◌}
use Rattle.std.specs.List.{Contains}
use Rattle.std.proofs.lemmas.Bool.{false_from_ne_true, false≢true}
use Rattle.std.proofs.lemmas.List.Elements.{Contains-append_left, Contains-append_right, Contains-append_cases}
use Rattle.cp_logic.specs.Literals.{negated, variable_of}
use Rattle.cp_logic.specs.Clauses.{contains, is_tautology}
use Rattle.cp_logic.proofs.Members.{any_member, contains-in, in_cases, in_here, none_in}
use Rattle.cp_logic.proofs.LiteralFacts.{same_variable, negated-other, variable_of-negated}
use Rattle.cp_logic.proofs.SetFacts.{tautology-from}

-- no two of the literals have one variable, and the greatest variable is the last one
pub record Apart (lits : List ℕ) (last : ℕ) : Type 0 where
  pub apart : is_tautology lits ≡ false
  pub below : (x : ℕ) → Contains lits x → variable_of x ≤ last
  pub seen : (last ≡ 0) ⊎ ((p : ℕ) × Contains lits p × (variable_of p ≡ last))

-- one literal more, of another variable
pub Apart-push : (lits : List ℕ) (last y : ℕ) → Apart lits last → ((x : ℕ) → Contains lits x → x < y) → (variable_of y ≡ last → ⊥) → Apart (lits ++ y ∷ []) (variable_of y)
Apart-push lits last y h above other = record {
  apart = false_from_ne_true (is_tautology (lits ++ y ∷ [])) both;
  below = λ x i. elim (Contains-append_cases lits (y ∷ []) x i) [
    | inl j ↦ let l : x < y = above x j in omega arith
    | inr j ↦ elim (in_cases x y [] j) [ inl e ↦ subst (λ z. variable_of z ≤ variable_of y) e (omega arith) | inr n ↦ absurd (none_in x n) ]
  ];
  seen = inr (y, Contains-append_right lits (y ∷ []) y (in_here y y [] refl), refl);
}
  where
    last_below : last ≤ variable_of y
    last_below = elim h.seen [
      | inl e ↦ omega arith
      | inr p ↦ let l : p.0 < y = above p.0 p.1 in let e : variable_of p.0 ≡ last = p.2 in omega arith
    ]

    less : (x : ℕ) → Contains lits x → variable_of x ≡ variable_of y → ⊥
    less x i e = let l : variable_of x ≤ last = h.below x i in let b : last ≤ variable_of y = last_below in other (omega arith)

    go : (m : ℕ) → Contains lits m ⊎ Contains (y ∷ []) m → Contains lits (negated m) ⊎ Contains (y ∷ []) (negated m) → ⊥
    go m (inl i) (inl j) = false≢true (sym h.apart ∙ tautology-from lits m i j)
    go m (inl i) (inr j) = elim (in_cases (negated m) y [] j) [ inl e ↦ less m i (sym (variable_of-negated m) ∙ ap variable_of (sym e)) | inr n ↦ none_in (negated m) n ]
    go m (inr i) (inl j) = elim (in_cases m y [] i) [ inl e ↦ less (negated m) j (variable_of-negated m ∙ ap variable_of (sym e)) | inr n ↦ none_in m n ]
    go m (inr i) (inr j) = elim (in_cases m y [] i) [
      | inl e ↦ elim (in_cases (negated m) y [] j) [ inl d ↦ negated-other m (sym d ∙ e) | inr n ↦ none_in (negated m) n ]
      | inr n ↦ none_in m n
    ]

    both : is_tautology (lits ++ y ∷ []) ≡ true → ⊥
    both t =
        let m = any_member (λ l. contains (lits ++ y ∷ []) (negated l)) (lits ++ y ∷ []) t in
        go m.0 (Contains-append_cases lits (y ∷ []) m.0 m.1) (Contains-append_cases lits (y ∷ []) (negated m.0) (contains-in (lits ++ y ∷ []) (negated m.0) m.2))

-- one literal more, of the last variable
pub tautology-at : (lits rest : List ℕ) (last y : ℕ) → Apart lits last → ((x : ℕ) → Contains lits x → x < y) → 1 ≤ variable_of y → variable_of y ≡ last → is_tautology (lits ++ y ∷ rest) ≡ true
tautology-at lits rest last y h above l e = elim h.seen [
  | inl z ↦ absurd (omega arith)
  | inr p ↦ elim (same_variable p.0 y (p.2 ∙ sym e)) [
    | inl s ↦ let b : p.0 < y = above p.0 p.1 in absurd (omega arith)
    | inr s ↦ tautology-from (lits ++ y ∷ rest) y (Contains-append_right lits (y ∷ rest) y (in_here y y rest refl))
        (subst (Contains (lits ++ y ∷ rest)) s (Contains-append_left lits (y ∷ rest) p.0 p.1))
  ]
]
