-- The log of posts that lead to the empty clause has it.
use Rattle.std.proofs.Common.{◌≡◌, ◌||◌, ℕ, Bool, true, false, cond, not, List, [], ◌∷◌, map, refl, sym, ◌∙◌, inl, inr}
use Rattle.std.specs.Prelude.{◌⊎◌, ◌==◌}
use Rattle.std.proofs.lemmas.Bool.{or_cases, or_left, or_right, false≢true}
use Rattle.std.proofs.lemmas.List.Folds.{list_any-append}
use Rattle.cp_logic.specs.declared.named.Named.{Named}
use Rattle.cp_logic.specs.Clauses.{is_empty}
use Rattle.cp_logic.specs.Formulas.{has_empty, without_number}
use Rattle.cp_logic.specs.Rules.{Rule, Add, Drop, Weaken, State, applied, state_after}
use Rattle.cp_logic.specs.Journals.{expansion, folded, start_of}
use Rattle.cp_logic.proofs.Members.{any_member, any_from, of_filter}
use Rattle.cp_drat.specs.Log.{Item, Lemma, item_of, is_end, has_end, cut}
use Rattle.cp_drat.specs.Checks.{LogHasEnd}

is_end-empty : (c : List ℕ) → is_empty c ≡ true → is_end (Lemma c) ≡ true
is_end-empty [] h = refl
is_end-empty (l ∷ ls) h = absurd (false≢true h)

has_empty-without : (cs : List Named) (n : ℕ) → has_empty (without_number cs n) ≡ true → has_empty cs ≡ true
has_empty-without cs n h =
    let m = any_member (λ (c : Named). is_empty c.clause) (without_number cs n) h in
    any_from (λ (c : Named). is_empty c.clause) cs m.0 (of_filter (λ (c : Named). not (c.number == n)) cs m.0 m.1).0 m.2

-- the empty clause stood before the rule, or the rule adds it
step : (s : State) (r : Rule) → has_empty (applied s r).formula.clauses ≡ true → (has_empty s.formula.clauses ≡ true) ⊎ (is_end (item_of r) ≡ true)
step s (Add c) h = elim (or_cases (has_empty s.formula.clauses) (is_empty c.clause || false) (sym (list_any-append (λ (d : Named). is_empty d.clause) s.formula.clauses (c ∷ [])) ∙ h)) [
  | inl e ↦ inl e
  | inr e ↦ elim (or_cases (is_empty c.clause) false e) [
    | inl t ↦ inr (is_end-empty c.clause t)
    | inr n ↦ absurd (false≢true n)
  ]
]
step s (Drop c) h = inl (has_empty-without s.formula.clauses c.number h)
step s (Weaken c l) h = inl (has_empty-without s.formula.clauses c.number h)

run-end : (s : State) (rs : List Rule) → has_empty (state_after s rs).formula.clauses ≡ true → (has_empty s.formula.clauses ≡ true) ⊎ (has_end (map item_of rs) ≡ true)
run-end s [] h = inl h
run-end s (r ∷ rs) h = elim (run-end (applied s r) rs h) [
  | inr t ↦ inr (or_right (is_end (item_of r)) (has_end (map item_of rs)) t)
  | inl e ↦ elim (step s r e) [
    | inl t ↦ inl t
    | inr t ↦ inr (or_left (is_end (item_of r)) (has_end (map item_of rs)) t)
  ]
]

has_end-cut : (is : List Item) → has_end is ≡ true → has_end (cut is) ≡ true
has_end-cut [] h = h
has_end-cut (i ∷ is) h = go (is_end i) h (has_end-cut is)
  where
    go : (b : Bool) → (b || has_end is) ≡ true → (has_end is ≡ true → has_end (cut is) ≡ true) → (b || has_end (cond b [] (cut is))) ≡ true
    go true e more = refl
    go false e more = more e

pub log-end : LogHasEnd
unfolding folded
log-end f posts none some = has_end-cut (map item_of (expansion posts)) (elim (run-end (start_of f) (expansion posts) some) [
  | inl e ↦ absurd (false≢true (sym none ∙ e))
  | inr t ↦ t
])
