-- Rows of locks: what a seat holds after them, and what it noted.
use Rattle.std.proofs.Common.{◌≡◌, ℕ, zero, suc, ◌+◌, ◌-◌, ◌<◌, ◌≤◌, List, [], ◌∷◌, ◌++◌, length, take, drop, get_or, refl, sym, ap, ◌∙◌, inl, inr, arith, length-drop}
use Rattle.std.proofs.Math.Seq.{split_at}
use Rattle.std.specs.List.{Contains}
use Rattle.std.proofs.lemmas.List.{take_all}
use Rattle.std.proofs.lemmas.List.Elements.{Contains-get_or}
use Rattle.cp_logic.specs.Clauses.{IsAscending}
use Rattle.cp_logic.proofs.Members.{none_in, in_here, in_later, in_cases}
use Rattle.cp_logic.proofs.Ascending.{below_others}
use Rattle.cp_occ.specs.Cells.{CellView, variables_of}
use Rattle.cp_yard.specs.Views.{Got, SeatView, held_of, with_lock}
use Rattle.cp_yard.proofs.Lists.{held_of-other}
use Rattle.cp_hood.specs.Seats.{GoesOn, with_locks}
use Rattle.cp_hood.specs.Tries.{gots}
use Rattle.cp_hood.proofs.Going.{GoesOn-none, GoesOn-then, GoesOn-locked}

pub with_locks-snoc : (cs : List CellView) (c : CellView) (v : SeatView) → with_locks (cs ++ c ∷ []) v ≡ with_lock c.variable c.clauses (with_locks cs v)
with_locks-snoc [] c v = refl
with_locks-snoc (d ∷ ds) c v = with_locks-snoc ds c (with_lock d.variable d.clauses v)

pub held_of-locks : (cs : List CellView) (v : SeatView) (y : ℕ) → (Contains (variables_of cs) y → ⊥) → held_of y (with_locks cs v).held ≡ held_of y v.held
held_of-locks [] v y n = refl
held_of-locks (d ∷ ds) v y n =
    held_of-locks ds (with_lock d.variable d.clauses v) y (λ m. n (in_later y d.variable (variables_of ds) m))
    ∙ held_of-other d.variable y d.clauses v.held (λ e. n (in_here y d.variable (variables_of ds) (sym e)))

pub GoesOn-locks : (cs : List CellView) (v : SeatView) → GoesOn v (with_locks cs v) (gots (length v.own.posts) cs) []
GoesOn-locks [] v = GoesOn-none v
GoesOn-locks (d ∷ ds) v = let w : SeatView = with_lock d.variable d.clauses v in let n : ℕ = length v.own.posts in
    GoesOn-then v w (with_locks ds w) (Got d.variable d.clauses n ∷ []) (gots n ds) [] [] (GoesOn-locked d.variable d.clauses v) (GoesOn-locks ds w)

-- ---- ascending variables

pub next-free : (vars : List ℕ) (i : ℕ) → i < length vars → IsAscending vars → Contains (take i vars) (get_or vars i 0) → ⊥
next-free [] i l a m = absurd (omega arith)
next-free (x ∷ xs) zero l a m = none_in x m
next-free (x ∷ xs) (suc i) l a m = elim (in_cases (get_or xs i 0) x (take i xs) m) [
  | inl e ↦ let b : x < get_or xs i 0 = below_others x xs (get_or xs i 0) a (Contains-get_or xs i 0 (omega arith)) in absurd (omega arith)
  | inr j ↦ next-free xs i (omega arith) a.1 j
]

pub rises-at : (xs : List ℕ) (i j : ℕ) → IsAscending xs → i ≤ j → j < length xs → get_or xs i 0 ≤ get_or xs j 0
rises-at [] i j a le l = absurd (omega arith)
rises-at (x ∷ xs) zero zero a le l = omega arith
rises-at (x ∷ xs) zero (suc j) a le l = let b : x < get_or xs j 0 = below_others x xs (get_or xs j 0) a (Contains-get_or xs j 0 (omega arith)) in omega arith
rises-at (x ∷ xs) (suc i) zero a le l = absurd (omega arith)
rises-at (x ∷ xs) (suc i) (suc j) a le l = rises-at xs i j a.1 (omega arith) (omega arith)

pub split-around : (vars : List ℕ) (at x : ℕ) → at < length vars → get_or vars at 0 ≡ x → vars ≡ take at vars ++ x ∷ take (length vars - (at + 1)) (drop (at + 1) vars)
split-around vars at x l e = let q : suc at ≡ at + 1 = omega arith in let n = length-drop (at + 1) vars in
    split_at vars at 0 l ∙ (λ i. take at vars ++ e i ∷ drop (q i) vars) ∙ ap (λ (ys : List ℕ). take at vars ++ x ∷ ys) (sym (take_all (length vars - (at + 1)) (drop (at + 1) vars) (omega arith)))

pub split-next : (vars : List ℕ) (i : ℕ) → i < length vars → take i vars ++ get_or vars i 0 ∷ drop (suc i) vars ≡ vars
split-next vars i l = sym (split_at vars i 0 l)

pub length-front : (at : ℕ) (vars : List ℕ) → at ≤ length vars → length (take at vars) ≡ at
length-front zero vars l = refl
length-front (suc n) [] l = absurd (omega arith)
length-front (suc n) (x ∷ xs) l = ap suc (length-front n xs (omega arith))
