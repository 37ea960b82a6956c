-- Lists: the item at an index, and the first item that passes.
use Rattle.std.proofs.Common.{◌≡◌, ℕ, zero, suc, ◌+◌, ◌<◌, Bool, true, false, cond, ◌&&◌, List, [], ◌∷◌, ◌++◌, map, length, drop, get_or, add-one, Option, Some, None, refl, sym, ◌∙◌, ap, subst, arith}
use Rattle.std.specs.Prelude.{◌==◌, ◌||◌}
use Rattle.std.specs.Option.{option_or}
use Rattle.std.specs.List.{Contains, find}
use Rattle.std.proofs.lemmas.Bool.{eqb-true, eqb-false}
use Rattle.cp_logic.specs.Clauses.{contains}
use Rattle.cp_logic.proofs.Members.{in_here, in_later}

-- a read at an index, and what is behind it
pub drop-at : {X : Type 0} (xs : List X) (i : ℕ) (x : X) → i < length xs → x ≡ get_or xs i x → drop i xs ≡ x ∷ drop (i + 1) xs
drop-at {X} xs i x h e = subst (λ k. drop i xs ≡ x ∷ drop k xs) (sym (add-one i)) (by_suc xs i h e)
  where
    by_suc : (ys : List X) (k : ℕ) → k < length ys → x ≡ get_or ys k x → drop k ys ≡ x ∷ drop (suc k) ys
    by_suc [] k h e = absurd (omega arith)
    by_suc (y ∷ ys) zero h e = ap (λ z. z ∷ ys) (sym e)
    by_suc (y ∷ ys) (suc k) h e = by_suc ys k (omega arith) e

-- nothing in the first of two lists passes
pub find-second : {X : Type 0} (p : X → Bool) (xs ys : List X) → ((x : X) → Contains xs x → p x ≡ false) → find p (xs ++ ys) ≡ find p ys
find-second p [] ys h = refl
find-second p (x ∷ xs) ys h =
    ap (λ b. cond b (Some x) (find p (xs ++ ys))) (h x (in_here x x xs refl)) ∙ find-second p xs ys (λ y i. h y (in_later y x xs i))

pub or-none : {X : Type 0} (o : Option X) → option_or o None ≡ o
or-none None = refl
or-none (Some x) = refl

-- where one item alone can pass
pub find-one : {X : Type 0} (p : X → Bool) (f : ℕ → X) (l : ℕ) (ms : List ℕ) → ((m : ℕ) → Contains ms m → p (f m) ≡ true → m ≡ l)
    → find p (map f ms) ≡ cond (contains ms l && p (f l)) (Some (f l)) None
find-one p f l [] h = refl
find-one p f l (m ∷ ms) h = go (p (f m)) (m == l) refl refl (find-one p f l ms (λ k i. h k (in_later k m ms i)))
  where
    none : (c : Bool) → cond (c && false) (Some (f l)) None ≡ None
    none true = refl
    none false = refl

    go : (b d : Bool) → p (f m) ≡ b → (m == l) ≡ d → find p (map f ms) ≡ cond (contains ms l && p (f l)) (Some (f l)) None
        → cond b (Some (f m)) (find p (map f ms)) ≡ cond ((d || contains ms l) && p (f l)) (Some (f l)) None
    go true true e q more =
        let s = h m (in_here m m ms refl) e in
        ap (λ k. Some (f k)) s ∙ sym (ap (λ b. cond b (Some (f l)) None) (ap (λ k. p (f k)) (sym s) ∙ e))
    go true false e q more = absurd (eqb-false m l q (h m (in_here m m ms refl) e))
    go false true e q more =
        let n : p (f l) ≡ false = ap (λ k. p (f k)) (sym (eqb-true m l q)) ∙ e in
        more ∙ ap (λ b. cond (contains ms l && b) (Some (f l)) None) n ∙ none (contains ms l) ∙ sym (ap (λ b. cond b (Some (f l)) None) n)
    go false false e q more = more

-- the item that comes next passes
pub find-here : {X : Type 0} (p : X → Bool) (all : List X) (x : X) (rest : List X) → all ≡ x ∷ rest → p x ≡ true → find p all ≡ Some x
find-here p all x rest e t = ap (find p) e ∙ ap (λ b. cond b (Some x) (find p rest)) t
