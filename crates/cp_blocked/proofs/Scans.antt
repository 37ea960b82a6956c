-- The first item that passes, in lists of which each has one item alone that can pass.
use Rattle.std.proofs.Common.{◌≡◌, Bool, true, false, cond, List, [], ◌∷◌, Some, None, refl, sym, ◌∙◌, ap}
use Rattle.std.specs.Option.{option_map, option_or}
use Rattle.std.specs.List.{Contains, find, flat_map}
use Rattle.std.proofs.lemmas.List.Folds.{find-append}
use Rattle.cp_logic.proofs.Members.{in_here, in_later}

-- where each item gives a list of which one item passes or none
pub find-chosen : {A X : Type 0} (p : X → Bool) (f : A → List X) (g : A → X) (q : A → Bool) (xs : List A)
    → ((a : A) → Contains xs a → find p (f a) ≡ cond (q a) (Some (g a)) None) → find p (flat_map f xs) ≡ option_map g (find q xs)
find-chosen p f g q [] h = refl
find-chosen p f g q (a ∷ ys) h =
    find-append p (f a) (flat_map f ys) ∙ ap (λ o. option_or o (find p (flat_map f ys))) (h a (in_here a a ys refl))
    ∙ go (q a) (find-chosen p f g q ys (λ b i. h b (in_later b a ys i)))
  where
    go : (b : Bool) → find p (flat_map f ys) ≡ option_map g (find q ys) → option_or (cond b (Some (g a)) None) (find p (flat_map f ys)) ≡ option_map g (cond b (Some a) (find q ys))
    go true e = refl
    go false e = e

-- the item that comes next does not pass
pub find-later : {X : Type 0} (p : X → Bool) (all : List X) (x : X) (rest : List X) → all ≡ x ∷ rest → p x ≡ false → find p rest ≡ find p all
find-later p all x rest e t = sym (ap (find p) e ∙ ap (λ b. cond b (Some x) (find p rest)) t)
