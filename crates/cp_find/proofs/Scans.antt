-- The first item that passes, in lists that are made from other lists.
use Rattle.std.proofs.Common.{◌≡◌, Bool, true, false, cond, List, [], ◌∷◌, map, Option, Some, None, refl, sym, ◌∙◌, ap}
use Rattle.std.specs.Option.{option_map, option_or}
use Rattle.std.specs.List.{Contains, find, flat_map}
use Rattle.std.proofs.lemmas.List.Folds.{find-append}
use Rattle.cp_logic.proofs.Members.{in_here, in_later}

-- the first answer of a search at an item
abbrev pub first_some : {A X : Type 0} → (A → Option X) → List A → Option X
first_some f [] = None
first_some f (a ∷ ys) = option_or (f a) (first_some f ys)

-- in the images of a list
pub find-images : {A X : Type 0} (p : X → Bool) (f : A → X) (q : A → Bool) (xs : List A)
    → ((a : A) → Contains xs a → p (f a) ≡ q a) → find p (map f xs) ≡ option_map f (find q xs)
find-images p f q [] h = refl
find-images p f q (a ∷ ys) h = go (q a) (h a (in_here a a ys refl)) (find-images p f q ys (λ b i. h b (in_later b a ys i)))
  where
    go : (b : Bool) → p (f a) ≡ b → find p (map f ys) ≡ option_map f (find q ys) → cond (p (f a)) (Some (f a)) (find p (map f ys)) ≡ option_map f (cond b (Some a) (find q ys))
    go true e more = ap (λ b. cond b (Some (f a)) (find p (map f ys))) e
    go false e more = ap (λ b. cond b (Some (f a)) (find p (map f ys))) e ∙ more

-- in the lists of each item of a list
pub find-lists : {A X : Type 0} (p : X → Bool) (f : A → List X) (g : A → Option X) (xs : List A)
    → ((a : A) → Contains xs a → find p (f a) ≡ g a) → find p (flat_map f xs) ≡ first_some g xs
find-lists p f g [] h = refl
find-lists p f g (a ∷ ys) h =
    find-append p (f a) (flat_map f ys) ∙ ap (λ o. option_or o (find p (flat_map f ys))) (h a (in_here a a ys refl))
    ∙ ap (option_or (g a)) (find-lists p f g ys (λ b i. h b (in_later b a ys i)))

-- where each item gives one answer or none
pub first_some-chosen : {A X : Type 0} (f : A → X) (q : A → Bool) (xs : List A) → first_some (λ a. cond (q a) (Some (f a)) None) xs ≡ option_map f (find q xs)
first_some-chosen f q [] = refl
first_some-chosen f q (a ∷ ys) = go (q a) (first_some-chosen f q ys)
  where
    go : (b : Bool) → first_some (λ a. cond (q a) (Some (f a)) None) ys ≡ option_map f (find q ys)
        → option_or (cond b (Some (f a)) None) (first_some (λ a. cond (q a) (Some (f a)) None) ys) ≡ option_map f (cond b (Some a) (find q ys))
    go true e = refl
    go false e = e

-- where none passes
pub find-nothing : {A X : Type 0} (p : X → Bool) (f : A → X) (xs : List A) → ((a : A) → Contains xs a → p (f a) ≡ false) → find p (map f xs) ≡ None
find-nothing p f [] h = refl
find-nothing p f (a ∷ ys) h =
    ap (λ b. cond b (Some (f a)) (find p (map f ys))) (h a (in_here a a ys refl)) ∙ find-nothing p f ys (λ b i. h b (in_later b a ys i))

-- where no item gives an answer
pub first_some-nothing : {A X : Type 0} (xs : List A) → first_some (λ (a : A). let n : Option X = None in n) xs ≡ None
first_some-nothing [] = refl
first_some-nothing (a ∷ ys) = first_some-nothing ys

-- ---- a search that has come to an item

-- the item that comes next gives an answer
pub some-here : {A X : Type 0} (f : A → Option X) (all : List A) (a : A) (rest : List A) (x : X) → all ≡ a ∷ rest → f a ≡ Some x → first_some f all ≡ Some x
some-here f all a rest x e t = ap (first_some f) e ∙ ap (λ o. option_or o (first_some f rest)) t

-- or it gives none, and the answer is that of the rest
pub none-next : {A X : Type 0} (f : A → Option X) (all : List A) (a : A) (rest : List A) → all ≡ a ∷ rest → f a ≡ None → first_some f rest ≡ first_some f all
none-next f all a rest e t = sym (ap (first_some f) e ∙ ap (λ o. option_or o (first_some f rest)) t)
