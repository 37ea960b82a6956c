-- What is seen of an input that may be longer than its limit.
use Rattle.std.proofs.Common.{◌≡◌, ℕ, zero, suc, ◌+◌, ◌≤◌, Bool, false, ltb, List, [], ◌∷◌, ◌++◌, length, take, drop, refl, sym, ap, arith}
use Rattle.std.proofs.lemmas.Bool.{le-ltb}
use Rattle.std.proofs.lemmas.Bool.Decides.{nat_tests}
use Rattle.std.proofs.Math.Numerals.{add-one}
use Rattle.std.proofs.lemmas.List.{take_all, drop_all}
use Rattle.cp_text.specs.Text.{lines_from}
use Rattle.cp_text.specs.Cut.{goes_on, lines_seen, lines_within}

-- ---- bytes

pub take_pieces : {A : Type 0} (n : ℕ) (xs ys : List A) → take n (take n xs ++ ys) ≡ take n (xs ++ ys)
take_pieces zero xs ys = refl
take_pieces (suc n) [] ys = refl
take_pieces (suc n) (x ∷ xs) ys = ap (λ zs. x ∷ zs) (take_pieces n xs ys)

pub take_within : {A : Type 0} (n : ℕ) (xs : List A) → take n (take (suc n) xs) ≡ take n xs
take_within zero xs = refl
take_within (suc n) [] = refl
take_within (suc n) (x ∷ xs) = ap (λ zs. x ∷ zs) (take_within n xs)

pub goes_on-within : (n : ℕ) (xs : List ℕ) → goes_on (drop n (take (suc n) xs)) ≡ goes_on (drop n xs)
goes_on-within zero [] = refl
goes_on-within zero (x ∷ xs) = refl
goes_on-within (suc n) [] = refl
goes_on-within (suc n) (x ∷ xs) = goes_on-within n xs

pub longer-within : (n : ℕ) (xs : List ℕ) → ltb n (length (take (suc n) xs)) ≡ ltb n (length xs)
longer-within zero [] = refl
longer-within zero (x ∷ xs) = grind (arith, nat_tests)
longer-within (suc n) [] = refl
longer-within (suc n) (x ∷ xs) = let more = longer-within n xs in grind (arith, nat_tests, more)

pub sees-within : (limit : ℕ) (input : List ℕ) → (lines_within limit (take (limit + 1) input) ≡ lines_within limit input) × (ltb limit (length (take (limit + 1) input)) ≡ ltb limit (length input))
unfolding lines_within
sees-within limit input = rw add-one (rw (take_within limit input, goes_on-within limit input) refl, longer-within limit input)

pub sees-all : (limit : ℕ) (input : List ℕ) → length input ≤ limit → lines_within limit input ≡ lines_from 0 input
unfolding lines_within
sees-all limit input within = rw (take_all limit input within, drop_all limit input within) refl

-- ---- an input

pub seen-whole : (limit : ℕ) (input : List ℕ) → length input ≤ limit → (input ≡ take limit input) × (false ≡ goes_on (drop limit input)) × (false ≡ ltb limit (length input)) × (lines_within limit input ≡ lines_from 0 input)
seen-whole limit input short =
    (sym (take_all limit input short), ap goes_on (sym (drop_all limit input short)), sym (le-ltb limit (length input) short), sees-all limit input short)

pub seen-front : (limit : ℕ) (input text behind : List ℕ) (cut : Bool) → text ≡ take limit input → behind ≡ drop limit input → cut ≡ goes_on behind → lines_within limit input ≡ lines_seen cut 0 text
unfolding lines_within
seen-front limit input text behind cut front back is = rw (front, is, back) refl
