-- A claim seat that draws upwards.
use Rattle.std.proofs.Common.{◌≡◌, ℕ, ◌<◌, All, AllPairs, sym, ap, subst}
use Rattle.std.proofs.lemmas.List.Quantifiers.{all_pairs_push}
use Rattle.cp_claim.specs.Views.{View, with_number}

-- one number more, above each that was drawn
pub rises : (v w : View) (n : ℕ) → w ≡ with_number n v → All (λ y. y < n) v.drawn → AllPairs (λ a b. a < b) v.drawn → AllPairs (λ a b. a < b) w.drawn
rises v w n e above up = subst (AllPairs (λ a b. a < b)) (sym (ap (λ (z : View). z.drawn) e)) (all_pairs_push (λ a b. a < b) v.drawn n up above)
