-- Lists of numbers in which none stands twice, or which rise.
use Rattle.std.proofs.Common.{◌≢◌, ◌<◌, ℕ, List, [], ◌∷◌, ◌++◌, sym}
use Rattle.cp_chain.specs.Chains.{Each, AreDistinct, AreRising}

pub Each-map : (P Q : ℕ → Type 0) (hs : List ℕ) → ((h : ℕ) → P h → Q h) → Each P hs → Each Q hs
Each-map P Q [] f p = tt
Each-map P Q (h ∷ hs) f p = (f h p.0, Each-map P Q hs f p.1)

pub Each-both : (P Q : ℕ → Type 0) (hs : List ℕ) → Each P hs → Each Q hs → Each (λ h. P h × Q h) hs
Each-both P Q [] p q = tt
Each-both P Q (h ∷ hs) p q = ((p.0, q.0), Each-both P Q hs p.1 q.1)

pub Each-left : (P : ℕ → Type 0) (xs ys : List ℕ) → Each P (xs ++ ys) → Each P xs
Each-left P [] ys p = tt
Each-left P (x ∷ xs) ys p = (p.0, Each-left P xs ys p.1)

pub Each-right : (P : ℕ → Type 0) (xs ys : List ℕ) → Each P (xs ++ ys) → Each P ys
Each-right P [] ys p = p
Each-right P (x ∷ xs) ys p = Each-right P xs ys p.1

pub Each-join : (P : ℕ → Type 0) (xs ys : List ℕ) → Each P xs → Each P ys → Each P (xs ++ ys)
Each-join P [] ys p q = q
Each-join P (x ∷ xs) ys p q = (p.0, Each-join P xs ys p.1 q)

-- one left out
pub Each-drop : (P : ℕ → Type 0) (xs : List ℕ) (y : ℕ) (ys : List ℕ) → Each P (xs ++ y ∷ ys) → Each P (xs ++ ys)
Each-drop P [] y ys p = p.1
Each-drop P (x ∷ xs) y ys p = (p.0, Each-drop P xs y ys p.1)

pub AreDistinct-left : (xs ys : List ℕ) → AreDistinct (xs ++ ys) → AreDistinct xs
AreDistinct-left [] ys p = tt
AreDistinct-left (x ∷ xs) ys p = (Each-left (λ k. x ≢ k) xs ys p.0, AreDistinct-left xs ys p.1)

pub AreDistinct-right : (xs ys : List ℕ) → AreDistinct (xs ++ ys) → AreDistinct ys
AreDistinct-right [] ys p = p
AreDistinct-right (x ∷ xs) ys p = AreDistinct-right xs ys p.1

-- those of the front are none of those behind it
pub AreDistinct-across : (xs ys : List ℕ) → AreDistinct (xs ++ ys) → Each (λ x. Each (λ y. x ≢ y) ys) xs
AreDistinct-across [] ys p = tt
AreDistinct-across (x ∷ xs) ys p = (Each-right (λ k. x ≢ k) xs ys p.0, AreDistinct-across xs ys p.1)

pub AreDistinct-drop : (xs : List ℕ) (y : ℕ) (ys : List ℕ) → AreDistinct (xs ++ y ∷ ys) → AreDistinct (xs ++ ys)
AreDistinct-drop [] y ys p = p.1
AreDistinct-drop (x ∷ xs) y ys p = (Each-drop (λ k. x ≢ k) xs y ys p.0, AreDistinct-drop xs y ys p.1)

pub AreDistinct-push : (xs : List ℕ) (y : ℕ) → Each (λ x. x ≢ y) xs → AreDistinct xs → AreDistinct (xs ++ y ∷ [])
AreDistinct-push [] y p d = (tt, tt)
AreDistinct-push (x ∷ xs) y p d = (Each-join (λ k. x ≢ k) xs (y ∷ []) d.0 (p.0, tt), AreDistinct-push xs y p.1 d.1)

pub AreRising-drop : (xs : List ℕ) (y : ℕ) (ys : List ℕ) → AreRising (xs ++ y ∷ ys) → AreRising (xs ++ ys)
AreRising-drop [] y ys p = p.1
AreRising-drop (x ∷ xs) y ys p = (Each-drop (λ k. x < k) xs y ys p.0, AreRising-drop xs y ys p.1)

pub AreRising-push : (xs : List ℕ) (y : ℕ) → Each (λ x. x < y) xs → AreRising xs → AreRising (xs ++ y ∷ [])
AreRising-push [] y p d = (tt, tt)
AreRising-push (x ∷ xs) y p d = (Each-join (λ k. x < k) xs (y ∷ []) d.0 (p.0, tt), AreRising-push xs y p.1 d.1)

pub Each-flip : (h : ℕ) (hs : List ℕ) → Each (λ k. h ≢ k) hs → Each (λ k. k ≢ h) hs
Each-flip h hs p = Each-map (λ k. h ≢ k) (λ k. k ≢ h) hs (λ k n q. n (sym q)) p

-- two lists that have nothing in common, read from the second
pub Each-across : (xs ys : List ℕ) → Each (λ x. Each (λ y. x ≢ y) ys) xs → Each (λ y. Each (λ x. x ≢ y) xs) ys
Each-across xs [] p = tt
Each-across xs (y ∷ ys) p = (
  Each-map (λ x. Each (λ k. x ≢ k) (y ∷ ys)) (λ x. x ≢ y) xs (λ x q. q.0) p,
  Each-across xs ys (Each-map (λ x. Each (λ k. x ≢ k) (y ∷ ys)) (λ x. Each (λ k. x ≢ k) ys) xs (λ x q. q.1) p),
)
