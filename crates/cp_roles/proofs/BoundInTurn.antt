-- The roles of a command are bound by a loop over them.
use Rattle.std.proofs.Common.{◌≡◌, ℕ, suc, ◌+◌, ◌<◌, true, false, List, [], ◌∷◌, ◌++◌, length, take, drop, get_or, Result, sym, ◌∙◌, ap, subst, arith}
use Rattle.std.specs.Prelude.{None}
use Rattle.std.specs.Result.{is_err}
use Rattle.std.proofs.Math.Seq.{take-suc, drop-cons}
use Rattle.std.proofs.lemmas.List.{map-append, take-append-drop}
use Rattle.cp_io.specs.declared.desk.Failed.{Failed}
use Rattle.cp_io.specs.Port.{Ports, AtRole, Binds}
use Rattle.cp_roles.specs.declared.binding.Bind.{Bind}
use Rattle.cp_roles.specs.Bindings.{Binding, bind, wanted, AreApart, BoundSoFar, FailedToBind}
use Rattle.cp_roles.proofs.RolesBound.{bound-on, bound-off, unbound-next}

-- a place in the list: what is before it, and what is from it on
module _ (bs : List Bind) (i : ℕ) (d : Bind) (low : i < length bs) where
  abbrev pub b : Bind
  b = get_or bs i d

  more : wanted (take (i + 1) bs) ≡ wanted (take i bs) ++ bind b.role b.way b.name.now ∷ []
  more =
      let e : i + 1 ≡ suc i = omega arith in
      ap (λ n. wanted (take n bs)) e ∙ ap wanted (take-suc bs i d low) ∙ map-append (λ (c : Bind). bind c.role c.way c.name.now) (take i bs) (get_or bs i d ∷ [])

  rest : wanted (drop i bs) ≡ bind b.role b.way b.name.now ∷ wanted (drop (i + 1) bs)
  rest =
      let e : suc i ≡ i + 1 = omega arith in
      ap wanted (drop-cons bs i d low) ∙ ap (λ n. bind b.role b.way b.name.now ∷ wanted (drop n bs)) e

  module _ (apart : AreApart (wanted (take i bs)) (wanted (drop i bs))) where
    apart-here : AreApart (wanted (take i bs)) (bind b.role b.way b.name.now ∷ wanted (drop (i + 1) bs))
    apart-here = subst (AreApart (wanted (take i bs))) rest apart

    pub next-free : (old mid : Ports) → BoundSoFar (wanted (take i bs)) old mid → (mid b.role).way ≡ None
    next-free old mid bound = unbound-next (wanted (take i bs)) b.role old mid bound apart-here.0

    pub next-apart : AreApart (wanted (take (i + 1) bs)) (wanted (drop (i + 1) bs))
    next-apart = subst (λ (before : List Binding). AreApart before (wanted (drop (i + 1) bs))) (sym more) apart-here.1

    pub next-bound : (old mid new : Ports) (result : Result (Unit {0}) Failed) → BoundSoFar (wanted (take i bs)) old mid → is_err result ≡ false
        → AtRole b.role (Binds b.way b.name.now result) mid new → BoundSoFar (wanted (take (i + 1) bs)) old new
    next-bound old mid new result bound ok m =
        subst (λ (before : List Binding). BoundSoFar before old new) (sym more)
        (bound-on (wanted (take i bs)) b.role b.way b.name.now old mid new bound apart-here.0 result ok m)

    all : wanted bs ≡ wanted (take i bs) ++ bind b.role b.way b.name.now ∷ wanted (drop (i + 1) bs)
    all = ap wanted (sym (take-append-drop i bs)) ∙ map-append (λ (c : Bind). bind c.role c.way c.name.now) (take i bs) (drop i bs) ∙ ap (λ (after : List Binding). wanted (take i bs) ++ after) rest

    pub next-failed : (old mid new : Ports) (result : Result (Unit {0}) Failed) → BoundSoFar (wanted (take i bs)) old mid → is_err result ≡ true
        → AtRole b.role (Binds b.way b.name.now result) mid new → FailedToBind (wanted bs) b.role old new
    next-failed old mid new result bound failed m =
        subst (λ (bs' : List Binding). FailedToBind bs' b.role old new) (sym all)
        (bound-off (wanted (take i bs)) b.role b.way b.name.now old mid new bound apart-here.0 result failed m (wanted (drop (i + 1) bs)))
