-- The roles of a command are bound one after the other.
use Rattle.std.proofs.Common.{◌≡◌, ◌≢◌, ℕ, Bool, true, false, cond, List, [], ◌∷◌, ◌++◌, Option, Some, None, Result, Ok, Err, inl, inr, refl, sym, ◌∙◌, ap, subst, arith}
use Rattle.std.specs.Prelude.{IfSome}
use Rattle.std.specs.Option.{option_map}
use Rattle.std.specs.Result.{is_err}
use Rattle.std.proofs.lemmas.Bool.Decides.{nat_tests}
use Rattle.cp_io.specs.declared.desk.Failed.{Failed}
use Rattle.cp_io.specs.declared.role.Role.{Role}
use Rattle.cp_io.specs.declared.role.Way.{Way}
use Rattle.cp_io.specs.Roles.{role_index, same_role}
use Rattle.cp_io.specs.Port.{Port, Ports, AtRole, Binds, Rose}
use Rattle.cp_io.proofs.RoleCases.{role_cases, role_index-apart, kept}
use Rattle.cp_roles.specs.Bindings.{Binding, bind, binding_of, way_of, before, OnlyBinds, BoundSoFar, FailedToBind}

pub same_role-refl : (r : Role) → same_role r r ≡ true
same_role-refl r = let n = role_index r in grind (arith, nat_tests)

pub same_role-apart : (r s : Role) → r ≢ s → same_role r s ≡ false
same_role-apart r s apart = let d = role_index-apart r s apart in grind (arith, nat_tests)

-- a binding behind others that don't bind its role
here-among : (bs after : List Binding) (b : Binding) → binding_of bs b.role ≡ None → binding_of (bs ++ b ∷ after) b.role ≡ Some b
here-among [] after b none = rw (same_role-refl b.role) refl
here-among (c ∷ bs) after b none = go (same_role c.role b.role) none (here-among bs after b)
  where
    go : (t : Bool) → cond t (Some c) (binding_of bs b.role) ≡ None → (binding_of bs b.role ≡ None → binding_of (bs ++ b ∷ after) b.role ≡ Some b) → cond t (Some c) (binding_of (bs ++ b ∷ after) b.role) ≡ Some b
    go true e more = cc
    go false e more = more e

last-apart : (bs : List Binding) (b : Binding) (r : Role) → r ≢ b.role → binding_of (bs ++ b ∷ []) r ≡ binding_of bs r
last-apart [] b r apart = rw (same_role-apart b.role r (λ e. apart (sym e))) refl
last-apart (c ∷ bs) b r apart = ap (λ rest. cond (same_role c.role r) (Some c) rest) (last-apart bs b r apart)

-- those before a role that the others don't bind are these others
before-last : (bs after : List Binding) (b : Binding) → binding_of bs b.role ≡ None → before b.role (bs ++ b ∷ after) ≡ bs
before-last [] after b none = rw (same_role-refl b.role) refl
before-last (c ∷ bs) after b none = go (same_role c.role b.role) none (before-last bs after b)
  where
    go : (t : Bool) → cond t (Some c) (binding_of bs b.role) ≡ None → (binding_of bs b.role ≡ None → before b.role (bs ++ b ∷ after) ≡ bs) → cond t [] (c ∷ before b.role (bs ++ b ∷ after)) ≡ c ∷ bs
    go true e more = cc
    go false e more = ap (λ (rest : List Binding). c ∷ rest) (more e)

-- what a bind does to a port
module _ {T E : Type 0} {way : Way} {name : List ℕ} {result : Result T E} {role : Role} {old new : Ports} (m : AtRole role (Binds way name result) old new) where
  pub bind-only : OnlyBinds old new
  bind-only = record {
    left = kept (λ (p : Port). p.left) (Binds way name result) m (λ h. ap (λ (p : Port). p.left) h.rest);
    held = kept (λ (p : Port). p.held) (Binds way name result) m (λ h. ap (λ (p : Port). p.held) h.rest);
    read_faults = kept (λ (p : Port). p.read_faults) (Binds way name result) m (λ h. ap (λ (p : Port). p.read_faults) h.rest);
    write_faults = kept (λ (p : Port). p.write_faults) (Binds way name result) m (λ h. ap (λ (p : Port). p.write_faults) h.rest);
  }

only-then : (a b c : Ports) → OnlyBinds a b → OnlyBinds b c → OnlyBinds a c
only-then a b c m n = record {
  left = λ r. n.left r ∙ m.left r;
  held = λ r. n.held r ∙ m.held r;
  read_faults = λ r. n.read_faults r ∙ m.read_faults r;
  write_faults = λ r. n.write_faults r ∙ m.write_faults r;
}

any-name : (role : Role) (o : Option (List ℕ)) → IfSome o (λ told. IfSome (binding_of [] role) (λ b. told ≡ b.name))
any-name role None = tt
any-name role (Some told) = tt

-- the role that is bound next isn't bound yet
pub unbound-next : (bs : List Binding) (role : Role) (old mid : Ports) → BoundSoFar bs old mid → binding_of bs role ≡ None → (mid role).way ≡ None
unbound-next bs role old mid so_far none = so_far.bound.ways role ∙ ap (λ (o : Option Binding). option_map (λ b. b.way) o) none

-- A role that isn't bound yet is bound.
module _ (bs : List Binding) (role : Role) (way : Way) (name : List ℕ) (old mid new : Ports) (so_far : BoundSoFar bs old mid) (none : binding_of bs role ≡ None) where
  module _ {T E : Type 0} (done : T) (m : AtRole role (Binds {T = T} {E = E} way name (Ok done)) mid new) where
    ways : (r : Role) → (new r).way ≡ way_of (bs ++ bind role way name ∷ []) r
    ways r = elim (role_cases r role) [
      | inl same ↦ rw same (m.here.bound ∙ ap (λ (o : Option Binding). option_map (λ b. b.way) o) (sym (here-among bs [] (bind role way name) none)))
      | inr apart ↦ ap (λ (p : Port). p.way) (m.others r apart) ∙ so_far.bound.ways r ∙ ap (λ (o : Option Binding). option_map (λ b. b.way) o) (sym (last-apart bs (bind role way name) r apart))
    ]

    named : (told : Option (List ℕ)) → IfSome told (λ t. t ≡ name) → IfSome told (λ t. IfSome (Some (bind role way name)) (λ b. t ≡ b.name))
    named None h = tt
    named (Some t) h = h

    names : (r : Role) → IfSome (new r).name (λ told. IfSome (binding_of (bs ++ bind role way name ∷ []) r) (λ b. told ≡ b.name))
    names r = elim (role_cases r role) [
      | inl same ↦ rw (same, here-among bs [] (bind role way name) none) (named (new role).name m.here.named)
      | inr apart ↦ rw (last-apart bs (bind role way name) r apart) (subst (λ (p : Port). IfSome p.name (λ told. IfSome (binding_of bs r) (λ b. told ≡ b.name))) (sym (m.others r apart)) (so_far.bound.names r))
    ]

    others : (r : Role) → binding_of (bs ++ bind role way name ∷ []) r ≡ None → new r ≡ old r
    others r free = elim (role_cases r role) [
      | inl same ↦ absurd (let e = rw same at free in let f = here-among bs [] (bind role way name) none in cc)
      | inr apart ↦ m.others r apart ∙ so_far.others r (sym (last-apart bs (bind role way name) r apart) ∙ free)
    ]

    steady : (r : Role) → (new r).bind_faults ≡ (old r).bind_faults
    steady r = elim (role_cases r role) [
      | inl same ↦ rw same (m.here.steady ∙ so_far.steady role)
      | inr apart ↦ ap (λ (p : Port). p.bind_faults) (m.others r apart) ∙ so_far.steady r
    ]

    pub bound-next : BoundSoFar (bs ++ bind role way name ∷ []) old new
    bound-next = record { bound = record { ways = ways; names = names }; rest = only-then old mid new so_far.rest (bind-only m); others = others; steady = steady }

  -- it can't be bound
  module _ {T E : Type 0} (e : E) (m : AtRole role (Binds {T = T} {E = E} way name (Err e)) mid new) (after : List Binding) where
    stay_ways : (r : Role) → (new r).way ≡ way_of bs r
    stay_ways r = elim (role_cases r role) [
      | inl same ↦ rw same (m.here.unbound ∙ ap (λ (o : Option Binding). option_map (λ b. b.way) o) (sym none))
      | inr apart ↦ ap (λ (p : Port). p.way) (m.others r apart) ∙ so_far.bound.ways r
    ]

    stay_names : (r : Role) → IfSome (new r).name (λ told. IfSome (binding_of bs r) (λ b. told ≡ b.name))
    stay_names r = elim (role_cases r role) [
      | inl same ↦ rw (same, none) (any-name role (new role).name)
      | inr apart ↦ subst (λ (p : Port). IfSome p.name (λ told. IfSome (binding_of bs r) (λ b. told ≡ b.name))) (sym (m.others r apart)) (so_far.bound.names r)
    ]

    pub bind-failed : FailedToBind (bs ++ bind role way name ∷ after) role old new
    bind-failed = record {
      failed = record {
        binding = bind role way name;
        is = here-among bs after (bind role way name) none;
        rose = subst (λ (p : Port). Rose (p.bind_faults way name) ((new role).bind_faults way name)) (so_far.others role none) m.here.cause;
      };
      bound = rw (before-last bs after (bind role way name) none) (record { ways = stay_ways; names = stay_names });
      rest = only-then old mid new so_far.rest (bind-only m);
    }

-- The same by whether the bind answers an error.
module _ (bs : List Binding) (role : Role) (way : Way) (name : List ℕ) (old mid new : Ports) (so_far : BoundSoFar bs old mid) (none : binding_of bs role ≡ None) where
  pub bound-on : (result : Result (Unit {0}) Failed) → is_err result ≡ false → AtRole role (Binds way name result) mid new → BoundSoFar (bs ++ bind role way name ∷ []) old new
  bound-on (Ok done) ok m = bound-next bs role way name old mid new so_far none done m
  bound-on (Err e) ok m = cc

  pub bound-off : (result : Result (Unit {0}) Failed) → is_err result ≡ true → AtRole role (Binds way name result) mid new → (after : List Binding) → FailedToBind (bs ++ bind role way name ∷ after) role old new
  bound-off (Ok done) failed m after = cc
  bound-off (Err e) failed m after = bind-failed bs role way name old mid new so_far none e m after
