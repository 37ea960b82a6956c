-- The roles that a command binds, each in its way under its name, and what binding them in turn does to the ports of a desk.
use Rattle.std.specs.Prelude.{◌≡◌, ℕ, List, [], ◌∷◌, ◌++◌, map, if◌then◌else◌, Option, Some, None, IfSome, Result, Ok, Err}
use Rattle.std.specs.Option.{option_map}
use Rattle.cp_io.specs.declared.role.Role.{Role}
use Rattle.cp_io.specs.declared.role.Way.{Way}
use Rattle.cp_io.specs.Roles.{same_role}
use Rattle.cp_io.specs.Port.{Ports, Rose}
use Rattle.cp_roles.specs.declared.binding.Bind.{Bind}

pub record Binding : Type 0 where
  pub role : Role
  pub way : Way
  pub name : List ℕ

abbrev pub bind : Role → Way → List ℕ → Binding
bind role way name = record { role = role; way = way; name = name }

-- what the code is to bind
abbrev pub wanted : List Bind → List Binding
wanted bs = map (λ b. bind b.role b.way b.name.now) bs

-- the binding of the role, if there is one
abbrev pub binding_of : List Binding → Role → Option Binding
binding_of [] role = None
binding_of (b ∷ bs) role = if same_role b.role role then Some b else binding_of bs role

-- the way in which the role is bound
abbrev pub way_of : List Binding → Role → Option Way
way_of bs role = option_map (λ b. b.way) (binding_of bs role)

-- the bindings before that of the role
abbrev pub before : Role → List Binding → List Binding
before role [] = []
before role (b ∷ bs) = if same_role b.role role then [] else b ∷ before role bs

-- each role is none of those before it, which come after these
abbrev pub AreApart : List Binding → List Binding → Type 0
AreApart before [] = Unit {0}
AreApart before (b ∷ bs) = (binding_of before b.role ≡ None) × AreApart (before ++ b ∷ []) bs

-- Just these roles are bound, each in its way, and under its name where the desk tells it.
pub record JustBound (bs : List Binding) (ports : Ports) : Type 0 where
  pub ways : (role : Role) → (ports role).way ≡ way_of bs role
  pub names : (role : Role) → IfSome (ports role).name (λ told. IfSome (binding_of bs role) (λ b. told ≡ b.name))

-- A bind of the role, in its way under its name, has failed.
pub record BindFailed (bs : List Binding) (role : Role) (old new : Ports) : Type 0 where
  pub binding : Binding
  pub is : binding_of bs role ≡ Some binding
  pub rose : Rose ((old role).bind_faults binding.way binding.name) ((new role).bind_faults binding.way binding.name)

-- Nothing was read or written.
pub record OnlyBinds (old new : Ports) : Type 0 where
  pub left : (role : Role) → (new role).left ≡ (old role).left
  pub held : (role : Role) → (new role).held ≡ (old role).held
  pub read_faults : (role : Role) → (new role).read_faults ≡ (old role).read_faults
  pub write_faults : (role : Role) → (new role).write_faults ≡ (old role).write_faults

-- These roles were bound in turn, from a desk on which none was.
pub record BoundSoFar (bs : List Binding) (old new : Ports) : Type 0 where
  pub bound : JustBound bs new
  pub rest : OnlyBinds old new
  pub others : (role : Role) → binding_of bs role ≡ None → new role ≡ old role
  -- no bind failed
  pub steady : (role : Role) → (new role).bind_faults ≡ (old role).bind_faults

-- A bind of this role has failed, and those before it are bound.
pub record FailedToBind (bs : List Binding) (role : Role) (old new : Ports) : Type 0 where
  pub failed : BindFailed bs role old new
  pub bound : JustBound (before role bs) new
  pub rest : OnlyBinds old new

-- All were bound, or one of them was not.
abbrev pub BindsInTurn : List Binding → Result (Unit {0}) Role → Ports → Ports → Type 0
BindsInTurn bs (Ok done) old new = BoundSoFar bs old new
BindsInTurn bs (Err role) old new = FailedToBind bs role old new
