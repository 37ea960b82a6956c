-- The texts that a command writes, each to its role, and what writing them in turn does to the ports of a desk.
use Rattle.std.specs.Prelude.{◌≡◌, ◌≤◌, ℕ, List, [], ◌∷◌, ◌++◌, if◌then◌else◌, Bool, false, true, ◌||◌, Result, Ok, Err}
use Rattle.std.specs.Io.KnownBytes.{append_known}
use Rattle.cp_io.specs.declared.role.Role.{Role}
use Rattle.cp_io.specs.Roles.{same_role}
use Rattle.cp_io.specs.Port.{Ports, Rose}

-- a role, and the text that is written to it
pub record Written : Type 0 where
  pub role : Role
  pub text : List ℕ

abbrev pub write : Role → List ℕ → Written
write role text = record { role = role; text = text }

-- the text of the role, or none
abbrev pub text_of : List Written → Role → List ℕ
text_of [] role = []
text_of (w ∷ ws) role = if same_role w.role role then w.text else text_of ws role

-- whether the role has a text
abbrev pub is_written : List Written → Role → Bool
is_written [] role = false
is_written (w ∷ ws) role = same_role w.role role || is_written ws role

-- the texts before that of the role
abbrev pub texts_before : Role → List Written → List Written
texts_before role [] = []
texts_before role (w ∷ ws) = if same_role w.role role then [] else w ∷ texts_before role ws

-- Each role grew by its text, and one without a text by nothing.
abbrev pub HaveGrown : List Written → Ports → Ports → Type 0
HaveGrown ws old new = (role : Role) → (new role).held ≡ append_known (old role).held (text_of ws role)

-- The roles before this one grew by their texts, it by a front of its own, and no other grew.
pub record HaveStopped (ws : List Written) (role : Role) (old new : Ports) : Type 0 where
  pub front : List ℕ
  pub rest : List ℕ
  pub is : text_of ws role ≡ front ++ rest
  pub grown : HaveGrown (texts_before role ws ++ write role front ∷ []) old new

abbrev pub NothingGrew : Ports → Ports → Type 0
NothingGrew old new = (role : Role) → (new role).held ≡ (old role).held

-- Nothing was read or bound.
pub record OnlyWrites (old new : Ports) : Type 0 where
  pub way : (role : Role) → (new role).way ≡ (old role).way
  pub name : (role : Role) → (new role).name ≡ (old role).name
  pub read_faults : (role : Role) → (new role).read_faults ≡ (old role).read_faults

-- These texts were written in turn.
pub record WrittenSoFar (ws : List Written) (old new : Ports) : Type 0 where
  pub grown : HaveGrown ws old new
  pub rest : OnlyWrites old new
  pub faults : (role : Role) → (old role).write_faults ≤ (new role).write_faults

-- A write of this role has failed.
pub record FailedToWrite (ws : List Written) (role : Role) (old new : Ports) : Type 0 where
  pub listed : is_written ws role ≡ true
  pub stopped : HaveStopped ws role old new
  pub rest : OnlyWrites old new
  pub rose : Rose (old role).write_faults (new role).write_faults

-- All were written, or one of them was not.
abbrev pub WritesInTurn : List Written → Result (Unit {0}) Role → Ports → Ports → Type 0
WritesInTurn ws (Ok done) old new = WrittenSoFar ws old new
WritesInTurn ws (Err role) old new = FailedToWrite ws role old new
