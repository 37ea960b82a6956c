-- The names of a command's roles. Two roles have different names, with two exceptions.
use Rattle.std.specs.Prelude.{◌&&◌, ◌||◌, ℕ, Bool, false, not, List, [], ◌∷◌, codes, if◌then◌else◌}
use Rattle.std.specs.List.{list_any}
use Rattle.std.specs.Str.{bytes_eq}

-- a role that has a name: an input or an output
pub record Named : Type 0 where
  pub name : List ℕ
  pub is_input : Bool

-- one role is an input and the other an output
abbrev pub in_and_out : Named → Named → Bool
in_and_out a b = if a.is_input then not b.is_input else b.is_input

-- the roles have one name: neither is left out, nor are they an input and an output of the program's own
abbrev pub clash : Named → Named → Bool
clash a b = bytes_eq a.name b.name && (not (bytes_eq a.name (codes "none")) && not (bytes_eq a.name (codes "std") && in_and_out a b))

-- two of the roles have one name
abbrev pub some_clash : List Named → Bool
some_clash [] = false
some_clash (role ∷ roles) = list_any (clash role) roles || some_clash roles
