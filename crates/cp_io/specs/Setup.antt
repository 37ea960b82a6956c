-- What a desk in memory is made from: the bytes before its roles, and the calls that are to fail.
use Rattle.std.specs.Prelude.{◌==◌, ◌&&◌, ℕ, List, [], ◌∷◌, Bool, true, cond, not}
use Rattle.std.specs.List.{list_any}
use Rattle.cp_io.specs.declared.role.Role.{Role}
use Rattle.cp_io.specs.declared.setup.Input.{Input}
use Rattle.cp_io.specs.declared.setup.FailAt.{FailAt}
use Rattle.cp_io.specs.Roles.{same_role}

-- each role is named at most once
abbrev pub named_once : List Input → Bool
named_once [] = true
named_once (i ∷ rest) = not (list_any (λ j. same_role i.role j.role) rest) && named_once rest

-- the bytes that these inputs put before a role: none where they don't name it
abbrev pub input_of : List Input → Role → List ℕ
input_of [] role = []
input_of (i ∷ rest) role = cond (same_role i.role role) i.bytes.items (input_of rest role)

-- a list names the nth call on a role
abbrev pub names_call : Role → ℕ → List FailAt → Bool
names_call role nth failing = list_any (λ f. same_role f.role role && (f.nth == nth)) failing
