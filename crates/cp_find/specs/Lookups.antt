-- Lookups: clauses in buckets by their literals, each by its number and its signature.
use Rattle.std.specs.Prelude.{ℕ, ◌≢◌, ◌≤◌, ◌<◌, ◌*◌, ◌/◌, ◌^◌, ◌%◌, nat_le, Bool, false, Option, Some, None, List, map, length, slice_index_or, IsTrue, IfSome}
use Rattle.std.specs.List.{Contains}
use Rattle.cp_logic.specs.declared.named.Named.{Named}
use Rattle.cp_find.specs.declared.lookup.Signed.{Signed}
use Rattle.cp_logic.specs.Signatures.{signature}
use Rattle.cp_logic.specs.Literals.{variable_of}
use Rattle.cp_find.specs.Finds.{subsumes, turned}

-- the literals, with the one that is taken in place of its negation, where one is
abbrev pub with_taken : Option ℕ → List ℕ → List ℕ
with_taken None ls = ls
with_taken (Some l) ls = map (turned l) ls

-- the numbered clause is to be a subset of others in the cell of the variable
pub record WantedView : Type 0 where
  pub variable : ℕ
  pub sought : Named

-- the first so many buckets are in use
pub record LookupView : Type 0 where
  pub count : ℕ
  pub buckets : List (List Signed)

-- what a bucket has of a clause
abbrev pub signed : Named → Signed
signed c = record { number = c.number; bits = signature c.clause }

-- which of so many buckets a literal has
abbrev pub place : ℕ → ℕ → ℕ
place l count = count * (l * 2654435769 % 2 ^ 32) / 2 ^ 32

-- of the first so many buckets those of these literals have the clause, but those of the variable
abbrev pub AreListed : ℕ → ℕ → List (List Signed) → List ℕ → Signed → Type 0
AreListed x count buckets ls c = (l : ℕ) (d : List Signed) → Contains ls l → variable_of l ≢ x → Contains (slice_index_or buckets (place l count) d) c

-- each bucket keeps what it has
abbrev pub Keeps : List (List Signed) → List (List Signed) → Type 0
Keeps old new = (k : ℕ) (d : List Signed) (c : Signed) → k < length old → Contains (slice_index_or old k d) c → Contains (slice_index_or new k d) c

-- where buckets are in use, each of the clauses is in the bucket of each of its literals of other variables than this one, whatever else
-- may be there
abbrev pub Covers : ℕ → List Named → LookupView → Type 0
Covers x cs lookup = (c : Named) → Contains cs c → 0 < lookup.count → AreListed x lookup.count lookup.buckets c.clause (signed c)

-- the list has each wanted clause of those that the lookup covers
abbrev pub Serves : WantedView → LookupView → List Signed → Type 0
Serves wanted lookup list = (cs : List Named) (c : Named) → Covers wanted.variable cs lookup → Contains cs c → IsTrue (subsumes wanted.sought c) → Contains list (signed c)

-- the clause is one of these, and has all of the wanted literals
pub record IsMet (wanted : Named) (cs : List Named) (c : Named) : Type 0 where
  pub in_place : Contains cs c
  pub subsumed : IsTrue (subsumes wanted c)

-- whether there is a clause, with the number or a lesser one
abbrev pub is_up_to : Option Named → ℕ → Bool
is_up_to None n = false
is_up_to (Some c) n = nat_le c.number n

-- the clause, if there is one, is met from the number on, and of those in the list that are none has a lesser number
pub record IsBest (wanted : Named) (cs : List Named) (from : ℕ) (list : List Signed) (best : Option Named) : Type 0 where
  pub met : IfSome best (IsMet wanted cs)
  pub above : IfSome best (λ c. from ≤ c.number)
  pub least : (c : Named) → IsMet wanted cs c → from ≤ c.number → Contains list (signed c) → IsTrue (is_up_to best c.number)
