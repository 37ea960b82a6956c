-- The rule that the claims keep between any two steps of their seats.
use Rattle.std.specs.Prelude.{◌≡◌, ℕ, ◌+◌, ◌<◌, ◌≤◌, ◌^◌, min, true, List, [], All, length, slice_index, sum_by, if◌then◌else◌}
use mathlib.Core.Option.{some}
use lib.ListN.{get_elem?}
use Rattle.atomic_table.specs.Table.{State}
use Rattle.cp_claim.specs.Views.{View, Share, all_shares, times, times_named, ends, once_below, HasRead}

-- what counts of a view: nothing, once the seat was taken in
abbrev pub shares_of : View → List Share
shares_of v = if v.lives then all_shares v else []

abbrev pub drawn_of : View → List ℕ
drawn_of v = if v.lives then v.drawn else []

-- the seat made as number `place`, of claims with this limit and so many seats
pub record IsSeatAt (bound count place : ℕ) (v : View) : Type 0 where
  pub limit : v.limit ≡ bound
  pub number : v.mine.number ≡ place
  pub made : place ≡ 0 → v.made ≡ count

-- of a table whose views are those of the seats, in the order in which they were made
pub record GivesEachOnce (limit : ℕ) (s : State (Unit {0}) View) : Type 0 where
  pub one_word : length s.words ≡ 1
  pub small : limit ≤ 2000000
  pub few : length s.views < 2 ^ 32
  pub seats : (i : ℕ) (v : View) → get_elem? s.views i ≡ some v → v.lives ≡ true → IsSeatAt limit (length s.views) i v
  -- each seat number given out is in just one living view, and no other number is in any
  pub numbers : (w : ℕ) → sum_by (λ v. times_named w (shares_of v)) s.views ≡ once_below w (length s.views)
  pub counted : sum_by (λ v. length (shares_of v)) s.views ≡ length s.views
  -- the living views together have each number below the limit and below the word once, and no other number
  pub drawn : (x : ℕ) → sum_by (λ v. times x (drawn_of v)) s.views ≡ once_below x (min limit (slice_index s.words 0))
  -- where a seat number has ended, the word is above the limit
  pub ended : (i : ℕ) (v : View) → get_elem? s.views i ≡ some v → All (HasRead limit (slice_index s.words 0)) (shares_of v)
  -- each step on the word drew a number or ended a seat number: so the word is at most the limit and the count of ended numbers
  pub steps : slice_index s.words 0 ≡ min limit (slice_index s.words 0) + sum_by (λ v. ends (shares_of v)) s.views
