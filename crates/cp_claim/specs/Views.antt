-- What a seat of claims knows, and what each call makes of it.
use Rattle.std.specs.Prelude.{◌≡◌, ℕ, ◌+◌, ◌<◌, ◌≤◌, ◌==◌, nat_lt, Bool, true, false, List, [], ◌∷◌, ◌++◌, Option, Some, None, is_some, All, count_by, if◌then◌else◌}
use Rattle.std.specs.Option.{ForSome}
use Rattle.atomic_table.specs.Table.{Me, Step}
use Rattle.atomic_table.specs.Seated.{TableId}

-- a seat number; and where the seat has ended, the word that it read then
pub record Share : Type 0 where
  pub number : ℕ
  pub end : Option ℕ

-- Whether the seat lives, which ends where another takes it in; the limit; at number 0, how many seats were made; the
-- numbers drawn, by the seat and by those that it took in; its own share, and the shares of those that it took in.
pub record View : Type 0 where
  pub lives : Bool
  pub limit : ℕ
  pub made : ℕ
  pub drawn : List ℕ
  pub mine : Share
  pub others : List Share

-- claims: which table they are, and the limit
pub record Counter : Type 0 where
  pub table : TableId
  pub limit : ℕ

-- a seat: the claims that it draws from, and what it knows
pub record Sitting : Type 0 where
  pub counter : Counter
  pub view : View

abbrev pub all_shares : View → List Share
all_shares v = v.mine ∷ v.others

-- how often the number stands in the list
abbrev pub times : ℕ → List ℕ → ℕ
times x xs = count_by (λ y. y == x) xs

-- how many shares are of the seat number
abbrev pub times_named : ℕ → List Share → ℕ
times_named w ks = count_by (λ k. k.number == w) ks

-- how many of the seat numbers have ended
abbrev pub ends : List Share → ℕ
ends ks = count_by (λ k. is_some k.end) ks

-- once for a number below the bound, and never for another
abbrev pub once_below : ℕ → ℕ → ℕ
once_below x n = if nat_lt x n then 1 else 0

-- if the seat number has ended, the word that it read was at least the limit, and the word has grown since
abbrev pub HasRead : ℕ → ℕ → Share → Type 0
HasRead limit word k = ForSome k.end (λ read. (limit ≤ read) × (read < word))

-- the seat is number 0, and each seat number given out is its own or one that it took in
abbrev pub IsAlone : View → Type 0
IsAlone v = (v.mine.number ≡ 0) × ((w : ℕ) → w < v.made → 0 < times_named w (all_shares v))

-- the share of a seat that hasn't ended
abbrev pub share : ℕ → Share
share w = record { number = w; end = None }

-- seat number 0 of new claims
abbrev pub founder : ℕ → View
founder limit = record { lives = true; limit = limit; made = 1; drawn = []; mine = share 0; others = [] }

-- a seat that was taken in
abbrev pub spent : View
spent = record { lives = false; limit = 0; made = 0; drawn = []; mine = share 0; others = [] }

-- seat number 0 after it split
abbrev pub parent : View → View
parent v = record v { made = v.made + 1 }

-- the new seat
abbrev pub child : View → View
child v = record { lives = true; limit = v.limit; made = 0; drawn = []; mine = share v.made; others = [] }

-- the first seat after it took in the second
abbrev pub joined : View → View → View
joined v w = record v { drawn = v.drawn ++ w.drawn; others = v.others ++ all_shares w }

abbrev pub with_number : ℕ → View → View
with_number x v = record v { drawn = v.drawn ++ x ∷ [] }

abbrev pub with_end : ℕ → View → View
with_end word v = record v { mine = record v.mine { end = Some word } }

-- the seat may have drawn or ended, and is else as before
abbrev pub DrawsOnly : View → View → Type 0
DrawsOnly v w = w ≡ record v { drawn = w.drawn; mine = record v.mine { end = w.mine.end } }

-- a draw: a word below the limit is drawn, and what the seat drew before lies below it; at another word the seat ends
abbrev pub Draws : Step (Unit {0}) → Me (Unit {0}) View → ℕ → Me (Unit {0}) View → Type 0
Draws _ me word me' = (me'.1 ≡ me.1) × (word < me.0.limit → (me'.0 ≡ with_number word me.0) × All (λ y. y < word) me.0.drawn) × (me.0.limit ≤ word → me'.0 ≡ with_end word me.0)
