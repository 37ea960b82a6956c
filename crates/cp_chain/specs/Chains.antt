-- Chains. A chain is a list of items, each under a handle of its own, by which it is read, taken away and gone on from.
use Rattle.std.specs.Prelude.{◌≢◌, ◌==◌, ◌<◌, ◌≤◌, ◌+◌, ℕ, Bool, List, [], ◌∷◌, length, map, Option, Some, None, IsSome, IsTrue, if◌then◌else◌, refl}
use Rattle.std.specs.Coded.{Coded, code_by, coded×, coded_ℕ, coded_bool, coded_list}

-- an item under its handle
pub record Entry (T : Type 0) : Type 0 where
  pub handle : ℕ
  pub item : T

-- the entries in their order; for how many further ones there is room; how many handles there have been, which are the numbers below that;
-- and whether the handles are known to rise along the list
pub record ChainView (T : Type 0) : Type 0 where
  pub entries : List (Entry T)
  pub spare : ℕ
  pub slots : ℕ
  pub in_order : Bool

abbrev pub entry_code : {T : Type 0} → Coded T → Coded (Entry T)
entry_code {T} code = code_by (ℕ × T) (coded× coded_ℕ code) (λ e. (e.handle, e.item)) (λ p. record { handle = p.0; item = p.1 }) (λ _. refl)

abbrev pub chain_code : {T : Type 0} → Coded T → Coded (ChainView T)
chain_code {T} code =
    code_by
    (List (Entry T) × (ℕ × (ℕ × Bool)))
    (coded× (coded_list (entry_code code)) (coded× coded_ℕ (coded× coded_ℕ coded_bool)))
    (λ c. (c.entries, (c.spare, (c.slots, c.in_order))))
    (λ p. record { entries = p.0; spare = p.1.0; slots = p.1.1.0; in_order = p.1.1.1 })
    (λ _. refl)

-- it holds of each of the handles
abbrev pub Each : (ℕ → Type 0) → List ℕ → Type 0
Each P [] = Unit {0}
Each P (h ∷ hs) = P h × Each P hs

-- no handle stands twice
abbrev pub AreDistinct : List ℕ → Type 0
AreDistinct [] = Unit {0}
AreDistinct (h ∷ hs) = Each (λ k. h ≢ k) hs × AreDistinct hs

-- each handle is below those after it
abbrev pub AreRising : List ℕ → Type 0
AreRising [] = Unit {0}
AreRising (h ∷ hs) = Each (λ k. h < k) hs × AreRising hs

module _ {T : Type 0} where
  abbrev pub handles : List (Entry T) → List ℕ
  handles es = map (λ e. e.handle) es

  -- the item under the handle
  abbrev pub find_item : List (Entry T) → ℕ → Option T
  find_item [] h = None
  find_item (e ∷ es) h = if e.handle == h then Some e.item else find_item es h

  -- the handle is in the list
  abbrev pub HasHandle : List (Entry T) → ℕ → Type 0
  HasHandle es h = IsSome (find_item es h)

  -- the list without the entry of the handle
  abbrev pub without : List (Entry T) → ℕ → List (Entry T)
  without [] h = []
  without (e ∷ es) h = if e.handle == h then es else e ∷ without es h

  -- the entries from the handle on
  abbrev pub from_handle : List (Entry T) → ℕ → List (Entry T)
  from_handle [] h = []
  from_handle (e ∷ es) h = if e.handle == h then e ∷ es else from_handle es h

  abbrev pub first_handle : List (Entry T) → Option ℕ
  first_handle [] = None
  first_handle (e ∷ es) = Some e.handle

  -- the handle of the last entry, or this one if there is none
  abbrev pub last_or : ℕ → List (Entry T) → ℕ
  last_or h [] = h
  last_or h (e ∷ es) = last_or e.handle es

  abbrev pub last_handle : List (Entry T) → Option ℕ
  last_handle [] = None
  last_handle (e ∷ es) = Some (last_or e.handle es)

  -- the handle after this one
  abbrev pub next_handle : List (Entry T) → ℕ → Option ℕ
  next_handle [] h = None
  next_handle (e ∷ es) h = if e.handle == h then first_handle es else next_handle es h

  -- the handle before this one, where that one stands before the first entry
  abbrev pub prev_from : Option ℕ → List (Entry T) → ℕ → Option ℕ
  prev_from before [] h = None
  prev_from before (e ∷ es) h = if e.handle == h then before else prev_from (Some e.handle) es h

  -- the handle before this one
  abbrev pub prev_handle : List (Entry T) → ℕ → Option ℕ
  prev_handle es h = prev_from None es h

  -- the next item gets a handle that there has not been
  abbrev pub HasNewHandle : ChainView T → Type 0
  HasNewHandle c = c.slots < length c.entries + c.spare

  -- what holds of each chain
  pub record IsChain (c : ChainView T) : Type 0 where
    pub distinct : AreDistinct (handles c.entries)
    pub below : Each (λ h. h < c.slots) (handles c.entries)
    pub rising : IsTrue c.in_order → AreRising (handles c.entries)
    pub few : c.slots ≤ 4294967295
    pub full : length c.entries ≤ c.slots
