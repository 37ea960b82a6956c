-- How a chain lies in its nodes: each names its two neighbours by their numbers, and the freed ones are a list of their own.
-- The link that names no node is 4,294,967,295. No public clause cites this module.
use Rattle.std.specs.Prelude.{◌≡◌, ◌==◌, ◌≤◌, ◌+◌, ℕ, zero, suc, Bool, List, [], ◌∷◌, length, Option, Some, None, IsTrue, if◌then◌else◌, slice_get}
use Rattle.cp_chain.specs.declared.node.Node.{Node}
use Rattle.cp_chain.specs.Chains.{Entry, handles, find_item, AreDistinct, AreRising}

-- the link as a handle
abbrev pub link_handle : ℕ → Option ℕ
link_handle link = if link == 4294967295 then None else Some link

module _ {T : Type 0} where
  abbrev pub node : Option T → ℕ → ℕ → Node T
  node item prev next = record { item = item; prev = prev; next = next }

  -- the nodes after the link to the next was written in one of them, if there is such a one
  abbrev pub with_next : List (Node T) → ℕ → ℕ → List (Node T)
  with_next [] at link = []
  with_next (n ∷ ns) zero link = node n.item n.prev link ∷ ns
  with_next (n ∷ ns) (suc at) link = n ∷ with_next ns at link

  -- the nodes after the link to the one before was written in one of them, if there is such a one
  abbrev pub with_prev : List (Node T) → ℕ → ℕ → List (Node T)
  with_prev [] at link = []
  with_prev (n ∷ ns) zero link = node n.item link n.next ∷ ns
  with_prev (n ∷ ns) (suc at) link = n ∷ with_prev ns at link

  -- the item of the node
  abbrev pub item_in : List (Node T) → ℕ → Option T
  item_in [] h = None
  item_in (n ∷ ns) zero = n.item
  item_in (n ∷ ns) (suc h) = item_in ns h

  abbrev pub item_then : Option T → ℕ → List (Entry T) → List (Entry T)
  item_then None at rest = []
  item_then (Some x) at rest = record { handle = at; item = x } ∷ rest

  abbrev pub entry_then : Option (Node T) → ℕ → (ℕ → List (Entry T)) → List (Entry T)
  entry_then None at rest = []
  entry_then (Some n) at rest = item_then n.item at (rest n.next)

  -- the entries that so many steps along the links lead to
  abbrev pub walk : List (Node T) → ℕ → ℕ → List (Entry T)
  walk nodes zero at = []
  walk nodes (suc n) at = entry_then (slice_get nodes at) at (walk nodes n)

  -- the links from one number to another go along the entries, in both directions; `before` stands before the first entry, and `after` after the last
  abbrev pub IsPath : List (Node T) → ℕ → ℕ → List (Entry T) → ℕ → ℕ → Type 0
  IsPath nodes before first [] last after = (first ≡ after) × (last ≡ before)
  IsPath nodes before first (e ∷ es) last after =
      (next : ℕ) × (first ≡ e.handle) × (slice_get nodes e.handle ≡ Some (node (Some e.item) before next)) × IsPath nodes e.handle next es last after

  -- the links from a number go along freed nodes, which keep no item
  abbrev pub AreFree : List (Node T) → ℕ → List ℕ → Type 0
  AreFree nodes first [] = Unit {0}
  AreFree nodes first (g ∷ gs) =
      (prev : ℕ) × (next : ℕ) × (first ≡ g) × (slice_get nodes g ≡ Some (node None prev next)) × AreFree nodes next gs

  -- the nodes hold the entries, and the rest of them is free
  pub record Holds (nodes : List (Node T)) (first last free : ℕ) (in_order : Bool) (es : List (Entry T)) : Type 0 where
    pub path : IsPath nodes 4294967295 first es last 4294967295
    pub distinct : AreDistinct (handles es)
    pub found : (h : ℕ) → item_in nodes h ≡ find_item es h
    pub rising : IsTrue in_order → AreRising (handles es)
    pub gaps : List ℕ
    pub freed : AreFree nodes free gaps
    pub apart : AreDistinct gaps
    pub total : length es + length gaps ≡ length nodes
    pub few : length nodes ≤ 4294967295

  -- the nodes hold as many entries as is said
  abbrev pub IsLinked : List (Node T) → ℕ → ℕ → ℕ → ℕ → Bool → Type 0
  IsLinked nodes first last len free in_order =
      Holds nodes first last free in_order (walk nodes len first) × (length (walk nodes len first) ≡ len)

  -- an iterator stands before so many entries
  pub record IsAhead (nodes : List (Node T)) (at left : ℕ) : Type 0 where
    pub before : ℕ
    pub last : ℕ
    pub path : IsPath nodes before at (walk nodes left at) last 4294967295
    pub len : length (walk nodes left at) ≡ left
