-- Paths: how the links of the nodes go along a list of entries, and what a write does to that.
use Rattle.std.proofs.Common.{◌≡◌, ◌≢◌, ◌<◌, ◌≤◌, ◌-◌, ◌⊎◌, ℕ, suc, cond, eqb, List, [], ◌∷◌, ◌++◌, length, get_or, slice_get, Option, Some, None, refl, sym, ap, subst, ◌∙◌, inl, inr, arith, eq-eqb, ne_eqb}
use Rattle.std.proofs.lemmas.Bool.{cases_eq}
use Rattle.std.proofs.lemmas.Option.{slice_get_within, slice_get_read}
use Rattle.cp_chain.specs.declared.node.Node.{Node}
use Rattle.cp_chain.specs.Chains.{Entry, Each, AreDistinct, handles, find_item, first_handle, next_handle, last_handle, last_or, prev_from}
use Rattle.cp_chain.specs.Nodes.{node, with_next, with_prev, item_in, link_handle, IsPath, AreFree, IsAhead, walk, entry_then}
use Rattle.cp_chain.proofs.lemmas.Apart.{Each-map}
use Rattle.cp_chain.proofs.lemmas.Entries.{found-later}
use Rattle.cp_chain.proofs.NodeFacts.{item-at, with_next-same, with_next-other, with_prev-same, with_prev-other}

abbrev pub no_link : ℕ
no_link = 4294967295

-- a choice by whether a number is the link that names no node
pub at-no_link : (at x y : ℕ) → at ≡ no_link → cond (eqb at no_link) x y ≡ x
at-no_link at x y e = ap (λ b. cond b x y) (eq-eqb at no_link e)

pub at-link : (at x y : ℕ) → at ≢ no_link → cond (eqb at no_link) x y ≡ y
at-link at x y n = ap (λ b. cond b x y) (ne_eqb at no_link n)

module _ {T : Type 0} where
  pub join : (ns : List (Node T)) (xs ys : List (Entry T)) (b f l m last a : ℕ) → IsPath ns b f xs l m → IsPath ns l m ys last a → IsPath ns b f (xs ++ ys) last a
  join ns [] ys b f l m last a p q =
      let back : l ≡ b = p.1 in
      let front : m ≡ f = sym p.0 in
      subst (λ k. IsPath ns k f ys last a) back (subst (λ k. IsPath ns l k ys last a) front q)
  join ns (x ∷ xs) ys b f l m last a p q = (p.0, p.1, p.2, join ns xs ys x.handle p.0 l m last a p.3 q)

  -- a path is cut at an entry
  pub record Parted (ns : List (Node T)) (b f : ℕ) (xs : List (Entry T)) (e : Entry T) (ys : List (Entry T)) (last a : ℕ) : Type 0 where
    pub prev : ℕ
    pub next : ℕ
    pub front : IsPath ns b f xs prev e.handle
    pub here : slice_get ns e.handle ≡ Some (node (Some e.item) prev next)
    pub back : IsPath ns e.handle next ys last a

  pub part : (ns : List (Node T)) (b f : ℕ) (xs : List (Entry T)) (e : Entry T) (ys : List (Entry T)) (last a : ℕ) → IsPath ns b f (xs ++ e ∷ ys) last a → Parted ns b f xs e ys last a
  part ns b f [] e ys last a p = record { prev = b; next = p.0; front = (p.1, refl); here = p.2; back = p.3 }
  part ns b f (x ∷ xs) e ys last a p =
      let r = part ns x.handle p.0 xs e ys last a p.3 in
      record { prev = r.prev; next = r.next; front = (p.0, p.1, p.2, r.front); here = r.here; back = r.back }

  -- what is written elsewhere keeps it
  pub frame : (ns ms : List (Node T)) (es : List (Entry T)) (b f l a : ℕ) → Each (λ k. slice_get ms k ≡ slice_get ns k) (handles es) → IsPath ns b f es l a → IsPath ms b f es l a
  frame ns ms [] b f l a s p = p
  frame ns ms (e ∷ es) b f l a s p = (p.0, p.1, s.0 ∙ p.2, frame ns ms es e.handle p.0 l a s.1 p.3)

  -- each entry's node keeps its item
  pub items : (ns : List (Node T)) (es : List (Entry T)) (b f l a : ℕ) → IsPath ns b f es l a → Each (λ k. (x : T) × (item_in ns k ≡ Some x)) (handles es)
  items ns [] b f l a p = tt
  items ns (e ∷ es) b f l a p = ((e.item, item-at ns e.handle _ p.2), items ns es e.handle p.0 l a p.3)

  pub within : (ns : List (Node T)) (es : List (Entry T)) (b f l a : ℕ) → IsPath ns b f es l a → Each (λ k. k < length ns) (handles es)
  within ns [] b f l a p = tt
  within ns (e ∷ es) b f l a p = (slice_get_within ns e.handle _ p.2, within ns es e.handle p.0 l a p.3)

  -- what holds of each handle holds of the last
  pub at-last : (P : ℕ → Type 0) (ns : List (Node T)) (e : Entry T) (es : List (Entry T)) (b f l a : ℕ) → Each P (handles (e ∷ es)) → IsPath ns b f (e ∷ es) l a → P l
  at-last P ns e [] b f l a h p = let q : l ≡ e.handle = p.3.1 in subst P (sym q) h.0
  at-last P ns e (r ∷ rs) b f l a h p = at-last P ns r rs e.handle p.0 l a h.1 p.3

  -- the last entry names another one after it
  pub last-next : (ns : List (Node T)) (e : Entry T) (es : List (Entry T)) (b f l a x : ℕ) → AreDistinct (handles (e ∷ es)) → IsPath ns b f (e ∷ es) l a → IsPath (with_next ns l x) b f (e ∷ es) l x
  last-next ns e [] b f l a x d p =
      let q : l ≡ e.handle = p.3.1 in
      (x, p.1, subst (λ k. slice_get (with_next ns k x) e.handle ≡ Some (node (Some e.item) b x)) (sym q) (with_next-same ns e.handle x (Some e.item) b p.0 p.2), (refl, q))
  last-next ns e (r ∷ rs) b f l a x d p =
      let apart : e.handle ≢ l = at-last (λ k. e.handle ≢ k) ns r rs e.handle p.0 l a d.0 p.3 in
      (p.0, p.1, with_next-other ns l x e.handle apart ∙ p.2, last-next ns r rs e.handle p.0 l a x d.1 p.3)

  -- the last entry of a whole path names another one after it, or that one is the first
  pub end-next : (ns : List (Node T)) (es : List (Entry T)) (f l a x : ℕ) → length ns ≤ no_link → AreDistinct (handles es) → IsPath ns no_link f es l a → IsPath (with_next ns l x) no_link (cond (eqb l no_link) x f) es l x
  end-next ns [] f l a x few d p = (at-no_link l x f p.1, p.1)
  end-next ns (e ∷ es) f l a x few d p =
      let low : l < length ns = at-last (λ k. k < length ns) ns e es no_link f l a (within ns (e ∷ es) no_link f l a p) p in
      let real : l ≢ no_link = λ q. omega arith in
      subst (λ k. IsPath (with_next ns l x) no_link k (e ∷ es) l x) (sym (at-link l x f real)) (last-next ns e es no_link f l a x d p)

  -- the first entry of a path to its end names another one before it, or that one is the last
  pub end-prev : (ns : List (Node T)) (es : List (Entry T)) (b f l x : ℕ) → length ns ≤ no_link → AreDistinct (handles es) → IsPath ns b f es l no_link → IsPath (with_prev ns f x) x f es (cond (eqb f no_link) x l) no_link
  end-prev ns [] b f l x few d p = (p.0, at-no_link f x l p.0)
  end-prev ns (e ∷ es) b f l x few d p =
      let q : f ≡ e.handle = p.1 in
      let low : e.handle < length ns = slice_get_within ns e.handle _ p.2 in
      let real : f ≢ no_link = λ r. omega arith in
      let here : slice_get (with_prev ns f x) e.handle ≡ Some (node (Some e.item) x p.0) =
      subst (λ k. slice_get (with_prev ns k x) e.handle ≡ Some (node (Some e.item) x p.0)) (sym q) (with_prev-same ns e.handle x (Some e.item) b p.0 p.2) in
      let rest = frame ns (with_prev ns f x) es e.handle p.0 l no_link
      (Each-map (λ k. e.handle ≢ k) (λ k. slice_get (with_prev ns f x) k ≡ slice_get ns k) (handles es) (λ k n. with_prev-other ns f x k (λ r. n (sym q ∙ sym r))) d.0) p.3 in
      (p.0, p.1, here, subst (λ k. IsPath (with_prev ns f x) e.handle p.0 es k no_link) (sym (at-link f x l real)) rest)

  -- ---- what is read of a path

  pub walk-path : (ns : List (Node T)) (es : List (Entry T)) (b f l a : ℕ) → IsPath ns b f es l a → walk ns (length es) f ≡ es
  walk-path ns [] b f l a p = refl
  walk-path ns (e ∷ es) b f l a p =
      ap (λ k. entry_then (slice_get ns k) k (walk ns (length es))) p.1
      ∙ ap (λ o. entry_then o e.handle (walk ns (length es))) p.2
      ∙ ap (λ r. e ∷ r) (walk-path ns es e.handle p.0 l a p.3)

  pub first-is : (ns : List (Node T)) (es : List (Entry T)) (b f l : ℕ) → length ns ≤ no_link → IsPath ns b f es l no_link → link_handle f ≡ first_handle es
  first-is ns [] b f l few p = ap (λ c. cond c None (Some f)) (eq-eqb f no_link p.0)
  first-is ns (e ∷ es) b f l few p =
      let low : e.handle < length ns = slice_get_within ns e.handle _ p.2 in
      let q : f ≡ e.handle = p.1 in
      ap (λ c. cond c None (Some f)) (ne_eqb f no_link (λ r. omega arith)) ∙ ap Some q

  pub last-is-or : (ns : List (Node T)) (es : List (Entry T)) (b f l a : ℕ) → IsPath ns b f es l a → l ≡ last_or b es
  last-is-or ns [] b f l a p = p.1
  last-is-or ns (e ∷ es) b f l a p = last-is-or ns es e.handle p.0 l a p.3

  pub last-is : (ns : List (Node T)) (es : List (Entry T)) (f l : ℕ) → length ns ≤ no_link → IsPath ns no_link f es l no_link → link_handle l ≡ last_handle es
  last-is ns [] f l few p = ap (λ c. cond c None (Some l)) (eq-eqb l no_link p.1)
  last-is ns (e ∷ es) f l few p =
      let low : l < length ns = at-last (λ k. k < length ns) ns e es no_link f l no_link (within ns (e ∷ es) no_link f l no_link p) p in
      ap (λ c. cond c None (Some l)) (ne_eqb l no_link (λ r. omega arith)) ∙ ap Some (last-is-or ns es e.handle p.0 l no_link p.3)

  pub next-is : (ns : List (Node T)) (es : List (Entry T)) (b f l h : ℕ) (o : Option T) (prev next : ℕ) (x : T) → length ns ≤ no_link → IsPath ns b f es l no_link → slice_get ns h ≡ Some (node o prev next) → find_item es h ≡ Some x → link_handle next ≡ next_handle es h
  next-is ns [] b f l h o prev next x few p g i = absurd (cc)
  next-is ns (e ∷ es) b f l h o prev next x few p g i =
      elim (cases_eq e.handle h) [
        | inl q ↦
            let got : Some (node (Some e.item) b p.0) ≡ Some (node o prev next) = sym p.2 ∙ ap (slice_get ns) q ∙ g in
            let same : node (Some e.item) b p.0 ≡ node o prev next = cc in
            let link : p.0 ≡ next = ap (λ (n : Node T). n.next) same in
            ap link_handle (sym link) ∙ first-is ns es e.handle p.0 l few p.3 ∙ sym (ap (λ c. cond c (first_handle es) (next_handle es h)) (eq-eqb e.handle h q))
        | inr n ↦
            next-is ns es e.handle p.0 l h o prev next x few p.3 g (sym (found-later e es h n) ∙ i)
            ∙ sym (ap (λ c. cond c (first_handle es) (next_handle es h)) (ne_eqb e.handle h n))
      ]

  pub prev-is : (ns : List (Node T)) (es : List (Entry T)) (b f l h : ℕ) (o : Option T) (prev next : ℕ) (x : T) → length ns ≤ no_link → IsPath ns b f es l no_link → slice_get ns h ≡ Some (node o prev next) → find_item es h ≡ Some x → link_handle prev ≡ prev_from (link_handle b) es h
  prev-is ns [] b f l h o prev next x few p g i = absurd (cc)
  prev-is ns (e ∷ es) b f l h o prev next x few p g i =
      elim (cases_eq e.handle h) [
        | inl q ↦
            let got : Some (node (Some e.item) b p.0) ≡ Some (node o prev next) = sym p.2 ∙ ap (slice_get ns) q ∙ g in
            let same : node (Some e.item) b p.0 ≡ node o prev next = cc in
            let link : b ≡ prev = ap (λ (n : Node T). n.prev) same in
            ap link_handle (sym link) ∙ sym (ap (λ c. cond c (link_handle b) (prev_from (Some e.handle) es h)) (eq-eqb e.handle h q))
        | inr n ↦
            let low : e.handle < length ns = slice_get_within ns e.handle _ p.2 in
            let here : link_handle e.handle ≡ Some e.handle = ap (λ c. cond c None (Some e.handle)) (ne_eqb e.handle no_link (λ r. omega arith)) in
            prev-is ns es e.handle p.0 l h o prev next x few p.3 g (sym (found-later e es h n) ∙ i)
            ∙ ap (λ w. prev_from w es h) here
            ∙ sym (ap (λ c. cond c (link_handle b) (prev_from (Some e.handle) es h)) (ne_eqb e.handle h n))
      ]

  -- the path from an entry on
  pub record Onward (ns : List (Node T)) (f l : ℕ) (es : List (Entry T)) : Type 0 where
    pub before : ℕ
    pub path : IsPath ns before f es l no_link

  -- ---- freed nodes

  pub free-frame : (ns ms : List (Node T)) (f : ℕ) (gs : List ℕ) → Each (λ k. slice_get ms k ≡ slice_get ns k) gs → AreFree ns f gs → AreFree ms f gs
  free-frame ns ms f [] s p = tt
  free-frame ns ms f (g ∷ gs) s p = (p.0, p.1, p.2, s.0 ∙ p.3, free-frame ns ms p.1 gs s.1 p.4)

  pub free-low : (ns : List (Node T)) (f : ℕ) (gs : List ℕ) → AreFree ns f gs → Each (λ k. k < length ns) gs
  free-low ns f [] p = tt
  free-low ns f (g ∷ gs) p = (slice_get_within ns g _ p.3, free-low ns p.1 gs p.4)

  -- a number that is no freed node's: that of a node with an item, or past the nodes
  pub record IsTaken (ns : List (Node T)) (k : ℕ) : Type 0 where
    pub taken : (length ns ≤ k) ⊎ ((x : T) × (item_in ns k ≡ Some x))

  pub free-apart : (ns : List (Node T)) (f k : ℕ) (gs : List ℕ) → IsTaken ns k → AreFree ns f gs → Each (λ g. g ≢ k) gs
  free-apart ns f k [] t p = tt
  free-apart ns f k (g ∷ gs) t p = (here t.taken, free-apart ns p.1 k gs t p.4)
    where
      here : (length ns ≤ k) ⊎ ((x : T) × (item_in ns k ≡ Some x)) → g ≢ k
      here (inl past) q = let low : g < length ns = slice_get_within ns g _ p.3 in omega arith
      here (inr some) q =
          let none : item_in ns g ≡ None = item-at ns g _ p.3 in
          let clash : None ≡ Some some.0 = sym none ∙ ap (item_in ns) q ∙ some.1 in
          absurd (cc)

  -- ---- an iterator's step

  pub record Step (ns : List (Node T)) (at m : ℕ) : Type 0 where
    pub next : Node T
    pub item : T
    pub here : slice_get ns at ≡ Some next
    pub keeps : next.item ≡ Some item
    pub rest : IsAhead ns next.next m
    pub list : walk ns (suc m) at ≡ record { handle = at; item = item } ∷ walk ns m next.next

  step-from : (ns : List (Node T)) (at m before last : ℕ) (es : List (Entry T)) → IsPath ns before at es last no_link → length es ≡ suc m → Step ns at m
  step-from ns at m before last [] p q = absurd (omega arith)
  step-from ns at m before last (e ∷ es) p q =
      let n : Node T = node (Some e.item) before p.0 in
      let here : slice_get ns at ≡ Some n = ap (slice_get ns) p.1 ∙ p.2 in
      let len : length es ≡ m = omega arith in
      let w : walk ns m p.0 ≡ es = subst (λ k. walk ns k p.0 ≡ es) len (walk-path ns es e.handle p.0 last no_link p.3) in
      record {
        next = n;
        item = e.item;
        here = here;
        keeps = refl;
        rest = record { before = e.handle; last = last; path = subst (λ xs. IsPath ns e.handle p.0 xs last no_link) (sym w) p.3; len = ap length w ∙ len };
        list = ap (λ o. entry_then o at (walk ns m)) here;
      }

  pub ahead-step : (ns : List (Node T)) (at left : ℕ) → IsAhead ns at left → 0 < left → Step ns at (left - 1)
  ahead-step ns at left a l = step-from ns at (left - 1) a.before a.last (walk ns left at) a.path (a.len ∙ omega arith)

  pub ahead-list : (ns : List (Node T)) (at left : ℕ) → 0 < left → walk ns left at ≡ walk ns (suc (left - 1)) at
  ahead-list ns at left l = let q : left ≡ suc (left - 1) = omega arith in ap (λ n. walk ns n at) q

  pub step-next : (ns : List (Node T)) (at m : ℕ) (s : Step ns at m) (n : Node T) → at < length ns → n ≡ get_or ns at n → s.next ≡ n
  step-next ns at m s n l r =
      let read : slice_get ns at ≡ Some n = slice_get_read ns (length ns) at n refl l r in
      let e : Some s.next ≡ Some n = sym s.here ∙ read in
      cc

  pub step-list : (ns : List (Node T)) (at left : ℕ) (a : IsAhead ns at left) (n : Node T) (x : T) (h : ℕ) → 0 < left → at < length ns → n ≡ get_or ns at n → n.item ≡ Some x → h ≡ at
      → walk ns left at ≡ record { handle = h; item = x } ∷ walk ns (left - 1) n.next
  step-list ns at left a n x h l low r i eh =
      let s = ahead-step ns at left a l in
      let q : s.next ≡ n = step-next ns at (left - 1) s n low r in
      let both : Some s.item ≡ Some x = sym s.keeps ∙ ap (λ (k : Node T). k.item) q ∙ i in
      let item : s.item ≡ x = cc in
      ahead-list ns at left l ∙ s.list
      ∙ ap (λ (k : Node T). record { handle = at; item = s.item } ∷ walk ns (left - 1) k.next) q
      ∙ ap (λ y. record { handle = at; item = y } ∷ walk ns (left - 1) n.next) item
      ∙ ap (λ k. record { handle = k; item = x } ∷ walk ns (left - 1) n.next) (sym eh)

  pub step-ahead : (ns : List (Node T)) (at left : ℕ) (a : IsAhead ns at left) (n : Node T) → 0 < left → at < length ns → n ≡ get_or ns at n → IsAhead ns n.next (left - 1)
  step-ahead ns at left a n l low r =
      let s = ahead-step ns at left a l in
      subst (λ (k : Node T). IsAhead ns k.next (left - 1)) (step-next ns at (left - 1) s n low r) s.rest
