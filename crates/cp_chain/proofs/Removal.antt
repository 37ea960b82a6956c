-- The nodes hold the entries: what a removal leaves.
use Rattle.std.proofs.Common.{◌≡◌, ◌≢◌, ◌<◌, ◌≤◌, ◌+◌, ◌-◌, ◌⊎◌, ℕ, Bool, cond, eqb, List, [], ◌∷◌, ◌++◌, length, set, slice_get, Some, None, refl, sym, ap, subst, ◌∙◌, inl, inr, arith, length-append, length-set}
use Rattle.std.proofs.lemmas.Bool.{cases_eq}
use Rattle.std.proofs.lemmas.List.{map-append}
use Rattle.std.proofs.lemmas.Option.{slice_get_within}
use Rattle.cp_chain.specs.declared.node.Node.{Node}
use Rattle.cp_chain.specs.Chains.{Entry, Each, AreDistinct, AreRising, handles, find_item, without}
use Rattle.cp_chain.specs.Nodes.{node, with_next, with_prev, item_in, IsPath, Holds, IsLinked, walk}
use Rattle.cp_chain.proofs.lemmas.Apart.{Each-map, Each-both, Each-join, Each-flip, Each-across, AreDistinct-left, AreDistinct-right, AreDistinct-across, AreDistinct-drop, AreRising-drop}
use Rattle.cp_chain.proofs.lemmas.Entries.{cut, none-found, found-beside}
use Rattle.cp_chain.proofs.NodeFacts.{item-at, with_next-length, with_next-item, with_next-other, with_prev-length, with_prev-item, with_prev-other, set-same, set-other, set-item-other}
use Rattle.cp_chain.proofs.Holding.{linked-as}
use Rattle.cp_chain.proofs.Paths.{no_link, part, join, frame, items, within, at-last, end-next, end-prev, free-frame, free-apart, IsTaken}

module _ {T : Type 0} where
  -- the link before an entry: none of the numbers that the last of those before it is none of, and that aren't past the nodes
  pub link-before : (P : ℕ → Type 0) (ns : List (Node T)) (xs : List (Entry T)) (f l a : ℕ) → Each P (handles xs) → P no_link → IsPath ns no_link f xs l a → P l
  link-before P ns [] f l a each none p = subst P (sym p.1) none
  link-before P ns (x ∷ xs) f l a each none p = at-last P ns x xs no_link f l a each p

  -- and the link after it, alike
  pub link-after : (P : ℕ → Type 0) (ns : List (Node T)) (xs : List (Entry T)) (b f l : ℕ) → Each P (handles xs) → P no_link → IsPath ns b f xs l no_link → P f
  link-after P ns [] b f l each none p = subst P (sym p.0) none
  link-after P ns (x ∷ xs) b f l each none p = subst P (sym p.1) each.0

  no-handle : (ns : List (Node T)) (hs : List ℕ) → length ns ≤ no_link → Each (λ k. k < length ns) hs → Each (λ k. k ≢ no_link) hs
  no-handle ns hs few low = Each-map (λ k. k < length ns) (λ k. k ≢ no_link) hs (λ k l q. omega arith) low

  -- a number apart from both parts, as a link to a neighbour is from the other part
  pub record Neighbours (ns : List (Node T)) (h prev next : ℕ) (xs ys : List ℕ) : Type 0 where
    pub few : length ns ≤ no_link
    pub low : h < length ns
    pub before : Each (λ k. k ≢ h) xs
    pub behind : Each (λ k. k ≢ h) ys
    pub prev-behind : Each (λ k. k ≢ prev) ys
    pub next-before : Each (λ k. k ≢ next) xs
    pub prev-here : h ≢ prev
    pub next-here : h ≢ next
    pub prev-taken : IsTaken ns prev
    pub next-taken : IsTaken ns next
    pub here-taken : IsTaken ns h

  pub handles-cut : (xs : List (Entry T)) (e : Entry T) (ys : List (Entry T)) → handles (xs ++ e ∷ ys) ≡ handles xs ++ e.handle ∷ handles ys
  handles-cut xs e ys = map-append (λ (x : Entry T). x.handle) xs (e ∷ ys)

  pub neighbours : (ns : List (Node T)) (first last prev next : ℕ) (xs : List (Entry T)) (e : Entry T) (ys : List (Entry T)) → length ns ≤ no_link → AreDistinct (handles (xs ++ e ∷ ys))
      → IsPath ns no_link first xs prev e.handle → slice_get ns e.handle ≡ Some (node (Some e.item) prev next) → IsPath ns e.handle next ys last no_link
      → Neighbours ns e.handle prev next (handles xs) (handles ys)
  neighbours ns first last prev next xs e ys few distinct front here back =
      let h = e.handle in
      let low : h < length ns = slice_get_within ns h _ here in
      let d : AreDistinct (handles xs ++ h ∷ handles ys) = subst AreDistinct (handles-cut xs e ys) distinct in
      let across = AreDistinct-across (handles xs) (h ∷ handles ys) d in
      let right = AreDistinct-right (handles xs) (h ∷ handles ys) d in
      let before : Each (λ k. k ≢ h) (handles xs) = Each-map (λ x. Each (λ y. x ≢ y) (h ∷ handles ys)) (λ k. k ≢ h) (handles xs) (λ x q. q.0) across in
      let over = Each-map (λ x. Each (λ y. x ≢ y) (h ∷ handles ys)) (λ x. Each (λ y. x ≢ y) (handles ys)) (handles xs) (λ x q. q.1) across in
      let over-prev : Each (λ x. Each (λ y. y ≢ x) (handles ys)) (handles xs) = Each-map (λ x. Each (λ y. x ≢ y) (handles ys)) (λ x. Each (λ y. y ≢ x) (handles ys)) (handles xs) (λ x q. Each-flip x (handles ys) q) over in
      let over-next = Each-across (handles xs) (handles ys) over in
      let low-xs = within ns xs no_link first prev h front in
      let low-ys = within ns ys h next last no_link back in
      let real : h ≢ no_link = λ q. omega arith in
      let past : IsTaken ns no_link = record { taken = inl few } in
      let taken : (k : ℕ) → (x : T) × (item_in ns k ≡ Some x) → IsTaken ns k = λ k p. record { taken = inr p } in
      record {
        few = few;
        low = low;
        before = before;
        behind = Each-flip h (handles ys) right.0;
        prev-behind = link-before (λ q. Each (λ k. k ≢ q) (handles ys)) ns xs first prev h over-prev (no-handle ns (handles ys) few low-ys) front;
        next-before = link-after (λ q. Each (λ k. k ≢ q) (handles xs)) ns ys h next last over-next (no-handle ns (handles xs) few low-xs) back;
        prev-here = link-before (λ q. h ≢ q) ns xs first prev h (Each-map (λ k. k ≢ h) (λ k. h ≢ k) (handles xs) (λ k n q. n (sym q)) before) real front;
        next-here = link-after (λ q. h ≢ q) ns ys h next last right.0 real back;
        prev-taken = link-before (IsTaken ns) ns xs first prev h (Each-map (λ k. (x : T) × (item_in ns k ≡ Some x)) (IsTaken ns) (handles xs) taken (items ns xs no_link first prev h front)) past front;
        next-taken = link-after (IsTaken ns) ns ys h next last (Each-map (λ k. (x : T) × (item_in ns k ≡ Some x)) (IsTaken ns) (handles ys) taken (items ns ys h next last no_link back)) past back;
        here-taken = record { taken = inr (e.item, item-at ns h _ here) };
      }

  -- the nodes after a removal
  abbrev pub after_removal : List (Node T) → ℕ → ℕ → ℕ → ℕ → List (Node T)
  after_removal ns h prev next free = with_prev (with_next (set ns h (node None no_link free)) prev next) next prev

  pub removal-length : (ns : List (Node T)) (h prev next free : ℕ) → length (after_removal ns h prev next free) ≡ length ns
  removal-length ns h prev next free =
      with_prev-length (with_next (set ns h (node None no_link free)) prev next) next prev ∙ with_next-length (set ns h (node None no_link free)) prev next ∙ length-set ns h (node None no_link free)

  pub removal-item : (ns : List (Node T)) (h prev next free k : ℕ) → item_in (after_removal ns h prev next free) k ≡ item_in (set ns h (node None no_link free)) k
  removal-item ns h prev next free k =
      with_prev-item (with_next (set ns h (node None no_link free)) prev next) next prev k ∙ with_next-item (set ns h (node None no_link free)) prev next k

  pub removal-path : (ns : List (Node T)) (first last free prev next : ℕ) (xs : List (Entry T)) (e : Entry T) (ys : List (Entry T)) → Neighbours ns e.handle prev next (handles xs) (handles ys)
      → AreDistinct (handles xs) → AreDistinct (handles ys) → IsPath ns no_link first xs prev e.handle → IsPath ns e.handle next ys last no_link
      → IsPath (after_removal ns e.handle prev next free) no_link (cond (eqb prev no_link) next first) (xs ++ ys) (cond (eqb next no_link) prev last) no_link
  removal-path ns first last free prev next xs e ys n dx dy front back =
      let h = e.handle in
      let m1 = set ns h (node None no_link free) in
      let m2 = with_next m1 prev next in
      let m3 = with_prev m2 next prev in
      let few = n.few in
      let len1 : length m1 ≡ length ns = length-set ns h (node None no_link free) in
      let len2 : length m2 ≡ length m1 = with_next-length m1 prev next in
      let f1 = frame ns m1 xs no_link first prev h (Each-map (λ k. k ≢ h) (λ k. slice_get m1 k ≡ slice_get ns k) (handles xs) (λ k d. set-other ns h (node None no_link free) k d) n.before) front in
      let f2 = end-next m1 xs first prev h next (omega arith) dx f1 in
      let f3 = frame m2 m3 xs no_link (cond (eqb prev no_link) next first) prev next (Each-map (λ k. k ≢ next) (λ k. slice_get m3 k ≡ slice_get m2 k) (handles xs) (λ k d. with_prev-other m2 next prev k d) n.next-before) f2 in
      let b1 = frame ns m1 ys h next last no_link (Each-map (λ k. k ≢ h) (λ k. slice_get m1 k ≡ slice_get ns k) (handles ys) (λ k d. set-other ns h (node None no_link free) k d) n.behind) back in
      let b2 = frame m1 m2 ys h next last no_link (Each-map (λ k. k ≢ prev) (λ k. slice_get m2 k ≡ slice_get m1 k) (handles ys) (λ k d. with_next-other m1 prev next k d) n.prev-behind) b1 in
      let b3 = end-prev m2 ys h next last prev (omega arith) dy b2 in
      join m3 xs ys no_link (cond (eqb prev no_link) next first) prev next (cond (eqb next no_link) prev last) no_link f3 b3

  pub removal-kept : (ns : List (Node T)) (h prev next free k : ℕ) → (k ≢ prev) × (k ≢ next) → k ≢ h → slice_get (after_removal ns h prev next free) k ≡ slice_get ns k
  removal-kept ns h prev next free k d n =
      with_prev-other (with_next (set ns h (node None no_link free)) prev next) next prev k d.1 ∙ with_next-other (set ns h (node None no_link free)) prev next k d.0 ∙ set-other ns h (node None no_link free) k n

  pub holds-cut : (ns : List (Node T)) (first last free prev next : ℕ) (o : Bool) (xs : List (Entry T)) (e : Entry T) (ys : List (Entry T)) → Holds ns first last free o (xs ++ e ∷ ys)
      → slice_get ns e.handle ≡ Some (node (Some e.item) prev next)
      → Holds (after_removal ns e.handle prev next free) (cond (eqb prev no_link) next first) (cond (eqb next no_link) prev last) e.handle o (xs ++ ys)
  holds-cut ns first last free prev next o xs e ys s was =
      let h = e.handle in
      let freed : Node T = node None no_link free in
      let p = part ns no_link first xs e ys last no_link s.path in
      let got : Some (node (Some e.item) p.prev p.next) ≡ Some (node (Some e.item) prev next) = sym p.here ∙ was in
      let same-node : node (Some e.item) p.prev p.next ≡ node (Some e.item) prev next = cc in
      let same-prev : p.prev ≡ prev = ap (λ (m : Node T). m.prev) same-node in
      let same-next : p.next ≡ next = ap (λ (m : Node T). m.next) same-node in
      let front : IsPath ns no_link first xs prev h = subst (λ k. IsPath ns no_link first xs k h) same-prev p.front in
      let back : IsPath ns h next ys last no_link = subst (λ k. IsPath ns h k ys last no_link) same-next p.back in
      let n = neighbours ns first last prev next xs e ys s.few s.distinct front was back in
      let d : AreDistinct (handles xs ++ h ∷ handles ys) = subst AreDistinct (handles-cut xs e ys) s.distinct in
      let both : handles (xs ++ ys) ≡ handles xs ++ handles ys = map-append (λ (x : Entry T). x.handle) xs ys in
      let dx = AreDistinct-left (handles xs) (h ∷ handles ys) d in
      let dy = AreDistinct-right (handles xs) (h ∷ handles ys) d in
      let m3 = after_removal ns h prev next free in
      let here : slice_get m3 h ≡ Some freed =
      with_prev-other (with_next (set ns h freed) prev next) next prev h n.next-here ∙ with_next-other (set ns h freed) prev next h n.prev-here ∙ set-same ns h freed n.low in
      let off-here = free-apart ns free h s.gaps n.here-taken s.freed in
      let off = Each-both (λ k. k ≢ prev) (λ k. k ≢ next) s.gaps (free-apart ns free prev s.gaps n.prev-taken s.freed) (free-apart ns free next s.gaps n.next-taken s.freed) in
      let kept = Each-map (λ k. ((k ≢ prev) × (k ≢ next)) × (k ≢ h)) (λ k. slice_get m3 k ≡ slice_get ns k) s.gaps (λ k q. removal-kept ns h prev next free k q.0 q.1) (Each-both (λ k. (k ≢ prev) × (k ≢ next)) (λ k. k ≢ h) s.gaps off off-here) in
      let none : find_item (xs ++ ys) h ≡ None =
      none-found (xs ++ ys) h (subst (Each (λ k. h ≢ k)) (sym both) (Each-join (λ k. h ≢ k) (handles xs) (handles ys) (Each-map (λ k. k ≢ h) (λ k. h ≢ k) (handles xs) (λ k m q. m (sym q)) n.before) dy.0)) in
      record {
        path = removal-path ns first last free prev next xs e ys n dx dy.1 front back;
        distinct = subst AreDistinct (sym both) (AreDistinct-drop (handles xs) h (handles ys) d);
        found = λ k. elim (cases_eq k h) [
          | inl q ↦ ap (item_in m3) q ∙ item-at m3 h freed here ∙ sym none ∙ ap (find_item (xs ++ ys)) (sym q)
          | inr m ↦ removal-item ns h prev next free k ∙ set-item-other ns h freed k m ∙ s.found k ∙ found-beside xs e ys k (λ q. m (sym q))
        ];
        rising = λ t. subst AreRising (sym both) (AreRising-drop (handles xs) h (handles ys) (subst AreRising (handles-cut xs e ys) (s.rising t)));
        gaps = h ∷ s.gaps;
        freed = (no_link, free, refl, here, free-frame ns m3 free s.gaps kept s.freed);
        apart = (Each-map (λ k. k ≢ h) (λ k. h ≢ k) s.gaps (λ k m q. m (sym q)) off-here, s.apart);
        total = let t = s.total in omega (arith, length-append xs ys, length-append xs (e ∷ ys), removal-length ns h prev next free);
        few = let f = s.few in omega (arith, removal-length ns h prev next free);
      }

  -- a removal leaves the list without the entry
  pub holds-without : (ns : List (Node T)) (first last free prev next : ℕ) (o : Bool) (es : List (Entry T)) (h : ℕ) (x : T) → Holds ns first last free o es
      → slice_get ns h ≡ Some (node (Some x) prev next)
      → Holds (after_removal ns h prev next free) (cond (eqb prev no_link) next first) (cond (eqb next no_link) prev last) h o (without es h) × (length (without es h) + 1 ≡ length es)
  holds-without ns first last free prev next o es h x s was =
      let found : find_item es h ≡ Some x = sym (s.found h) ∙ item-at ns h _ was in
      let c = cut es h x found in
      let e : Entry T = record { handle = h; item = x } in
      let left = holds-cut ns first last free prev next o c.front e c.back (subst (Holds ns first last free o) c.whole s) was in (
        subst (Holds (after_removal ns h prev next free) (cond (eqb prev no_link) next first) (cond (eqb next no_link) prev last) h o) (sym c.rest) left,
        omega (arith, ap length c.rest, ap length c.whole, length-append c.front c.back, length-append c.front (e ∷ c.back)),
      )

  -- the neighbours are nodes, or there are none
  pub prev-known : (ns : List (Node T)) (first last free prev next : ℕ) (o : Bool) (es : List (Entry T)) (h : ℕ) (x : T) → Holds ns first last free o es → slice_get ns h ≡ Some (node (Some x) prev next)
      → ((prev < length ns) ⊎ (prev ≡ no_link)) × ((next < length ns) ⊎ (next ≡ no_link))
  prev-known ns first last free prev next o es h x s was =
      let found : find_item es h ≡ Some x = sym (s.found h) ∙ item-at ns h _ was in
      let c = cut es h x found in
      let e : Entry T = record { handle = h; item = x } in
      let p = part ns no_link first c.front e c.back last no_link (subst (λ (ys : List (Entry T)). IsPath ns no_link first ys last no_link) c.whole s.path) in
      let got : Some (node (Some x) p.prev p.next) ≡ Some (node (Some x) prev next) = sym p.here ∙ was in
      let same-node : node (Some x) p.prev p.next ≡ node (Some x) prev next = cc in
      let known : (k : ℕ) → k < length ns → (k < length ns) ⊎ (k ≡ no_link) = λ k l. inl l in (
        subst (λ k. (k < length ns) ⊎ (k ≡ no_link)) (ap (λ (m : Node T). m.prev) same-node)
            (link-before (λ k. (k < length ns) ⊎ (k ≡ no_link)) ns c.front first p.prev h (Each-map (λ k. k < length ns) (λ k. (k < length ns) ⊎ (k ≡ no_link)) (handles c.front) known (within ns c.front no_link first p.prev h p.front)) (inr refl) p.front),
        subst (λ k. (k < length ns) ⊎ (k ≡ no_link)) (ap (λ (m : Node T). m.next) same-node)
            (link-after (λ k. (k < length ns) ⊎ (k ≡ no_link)) ns c.back h p.next last (Each-map (λ k. k < length ns) (λ k. (k < length ns) ⊎ (k ≡ no_link)) (handles c.back) known (within ns c.back h p.next last no_link p.back)) (inr refl) p.back),
      )

  pub removed : (ns m1 m2 m3 : List (Node T)) (first f last l free prev next h len : ℕ) (o : Bool) (es : List (Entry T)) (x : T) → Holds ns first last free o es → length es ≡ len
      → slice_get ns h ≡ Some (node (Some x) prev next) → m1 ≡ set ns h (node None no_link free) → m2 ≡ with_next m1 prev next → m3 ≡ with_prev m2 next prev
      → f ≡ cond (eqb prev no_link) next first → l ≡ cond (eqb next no_link) prev last
      → (walk m3 (len - 1) f ≡ without es h) × IsLinked m3 f l (len - 1) h o × (length m3 ≡ length ns)
  removed ns m1 m2 m3 first f last l free prev next h len o es x s q was e1 e2 e3 ef el =
      let wrote : m3 ≡ after_removal ns h prev next free = e3 ∙ ap (λ ms. with_prev ms next prev) (e2 ∙ ap (λ ms. with_next ms prev next) e1) in
      let w = holds-without ns first last free prev next o es h x s was in
      let n = w.1 in
      let r = linked-as _ m3 _ f _ l h o (without es h) (len - 1) w.0 wrote ef el (omega arith) in
      (r.0, r.1, ap length wrote ∙ removal-length ns h prev next free)
