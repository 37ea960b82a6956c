-- The nodes hold the entries: what an addition and a removal leave.
use Rattle.std.proofs.Common.{◌≡◌, ◌≢◌, ◌<◌, ◌≤◌, ◌+◌, ◌⊎◌, ℕ, suc, Bool, true, false, cond, eqb, List, [], ◌∷◌, ◌++◌, length, set, get_or, slice_get, Some, None, IsSome, refl, sym, ap, subst, ◌∙◌, inl, inr, arith, length-append, length-set}
use Rattle.std.proofs.lemmas.Bool.{cases_eq, false≢true}
use Rattle.std.proofs.lemmas.List.{map-append}
use Rattle.std.proofs.lemmas.Option.{slice_get_within, slice_get_read}
use Rattle.cp_chain.specs.declared.node.Node.{Node}
use Rattle.cp_chain.specs.Chains.{Entry, Each, AreDistinct, AreRising, handles, find_item, HasHandle, IsChain, next_handle, prev_handle}
use Rattle.cp_chain.specs.Nodes.{node, with_next, item_in, AreFree, walk, link_handle, Holds, IsLinked}
use Rattle.cp_chain.proofs.lemmas.Apart.{Each-map, Each-both, AreDistinct-push, AreRising-push}
use Rattle.cp_chain.proofs.lemmas.Entries.{named, none-apart, found-pushed, found-beside-end}
use Rattle.cp_chain.proofs.NodeFacts.{item-at, item-past, some-within, with_next-length, with_next-item, with_next-other, set-same, set-other, set-item-other, push-kept, push-new, push-item-other}
use Rattle.cp_chain.proofs.Paths.{no_link, join, frame, items, within, at-last, end-next, walk-path, next-is, prev-is, free-frame, free-apart, free-low, IsTaken}

module _ {T : Type 0} where
  -- ---- from the entries to the fields

  pub linked : (ns : List (Node T)) (first last free : ℕ) (o : Bool) (es : List (Entry T)) (len : ℕ) → Holds ns first last free o es → length es ≡ len → (walk ns len first ≡ es) × IsLinked ns first last len free o
  linked ns first last free o es len h q =
      let w : walk ns len first ≡ es = ap (λ n. walk ns n first) (sym q) ∙ walk-path ns es no_link first last no_link h.path in
      (w, (subst (Holds ns first last free o) (sym w) h, ap length w ∙ q))

  -- ---- an entry comes at the end

  -- the last entry is no freed node, or there is none
  pub last-taken : (ns : List (Node T)) (first last free : ℕ) (o : Bool) (es : List (Entry T)) → Holds ns first last free o es → IsTaken ns last
  last-taken ns first last free o [] h = let q : last ≡ no_link = h.path.1 in let few = h.few in record { taken = inl (omega arith) }
  last-taken ns first last free o (e ∷ es) h =
      record { taken = inr (at-last (λ k. (x : T) × (item_in ns k ≡ Some x)) ns e es no_link first last no_link (items ns (e ∷ es) no_link first last no_link h.path) h.path) }

  pub last-known : (ns : List (Node T)) (first last free : ℕ) (o : Bool) (es : List (Entry T)) → Holds ns first last free o es → (last < length ns) ⊎ (last ≡ no_link)
  last-known ns first last free o [] h = inr h.path.1
  last-known ns first last free o (e ∷ es) h =
      inl (at-last (λ k. k < length ns) ns e es no_link first last no_link (within ns (e ∷ es) no_link first last no_link h.path) h.path)

  handles-push : (es : List (Entry T)) (e : Entry T) → handles (es ++ e ∷ []) ≡ handles es ++ e.handle ∷ []
  handles-push es e = map-append (λ (x : Entry T). x.handle) es (e ∷ [])

  -- nothing is under the number of the next new node
  pub fresh : (ns : List (Node T)) (first last free : ℕ) (o : Bool) (es : List (Entry T)) → Holds ns first last free o es → find_item es (length ns) ≡ None
  fresh ns first last free o es h = sym (h.found (length ns)) ∙ item-past ns (length ns) (omega arith)

  pub holds-new : (ns : List (Node T)) (first last free : ℕ) (o : Bool) (es : List (Entry T)) (x : T) → Holds ns first last free o es → length ns < no_link
      → Holds (with_next ns last (length ns) ++ node (Some x) last no_link ∷ []) (cond (eqb last no_link) (length ns) first) (length ns) free o (es ++ record { handle = length ns; item = x } ∷ [])
  holds-new ns first last free o es x h room =
      let i = length ns in
      let n : Node T = node (Some x) last no_link in
      let e : Entry T = record { handle = i; item = x } in
      let ms = with_next ns last i in
      let len : length ms ≡ i = with_next-length ns last i in
      let few = h.few in
      let low = within ns es no_link first last no_link h.path in
      let none = fresh ns first last free o es h in
      let start = end-next ns es first last no_link i few h.distinct h.path in
      let kept : (k : ℕ) → k < i → slice_get (ms ++ n ∷ []) k ≡ slice_get ms k = λ k l. push-kept ms n k (omega arith) in
      let front = frame ms (ms ++ n ∷ []) es no_link (cond (eqb last no_link) i first) last i (Each-map (λ k. k < i) (λ k. slice_get (ms ++ n ∷ []) k ≡ slice_get ms k) (handles es) kept low) start in
      let here : slice_get (ms ++ n ∷ []) i ≡ Some n = subst (λ k. slice_get (ms ++ n ∷ []) k ≡ Some n) len (push-new ms n) in
      let taken = last-taken ns first last free o es h in
      let off = free-apart ns free last h.gaps taken h.freed in
      let low-gaps = free-low ns free h.gaps h.freed in
      let same : (k : ℕ) → (k ≢ last) × (k < i) → slice_get (ms ++ n ∷ []) k ≡ slice_get ns k = λ k p. kept k p.1 ∙ with_next-other ns last i k p.0 in
      record {
        path = join (ms ++ n ∷ []) es (e ∷ []) no_link (cond (eqb last no_link) i first) last i i no_link front (no_link, refl, here, (refl, refl));
        distinct = subst AreDistinct (sym (handles-push es e)) (AreDistinct-push (handles es) i (none-apart es i none) h.distinct);
        found = λ k. elim (cases_eq k i) [
          | inl q ↦ ap (item_in (ms ++ n ∷ [])) q ∙ item-at (ms ++ n ∷ []) i n here ∙ sym (found-pushed es e none) ∙ ap (find_item (es ++ e ∷ [])) (sym q)
          | inr d ↦ push-item-other ms n k (λ q. d (q ∙ len)) ∙ with_next-item ns last i k ∙ h.found k ∙ sym (found-beside-end es e k (λ q. d (sym q)))
        ];
        rising = λ t. subst AreRising (sym (handles-push es e)) (AreRising-push (handles es) i low (h.rising t));
        gaps = h.gaps;
        freed = free-frame ns (ms ++ n ∷ []) free h.gaps (Each-map (λ k. (k ≢ last) × (k < i)) (λ k. slice_get (ms ++ n ∷ []) k ≡ slice_get ns k) h.gaps same (Each-both (λ k. k ≢ last) (λ k. k < i) h.gaps off low-gaps)) h.freed;
        apart = h.apart;
        total = let t : length es + length h.gaps ≡ i = h.total in omega (arith, length-append es (e ∷ []), length-append ms (n ∷ []));
        few = omega (arith, length-append ms (n ∷ []));
      }

  -- ---- an entry comes at the end, in a freed node

  -- the node that is free
  pub record Free (ns : List (Node T)) (free : ℕ) (gaps : List ℕ) : Type 0 where
    pub rest : List ℕ
    pub whole : gaps ≡ free ∷ rest
    pub prev : ℕ
    pub next : ℕ
    pub here : slice_get ns free ≡ Some (node None prev next)
    pub onward : AreFree ns next rest

  pub free-first : (ns : List (Node T)) (free : ℕ) (gaps : List ℕ) → 0 < length gaps → AreFree ns free gaps → Free ns free gaps
  free-first ns free [] l p = absurd (omega arith)
  free-first ns free (g ∷ gs) l p =
      record {
        rest = gs;
        whole = ap (λ k. k ∷ gs) (sym p.2);
        prev = p.0;
        next = p.1;
        here = ap (slice_get ns) p.2 ∙ p.3;
        onward = p.4;
      }

  pub first-free : (ns : List (Node T)) (first last free : ℕ) (o : Bool) (es : List (Entry T)) → (h : Holds ns first last free o es) → length es < length ns → Free ns free h.gaps
  first-free ns first last free o es h l = let t = h.total in free-first ns free h.gaps (omega arith) h.freed

  pub holds-again : (ns : List (Node T)) (first last free : ℕ) (o : Bool) (es : List (Entry T)) (x : T) (prev next : ℕ) → Holds ns first last free o es → length es < length ns
      → slice_get ns free ≡ Some (node None prev next)
      → Holds (with_next (set ns free (node (Some x) last no_link)) last free) (cond (eqb last no_link) free first) free next false (es ++ record { handle = free; item = x } ∷ [])
  holds-again ns first last free o es x prev next h l was =
      let n : Node T = node (Some x) last no_link in
      let e : Entry T = record { handle = free; item = x } in
      let ms = set ns free n in
      let few = h.few in
      let f = first-free ns first last free o es h l in
      let got : Some (node None f.prev f.next) ≡ Some (node None prev next) = sym f.here ∙ was in
      let same-node : node None f.prev f.next ≡ node None prev next = cc in
      let link : f.next ≡ next = ap (λ (m : Node T). m.next) same-node in
      let low : free < length ns = slice_get_within ns free _ was in
      let none : find_item es free ≡ None = sym (h.found free) ∙ item-at ns free _ was in
      let len : length ms ≡ length ns = length-set ns free n in
      let apart = none-apart es free none in
      let same : (k : ℕ) → k ≢ free → slice_get ms k ≡ slice_get ns k = λ k d. set-other ns free n k d in
      let moved = frame ns ms es no_link first last no_link (Each-map (λ k. k ≢ free) (λ k. slice_get ms k ≡ slice_get ns k) (handles es) same apart) h.path in
      let start = end-next ms es first last no_link free (omega arith) h.distinct moved in
      let taken = last-taken ns first last free o es h in
      let off : Each (λ g. g ≢ last) h.gaps = free-apart ns free last h.gaps taken h.freed in
      let off-all : Each (λ g. g ≢ last) (free ∷ f.rest) = subst (Each (λ g. g ≢ last)) f.whole off in
      let others : AreDistinct (free ∷ f.rest) = subst AreDistinct f.whole h.apart in
      let here : slice_get (with_next ms last free) free ≡ Some n = with_next-other ms last free free off-all.0 ∙ set-same ns free n low in
      let same-rest : (k : ℕ) → (k ≢ last) × (free ≢ k) → slice_get (with_next ms last free) k ≡ slice_get ns k = λ k p. with_next-other ms last free k p.0 ∙ set-other ns free n k (λ q. p.1 (sym q)) in
      let gone : length h.gaps ≡ suc (length f.rest) = ap length f.whole in
      record {
        path = join (with_next ms last free) es (e ∷ []) no_link (cond (eqb last no_link) free first) last free free no_link start (no_link, refl, here, (refl, refl));
        distinct = subst AreDistinct (sym (handles-push es e)) (AreDistinct-push (handles es) free apart h.distinct);
        found = λ k. elim (cases_eq k free) [
          | inl q ↦ ap (item_in (with_next ms last free)) q ∙ item-at (with_next ms last free) free n here ∙ sym (found-pushed es e none) ∙ ap (find_item (es ++ e ∷ [])) (sym q)
          | inr d ↦ with_next-item ms last free k ∙ set-item-other ns free n k d ∙ h.found k ∙ sym (found-beside-end es e k (λ q. d (sym q)))
        ];
        rising = λ t. absurd (false≢true t);
        gaps = f.rest;
        freed = subst (λ k. AreFree (with_next ms last free) k f.rest) link
            (free-frame ns (with_next ms last free) f.next f.rest (Each-map (λ k. (k ≢ last) × (free ≢ k)) (λ k. slice_get (with_next ms last free) k ≡ slice_get ns k) f.rest same-rest (Each-both (λ k. k ≢ last) (λ k. free ≢ k) f.rest off-all.1 others.0)) f.onward);
        apart = others.1;
        total = let t = h.total in omega (arith, length-append es (e ∷ []), with_next-length ms last free);
        few = omega (arith, with_next-length ms last free);
      }

  -- ---- what is read

  -- a handle names what its node keeps
  pub held : (ns : List (Node T)) (first last free : ℕ) (o : Bool) (es : List (Entry T)) (h : ℕ) → Holds ns first last free o es → HasHandle es h → IsSome (item_in ns h)
  held ns first last free o es h s p = subst IsSome (sym (s.found h)) p

  pub held-within : (ns : List (Node T)) (first last free : ℕ) (o : Bool) (es : List (Entry T)) (h : ℕ) → Holds ns first last free o es → HasHandle es h → h < length ns
  held-within ns first last free o es h s p = some-within ns h (held ns first last free o es h s p)

  -- the node that is read keeps what the handle names
  pub read-found : (ns : List (Node T)) (first last free : ℕ) (o : Bool) (es : List (Entry T)) (h : ℕ) (n : Node T) → Holds ns first last free o es → HasHandle es h → n ≡ get_or ns h n → find_item es h ≡ n.item
  read-found ns first last free o es h n s p r = sym (s.found h) ∙ item-at ns h n (slice_get_read ns (length ns) h n refl (held-within ns first last free o es h s p) r)

  pub read-next : (ns : List (Node T)) (first last free : ℕ) (o : Bool) (es : List (Entry T)) (h : ℕ) (n : Node T) → Holds ns first last free o es → HasHandle es h → n ≡ get_or ns h n → link_handle n.next ≡ next_handle es h
  read-next ns first last free o es h n s p r =
      let x = named es h p in
      next-is ns es no_link first last h n.item n.prev n.next x.0 s.few s.path (slice_get_read ns (length ns) h n refl (held-within ns first last free o es h s p) r) x.1

  pub read-prev : (ns : List (Node T)) (first last free : ℕ) (o : Bool) (es : List (Entry T)) (h : ℕ) (n : Node T) → Holds ns first last free o es → HasHandle es h → n ≡ get_or ns h n → link_handle n.prev ≡ prev_handle es h
  read-prev ns first last free o es h n s p r =
      let x = named es h p in
      prev-is ns es no_link first last h n.item n.prev n.next x.0 s.few s.path (slice_get_read ns (length ns) h n refl (held-within ns first last free o es h s p) r) x.1

  -- what holds of each chain
  pub valid : (ns : List (Node T)) (first last free : ℕ) (o : Bool) (es : List (Entry T)) (spare : ℕ) → Holds ns first last free o es → IsChain (record { entries = es; spare = spare; slots = length ns; in_order = o })
  valid ns first last free o es spare h =
      record {
        distinct = h.distinct;
        below = within ns es no_link first last no_link h.path;
        rising = h.rising;
        few = h.few;
        full = let t = h.total in omega arith;
      }

  -- no node holds no entry
  pub holds-none : (ns : List (Node T)) → ns ≡ [] → Holds ns no_link no_link no_link true []
  holds-none ns e =
      record {
        path = (refl, refl);
        distinct = tt;
        found = λ h. ap (λ ms. item_in ms h) e;
        rising = λ t. tt;
        gaps = [];
        freed = tt;
        apart = tt;
        total = sym (ap length e);
        few = let l = ap length e in omega arith;
      }

  pub read-any : (ns : List (Node T)) (first last free : ℕ) (o : Bool) (es : List (Entry T)) (h : ℕ) (n : Node T) → Holds ns first last free o es → h < length ns → n ≡ get_or ns h n → find_item es h ≡ n.item
  read-any ns first last free o es h n s l r = sym (s.found h) ∙ item-at ns h n (slice_get_read ns (length ns) h n refl l r)

  pub read-past : (ns : List (Node T)) (first last free : ℕ) (o : Bool) (es : List (Entry T)) (h : ℕ) → Holds ns first last free o es → length ns ≤ h → find_item es h ≡ None
  read-past ns first last free o es h s l = sym (s.found h) ∙ item-past ns h l

  -- ---- the fields after a change

  pub linked-as : (ns ms : List (Node T)) (first f last l free : ℕ) (o : Bool) (es : List (Entry T)) (len : ℕ) → Holds ns first last free o es → ms ≡ ns → f ≡ first → l ≡ last → length es ≡ len → (walk ms len f ≡ es) × IsLinked ms f l len free o
  linked-as ns ms first f last l free o es len h em ef el q =
      let h1 = subst (λ (ks : List (Node T)). Holds ks first last free o es) (sym em) h in
      let h2 = subst (λ k. Holds ms k last free o es) (sym ef) h1 in
      let h3 = subst (λ k. Holds ms f k free o es) (sym el) h2 in
      linked ms f l free o es len h3 q

  pub pushed-new : (ns m1 m2 : List (Node T)) (first f last free i len : ℕ) (o : Bool) (es : List (Entry T)) (x : T) → Holds ns first last free o es → length es ≡ len → i ≡ length ns → i < no_link
      → m1 ≡ with_next ns last i → m2 ≡ m1 ++ node (Some x) last no_link ∷ [] → f ≡ cond (eqb last no_link) i first
      → (walk m2 (len + 1) f ≡ es ++ record { handle = i; item = x } ∷ []) × IsLinked m2 f i (len + 1) free o × (find_item es i ≡ None)
  pushed-new ns m1 m2 first f last free i len o es x h q ei room e1 e2 ef =
      let k = length ns in
      let wrote : m2 ≡ with_next ns last k ++ node (Some x) last no_link ∷ [] = e2 ∙ ap (λ ms. ms ++ node (Some x) last no_link ∷ []) (e1 ∙ ap (with_next ns last) ei) in
      let start : f ≡ cond (eqb last no_link) k first = ef ∙ ap (λ j. cond (eqb last no_link) j first) ei in
      let r = linked-as _ m2 _ f _ i free o (es ++ record { handle = k; item = x } ∷ []) (len + 1) (holds-new ns first last free o es x h (omega arith)) wrote start ei (omega (arith, length-append es (record { handle = k; item = x } ∷ []))) in
      (r.0 ∙ ap (λ j. es ++ record { handle = j; item = x } ∷ []) (sym ei), r.1, ap (find_item es) ei ∙ fresh ns first last free o es h)

  pub pushed-again : (ns m1 m2 : List (Node T)) (first f last free prev next len : ℕ) (o : Bool) (es : List (Entry T)) (x : T) → Holds ns first last free o es → length es ≡ len → len < length ns
      → slice_get ns free ≡ Some (node None prev next) → m1 ≡ set ns free (node (Some x) last no_link) → m2 ≡ with_next m1 last free → f ≡ cond (eqb last no_link) free first
      → (walk m2 (len + 1) f ≡ es ++ record { handle = free; item = x } ∷ []) × IsLinked m2 f free (len + 1) next false × (find_item es free ≡ None) × (length m2 ≡ length ns)
  pushed-again ns m1 m2 first f last free prev next len o es x h q l was e1 e2 ef =
      let wrote = e2 ∙ ap (λ ms. with_next ms last free) e1 in
      let r = linked-as _ m2 _ f _ free next false (es ++ record { handle = free; item = x } ∷ []) (len + 1) (holds-again ns first last free o es x prev next h (omega arith) was) wrote ef refl (omega (arith, length-append es (record { handle = free; item = x } ∷ []))) in (
        r.0,
        r.1,
        sym (h.found free) ∙ item-at ns free _ was,
        ap length wrote ∙ with_next-length (set ns free (node (Some x) last no_link)) last free ∙ length-set ns free (node (Some x) last no_link),
      )
