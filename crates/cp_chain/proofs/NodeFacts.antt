-- What the nodes hold after a write of a link, of a node, and at their end.
use Rattle.std.proofs.Common.{◌≡◌, ◌≢◌, ◌<◌, ◌≤◌, ℕ, zero, suc, List, [], ◌∷◌, ◌++◌, length, get_or, set, slice_get, Option, Some, None, IsSome, refl, sym, ap, ◌∙◌, arith}
use Rattle.std.proofs.lemmas.Bool.{false≢true}
use Rattle.std.proofs.lemmas.Option.{slice_get_read}
use Rattle.cp_chain.specs.declared.node.Node.{Node}
use Rattle.cp_chain.specs.Nodes.{node, with_next, with_prev, item_in}

module _ {T : Type 0} where
  pub item-at : (ns : List (Node T)) (h : ℕ) (n : Node T) → slice_get ns h ≡ Some n → item_in ns h ≡ n.item
  item-at [] h n e = absurd (cc)
  item-at (m ∷ ns) zero n e = let q : m ≡ n = cc in ap (λ (x : Node T). x.item) q
  item-at (m ∷ ns) (suc h) n e = item-at ns h n e

  -- the node that keeps this item, or none
  pub node-at : (ns : List (Node T)) (h : ℕ) (o : Option T) → h < length ns → item_in ns h ≡ o → (prev : ℕ) × (next : ℕ) × (slice_get ns h ≡ Some (node o prev next))
  node-at [] h o l e = absurd (omega arith)
  node-at (m ∷ ns) zero o l e = (m.prev, m.next, ap (λ i. Some (node i m.prev m.next)) e)
  node-at (m ∷ ns) (suc h) o l e = node-at ns h o (omega arith) e

  pub item-within : (ns : List (Node T)) (h : ℕ) (x : T) → item_in ns h ≡ Some x → h < length ns
  item-within [] h x e = absurd (cc)
  item-within (m ∷ ns) zero x e = omega arith
  item-within (m ∷ ns) (suc h) x e = let l = item-within ns h x e in omega arith

  pub item-past : (ns : List (Node T)) (h : ℕ) → length ns ≤ h → item_in ns h ≡ None
  item-past [] h l = refl
  item-past (m ∷ ns) zero l = absurd (omega arith)
  item-past (m ∷ ns) (suc h) l = item-past ns h (omega arith)

  -- ---- a link is written

  pub with_next-length : (ns : List (Node T)) (p x : ℕ) → length (with_next ns p x) ≡ length ns
  with_next-length [] p x = refl
  with_next-length (n ∷ ns) zero x = refl
  with_next-length (n ∷ ns) (suc p) x = ap suc (with_next-length ns p x)

  pub with_next-item : (ns : List (Node T)) (p x h : ℕ) → item_in (with_next ns p x) h ≡ item_in ns h
  with_next-item [] p x h = refl
  with_next-item (n ∷ ns) zero x zero = refl
  with_next-item (n ∷ ns) zero x (suc h) = refl
  with_next-item (n ∷ ns) (suc p) x zero = refl
  with_next-item (n ∷ ns) (suc p) x (suc h) = with_next-item ns p x h

  pub with_next-other : (ns : List (Node T)) (p x h : ℕ) → h ≢ p → slice_get (with_next ns p x) h ≡ slice_get ns h
  with_next-other [] p x h d = refl
  with_next-other (n ∷ ns) zero x zero d = absurd (d refl)
  with_next-other (n ∷ ns) zero x (suc h) d = refl
  with_next-other (n ∷ ns) (suc p) x zero d = refl
  with_next-other (n ∷ ns) (suc p) x (suc h) d = with_next-other ns p x h (λ e. d (ap suc e))

  pub with_next-same : (ns : List (Node T)) (p x : ℕ) (o : Option T) (before after : ℕ) → slice_get ns p ≡ Some (node o before after) → slice_get (with_next ns p x) p ≡ Some (node o before x)
  with_next-same [] p x o before after e = absurd (cc)
  with_next-same (n ∷ ns) zero x o before after e =
      let q : n ≡ node o before after = cc in
      ap (λ (m : Node T). Some (node m.item m.prev x)) q
  with_next-same (n ∷ ns) (suc p) x o before after e = with_next-same ns p x o before after e

  pub with_next-past : (ns : List (Node T)) (p x : ℕ) → length ns ≤ p → with_next ns p x ≡ ns
  with_next-past [] p x l = refl
  with_next-past (n ∷ ns) zero x l = absurd (omega arith)
  with_next-past (n ∷ ns) (suc p) x l = ap (λ ms. n ∷ ms) (with_next-past ns p x (omega arith))

  pub with_next-set : (ns : List (Node T)) (p x : ℕ) (n : Node T) → n ≡ get_or ns p n → set ns p (node n.item n.prev x) ≡ with_next ns p x
  with_next-set [] p x n e = refl
  with_next-set (m ∷ ns) zero x n e = ap (λ (k : Node T). node k.item k.prev x ∷ ns) e
  with_next-set (m ∷ ns) (suc p) x n e = ap (λ ms. m ∷ ms) (with_next-set ns p x n e)

  pub with_prev-length : (ns : List (Node T)) (p x : ℕ) → length (with_prev ns p x) ≡ length ns
  with_prev-length [] p x = refl
  with_prev-length (n ∷ ns) zero x = refl
  with_prev-length (n ∷ ns) (suc p) x = ap suc (with_prev-length ns p x)

  pub with_prev-item : (ns : List (Node T)) (p x h : ℕ) → item_in (with_prev ns p x) h ≡ item_in ns h
  with_prev-item [] p x h = refl
  with_prev-item (n ∷ ns) zero x zero = refl
  with_prev-item (n ∷ ns) zero x (suc h) = refl
  with_prev-item (n ∷ ns) (suc p) x zero = refl
  with_prev-item (n ∷ ns) (suc p) x (suc h) = with_prev-item ns p x h

  pub with_prev-other : (ns : List (Node T)) (p x h : ℕ) → h ≢ p → slice_get (with_prev ns p x) h ≡ slice_get ns h
  with_prev-other [] p x h d = refl
  with_prev-other (n ∷ ns) zero x zero d = absurd (d refl)
  with_prev-other (n ∷ ns) zero x (suc h) d = refl
  with_prev-other (n ∷ ns) (suc p) x zero d = refl
  with_prev-other (n ∷ ns) (suc p) x (suc h) d = with_prev-other ns p x h (λ e. d (ap suc e))

  pub with_prev-same : (ns : List (Node T)) (p x : ℕ) (o : Option T) (before after : ℕ) → slice_get ns p ≡ Some (node o before after) → slice_get (with_prev ns p x) p ≡ Some (node o x after)
  with_prev-same [] p x o before after e = absurd (cc)
  with_prev-same (n ∷ ns) zero x o before after e =
      let q : n ≡ node o before after = cc in
      ap (λ (m : Node T). Some (node m.item x m.next)) q
  with_prev-same (n ∷ ns) (suc p) x o before after e = with_prev-same ns p x o before after e

  pub with_prev-past : (ns : List (Node T)) (p x : ℕ) → length ns ≤ p → with_prev ns p x ≡ ns
  with_prev-past [] p x l = refl
  with_prev-past (n ∷ ns) zero x l = absurd (omega arith)
  with_prev-past (n ∷ ns) (suc p) x l = ap (λ ms. n ∷ ms) (with_prev-past ns p x (omega arith))

  pub with_prev-set : (ns : List (Node T)) (p x : ℕ) (n : Node T) → n ≡ get_or ns p n → set ns p (node n.item x n.next) ≡ with_prev ns p x
  with_prev-set [] p x n e = refl
  with_prev-set (m ∷ ns) zero x n e = ap (λ (k : Node T). node k.item x k.next ∷ ns) e
  with_prev-set (m ∷ ns) (suc p) x n e = ap (λ ms. m ∷ ms) (with_prev-set ns p x n e)

  -- ---- a node is written

  pub set-same : (ns : List (Node T)) (h : ℕ) (n : Node T) → h < length ns → slice_get (set ns h n) h ≡ Some n
  set-same [] h n l = absurd (omega arith)
  set-same (m ∷ ns) zero n l = refl
  set-same (m ∷ ns) (suc h) n l = set-same ns h n (omega arith)

  pub set-other : (ns : List (Node T)) (h : ℕ) (n : Node T) (k : ℕ) → k ≢ h → slice_get (set ns h n) k ≡ slice_get ns k
  set-other [] h n k d = refl
  set-other (m ∷ ns) zero n zero d = absurd (d refl)
  set-other (m ∷ ns) zero n (suc k) d = refl
  set-other (m ∷ ns) (suc h) n zero d = refl
  set-other (m ∷ ns) (suc h) n (suc k) d = set-other ns h n k (λ e. d (ap suc e))

  pub set-item-other : (ns : List (Node T)) (h : ℕ) (n : Node T) (k : ℕ) → k ≢ h → item_in (set ns h n) k ≡ item_in ns k
  set-item-other [] h n k d = refl
  set-item-other (m ∷ ns) zero n zero d = absurd (d refl)
  set-item-other (m ∷ ns) zero n (suc k) d = refl
  set-item-other (m ∷ ns) (suc h) n zero d = refl
  set-item-other (m ∷ ns) (suc h) n (suc k) d = set-item-other ns h n k (λ e. d (ap suc e))

  -- ---- a node comes at the end

  pub push-kept : (ns : List (Node T)) (n : Node T) (h : ℕ) → h < length ns → slice_get (ns ++ n ∷ []) h ≡ slice_get ns h
  push-kept [] n h l = absurd (omega arith)
  push-kept (m ∷ ns) n zero l = refl
  push-kept (m ∷ ns) n (suc h) l = push-kept ns n h (omega arith)

  pub push-new : (ns : List (Node T)) (n : Node T) → slice_get (ns ++ n ∷ []) (length ns) ≡ Some n
  push-new [] n = refl
  push-new (m ∷ ns) n = push-new ns n

  pub push-item-other : (ns : List (Node T)) (n : Node T) (h : ℕ) → h ≢ length ns → item_in (ns ++ n ∷ []) h ≡ item_in ns h
  push-item-other [] n zero d = absurd (d refl)
  push-item-other [] n (suc h) d = refl
  push-item-other (m ∷ ns) n zero d = refl
  push-item-other (m ∷ ns) n (suc h) d = push-item-other ns n h (λ e. d (ap suc e))

  -- ---- what is read of a node

  pub item-some : (o : Option T) → IsSome o → (x : T) × (o ≡ Some x)
  item-some None q = absurd (false≢true q)
  item-some (Some x) q = (x, refl)

  pub some-within : (ns : List (Node T)) (h : ℕ) → IsSome (item_in ns h) → h < length ns
  some-within ns h p = let s = item-some (item_in ns h) p in item-within ns h s.0 s.1

  -- the node that is read keeps what is known of its item
  pub read-node : (ns : List (Node T)) (h : ℕ) (n m : Node T) (o : Option T) → h < length ns → n ≡ get_or ns h n → m ≡ n → m.item ≡ o → slice_get ns h ≡ Some (node o m.prev m.next)
  read-node ns h n m o l r e i = slice_get_read ns (length ns) h n refl l r ∙ ap Some (sym e) ∙ ap (λ j. Some (node j m.prev m.next)) i
