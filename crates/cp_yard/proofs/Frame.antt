-- What a step of one seat leaves as it was.
use Rattle.std.proofs.Common.{◌≡◌, ◌≢◌, ℕ, ◌+◌, ◌<◌, ◌≤◌, eqb, Bool, true, cond, List, [], ◌∷◌, ◌++◌, length, get_or, set, Some, All, sym, refl, ap, ◌∙◌, subst, inl, inr, ⊎_elim, arith, length-set, append_assoc, eq-eqb, ne_eqb, if◌then◌else◌}
use Rattle.std.specs.List.{Contains}
use mathlib.Core.Option.{some, some-injective}
use mathlib.Core.Logic.{dite}
use Rattle.std.specs.Prelude.{sum_by}
use native.Mathlib.Decide.{ℕ_discrete}
use lib.ListN.{get_elem?}
use Rattle.atomic_table.specs.Table.{State}
use Rattle.atomic_table.proofs.Lists.{at_set, set_here, set_else}
use Rattle.cp_logic.specs.declared.named.Named.{Named}
use Rattle.cp_logic.specs.Journals.{Post, posts_of}
use Rattle.cp_logic.proofs.Members.{in_here}
use Rattle.cp_yard.specs.declared.item.Item.{Item}
use Rattle.cp_yard.specs.Views.{Base, Note, Got, GotTurn, Met, MetTurn, Share, SeatView, held_of, shares_of, times, once_below}
use Rattle.cp_yard.specs.Rule.{Homes, IsPrefix, IsLegal, IsTrueNote, Knows, IsTurnKept, IsLockKept, Stands, clauses_at}
use Rattle.cp_yard.proofs.Lists.{sum_by-set_at, term-le-sum_by, two_terms-le-sum_by, times_in, once_le, in_range}

abbrev pub St : Type 0
St = State Item SeatView

pub put : (ℕ → List Note) → ℕ → List Note → ℕ → List Note
put notes i ns k = cond (eqb k i) ns (notes k)

pub put_here : (notes : ℕ → List Note) (i : ℕ) (ns : List Note) → put notes i ns i ≡ ns
unfolding put
put_here notes i ns = ap (λ (b : Bool). cond b ns (notes i)) (eq-eqb i i refl)

pub put_else : (notes : ℕ → List Note) (i : ℕ) (ns : List Note) (k : ℕ) → k ≢ i → put notes i ns k ≡ notes k
unfolding put
put_else notes i ns k ne = ap (λ (b : Bool). cond b ns (notes k)) (ne_eqb k i ne)

pub shares_alive : (v : SeatView) → v.lives ≡ true → shares_of v ≡ v.own ∷ v.others
shares_alive v e = ap (λ (b : Bool). if b then v.own ∷ v.others else []) e

pub mine_among : (v : SeatView) → v.lives ≡ true → Contains (shares_of v) v.own
mine_among v e = subst (λ (ks : List Share). Contains ks v.own) (sym (shares_alive v e)) (in_here v.own v.own v.others refl)

pub seats_put : (P : ℕ → SeatView → Type 0) (vs : List SeatView) (me : ℕ) (w : SeatView) → P me w → ((j : ℕ) (d : SeatView) → j ≢ me → get_elem? vs j ≡ some d → P j d)
    → (j : ℕ) (d : SeatView) → get_elem? (set vs me w) j ≡ some d → P j d
seats_put P vs me w mine others j d e = ⊎_elim (λ (t : (j ≡ me) × (w ≡ d)). subst (λ (x : ℕ × SeatView). P x.0 x.1) (λ i. (sym t.0 i, t.1 i)) mine)
    (λ (t : (j ≢ me) × (get_elem? vs j ≡ some d)). others j d t.0 t.1) (at_set vs me j w d e)

pub note_grows : (f : Base) (h h' : List Post) (notes notes' : ℕ → List Note) → IsPrefix h h' → ((k : ℕ) (n : Note) → Contains (notes k) n → Contains (notes' k) n)
    → (k : ℕ) (n : Note) → IsTrueNote f h notes k n → IsTrueNote f h' notes' k n
note_grows f h h' notes notes' pre more k (Got x l n) ok = (ok.0, (ok.1.0 ++ pre.0, sym (append_assoc ok.0 ok.1.0 pre.0) ∙ (ap (λ z. z ++ pre.0) ok.1.1 ∙ pre.1)), ok.2, ok.3)
note_grows f h h' notes notes' pre more k (GotTurn j) ok = (ok.0 ++ pre.0, sym (append_assoc j ok.0 pre.0) ∙ (ap (λ z. z ++ pre.0) ok.1 ∙ pre.1))
note_grows f h h' notes notes' pre more k (Met x by) ok = (ok.0, (ok.1.0, ok.1.1, more by (Got x ok.1.0 ok.1.1) ok.1.2))
note_grows f h h' notes notes' pre more k (MetTurn by) ok = (ok.0, (ok.1.0, more by (GotTurn ok.1.0) ok.1.1))

module _ (f : Base) where
  -- a number is kept by one seat
  pub not_mine : (s : St) (r : Stands f s) (id : ℕ) (v : SeatView) → get_elem? s.views id ≡ some v → v.lives ≡ true → (j : ℕ) (w : SeatView) → j ≢ id → get_elem? s.views j ≡ some w
      → (k : Share) → Contains (shares_of w) k → k.number ≢ id
  not_mine s r id v at lives j w ne there k in_w e =
      let own : v.own.number ≡ id = (r.seats id v at lives).own in
      let a : 0 < times id (shares_of v) = times_in id v.own (shares_of v) (mine_among v lives) own in
      let b : 0 < times id (shares_of w) = times_in id k (shares_of w) in_w e in
      let c = two_terms-le-sum_by (λ (z : SeatView). times id (shares_of z)) s.views id j v w (λ q. ne (sym q)) at there in
      let d = r.numbers id in let g = once_le id (length s.views) in omega arith

  pub others_not_mine : (s : St) (r : Stands f s) (id : ℕ) (v : SeatView) → get_elem? s.views id ≡ some v → v.lives ≡ true → (k : Share) → Contains v.others k → k.number ≢ id
  others_not_mine s r id v at lives k in_v e =
      let own : v.own.number ≡ id = (r.seats id v at lives).own in
      let b : 0 < times id v.others = times_in id k v.others in_v e in
      let c = term-le-sum_by (λ (z : SeatView). times id (shares_of z)) s.views id v at in
      let t : times id (shares_of v) ≡ times id (v.own ∷ v.others) = ap (times id) (shares_alive v lives) in
      let u : eqb v.own.number id ≡ true = eq-eqb v.own.number id own in
      let u' : times id (v.own ∷ v.others) ≡ 1 + times id v.others = ap (λ (z : Bool). (if z then 1 else 0) + times id v.others) u in
      let d = r.numbers id in let g = once_le id (length s.views) in omega arith

  pub other_stays : (h h' : List Post) (notes notes' : ℕ → List Note) (words words' : List ℕ) (homes homes' : Homes) (count j : ℕ) (v : SeatView) → Knows f h notes words homes count j v
      → ((x : ℕ) → get_or words x 0 ≡ j + 1 → (get_or words' x 0 ≡ j + 1) × (get_elem? homes' x ≡ get_elem? homes x) × (clauses_at f h' x ≡ clauses_at f h x))
      → (get_or words 0 0 ≡ j + 1 → h' ≡ h)
      → ((k : Share) → Contains (shares_of v) k → (posts_of h' k.number ≡ posts_of h k.number) × (notes' k.number ≡ notes k.number))
      → Knows f h' notes' words' homes' count j v
  other_stays h h' notes notes' words words' homes homes' count j v ok places turn shares = record {
    base = ok.base;
    number = ok.number;
    own = ok.own;
    made = ok.made;
    shares = λ k a. let o = ok.shares k a in let n = shares k a in (o.0 ∙ sym n.0, o.1 ∙ sym n.1);
    turn = λ i e. let o = ok.turn i e in let p = places 0 o.0 in (p.0, o.1 ∙ sym (turn o.0), (λ ne. p.1 ∙ o.2 ne), o.3);
    held = λ x l e. let o = ok.held x l e in let p = places x o.1 in (o.0, p.0, o.2 ∙ sym p.2, (λ ne. p.1 ∙ o.3 ne), o.4);
  }

  pub lock_stays : (h h' : List Post) (words words' : List ℕ) (homes homes' : Homes) (views : List SeatView) (id : ℕ) (v w : SeatView) (x : ℕ) → get_elem? views id ≡ some v → w.lives ≡ true
      → get_or words' x 0 ≡ get_or words x 0 → (get_or words x 0 ≡ 0 → get_elem? homes' x ≡ get_elem? homes x) → (get_or words x 0 ≡ 0 → clauses_at f h' x ≡ clauses_at f h x)
      → ((l : List Named) → held_of x v.held ≡ Some l → (k : List Named) × (held_of x w.held ≡ Some k)) → IsLockKept f h words homes views x → IsLockKept f h' words' homes' (set views id w) x
  lock_stays h h' words words' homes homes' views id v w x at lives word home same mine (inl free) =
      inl (word ∙ free.0, (free.1.0, home free.0 ∙ free.1.1, (free.1.2.0, free.1.2.1 ∙ sym (same free.0))))
  lock_stays h h' words words' homes homes' views id v w x at lives word home same mine (inr held) = let i = held.0 in let o = held.4 in dite (ℕ_discrete i id)
      (λ e. let v_is : held.1 ≡ v = some-injective held.1 v (sym o.there ∙ (ap (get_elem? views) e ∙ at)) in
      let k = mine held.2 (ap (λ (z : SeatView). held_of x z.held) (sym v_is) ∙ o.held) in
      inr (id, w, k.0, word ∙ (held.3 ∙ ap (λ (z : ℕ). z + 1) e), record { there = set_here views id w (in_range views id v at); lives = lives; held = k.1 }))
      (λ ne. inr (i, held.1, held.2, word ∙ held.3, record { there = set_else views id i w ne ∙ o.there; lives = o.lives; held = o.held }))

  pub turn_stays : (h : List Post) (words words' : List ℕ) (homes homes' : Homes) (views : List SeatView) (id : ℕ) (v w : SeatView) → get_elem? views id ≡ some v → w.lives ≡ true
      → get_or words' 0 0 ≡ get_or words 0 0 → (get_or words 0 0 ≡ 0 → get_elem? homes' 0 ≡ get_elem? homes 0) → w.turn ≡ v.turn
      → IsTurnKept f h words homes views → IsTurnKept f h words' homes' (set views id w)
  turn_stays h words words' homes homes' views id v w at lives word home same (inl free) = inl (word ∙ free.0, (free.1.0, home free.0 ∙ free.1.1, free.1.2))
  turn_stays h words words' homes homes' views id v w at lives word home same (inr held) = let i = held.0 in let o = held.3 in dite (ℕ_discrete i id)
      (λ e. let v_is : held.1 ≡ v = some-injective held.1 v (sym o.there ∙ (ap (get_elem? views) e ∙ at)) in
      inr (id, w, word ∙ (held.2 ∙ ap (λ (z : ℕ). z + 1) e), record { there = set_here views id w (in_range views id v at); lives = lives; turn = same ∙ (ap (λ (z : SeatView). z.turn) (sym v_is) ∙ o.turn) }))
      (λ ne. inr (i, held.1, word ∙ held.2, record { there = set_else views id i w ne ∙ o.there; lives = o.lives; turn = o.turn }))

  -- who has a lock is the seat that the word names
  -- one seat's step
  pub moves : (s : St) (r : Stands f s) (id : ℕ) (v w : SeatView) → get_elem? s.views id ≡ some v → v.lives ≡ true → w.lives ≡ true
      → (i n : ℕ) (homes' : Homes) (h' : List Post) (notes' : ℕ → List Note) → length homes' ≡ length s.homes → IsLegal f h' → All (λ p. p.worker < length s.views) h'
      → Knows f h' notes' (set s.words i n) homes' (length s.views) id w
      → ((k : ℕ) → times k (shares_of w) ≡ times k (shares_of v))
      → ((k : ℕ) (m : Note) → Contains (notes' k) m → IsTrueNote f h' notes' k m)
      → ((k : ℕ) → k ≢ id → (notes' k ≡ r.notes k) × (posts_of h' k ≡ posts_of r.posts k))
      → ((j x : ℕ) → j ≢ id → get_or s.words x 0 ≡ j + 1 → (get_or (set s.words i n) x 0 ≡ j + 1) × (get_elem? homes' x ≡ get_elem? s.homes x) × (clauses_at f h' x ≡ clauses_at f r.posts x))
      → ((j : ℕ) → j ≢ id → get_or s.words 0 0 ≡ j + 1 → h' ≡ r.posts)
      → IsTurnKept f h' (set s.words i n) homes' (set s.views id w)
      → ((x : ℕ) → 0 < x → x < length s.homes → IsLockKept f h' (set s.words i n) homes' (set s.views id w) x)
      → Stands f record { words = set s.words i n; homes = homes'; views = set s.views id w }
  moves s r id v w at lives lives' i n homes' h' notes' deep legal workers own same noted apart places turns turn locks =
      let count : length (set s.views id w) ≡ length s.views = length-set s.views id w in let inside : id < length s.views = in_range s.views id v at in record {
        posts = h';
        notes = notes';
        wide = length-set s.words i n ∙ (r.wide ∙ sym deep);
        some_word = (let a = r.some_word in omega arith);
        few = (let a = r.few in omega arith);
        legal = legal;
        workers = subst (λ (c : ℕ). All (λ p. p.worker < c) h') (sym count) workers;
        seats = seats_put (λ j d. d.lives ≡ true → Knows f h' notes' (set s.words i n) homes' (length (set s.views id w)) j d) s.views id w
            (λ _. subst (λ (c : ℕ). Knows f h' notes' (set s.words i n) homes' c id w) (sym count) own)
            (λ j d ne there alive. subst (λ (c : ℕ). Knows f h' notes' (set s.words i n) homes' c j d) (sym count)
            (other_stays r.posts h' r.notes notes' s.words (set s.words i n) s.homes homes' (length s.views) j d (r.seats j d there alive) (λ x. places j x ne) (turns j ne)
            (λ k in_d. let other = not_mine s r id v at lives j d ne there k in_d in let t = apart k.number other in (t.1, t.0))));
        numbers = λ k. let t = sum_by-set_at (λ (z : SeatView). times k (shares_of z)) s.views id v w at in let e = same k in let a = r.numbers k in
            let b : sum_by (λ (z : SeatView). times k (shares_of z)) (set s.views id w) ≡ once_below k (length s.views) = omega arith in b ∙ ap (once_below k) (sym count);
        true_notes = noted;
        unused = λ k far. let out : length s.views ≤ k = omega arith in (apart k (λ e. omega arith)).0 ∙ r.unused k out;
        turn = turn;
        locks = λ x pos small. locks x pos (omega arith);
      }
