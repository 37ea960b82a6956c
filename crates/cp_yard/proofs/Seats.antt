-- A new seat, and a seat that is taken in, keep the rule.
use Rattle.std.proofs.Common.{◌≡◌, ◌≢◌, ℕ, ◌+◌, ◌<◌, ◌≤◌, ◌==◌, true, List, [], ◌∷◌, ◌++◌, length, get_or, set, Some, None, All, sym, refl, ap, ◌∙◌, subst, inl, inr, ⊎_elim, arith, length-set, length-append, if◌then◌else◌, true≢false}
use Rattle.std.specs.Prelude.{◌^◌}
use Rattle.std.specs.List.{Contains}
use Rattle.std.proofs.lemmas.List.Elements.{Contains-append_cases}
use mathlib.Core.Option.{some, some-injective}
use mathlib.Core.Logic.{dite}
use Rattle.std.specs.Prelude.{sum_by}
use Rattle.std.proofs.lemmas.List.Sums.{sum_by_push}
use Rattle.std.proofs.lemmas.Option.{none-some}
use native.Mathlib.Decide.{ℕ_discrete}
use lib.ListN.{get_elem?}
use Rattle.atomic_table.specs.Table.{Splits, Joins}
use Rattle.atomic_table.proofs.Lists.{set_else, at_longer}
use Rattle.cp_logic.specs.declared.named.Named.{Named}
use Rattle.cp_logic.specs.Journals.{Post, posts_of}
use Rattle.cp_logic.proofs.Members.{none_in}
use Rattle.cp_yard.specs.Views.{Base, Note, Share, SeatView, empty_share, held_of, shares_of, times, once_below, parent, child, joined, spent}
use Rattle.cp_yard.specs.Rule.{Homes, Knows, IsTurnKept, IsLockKept, Stands}
use Rattle.cp_yard.proofs.Lists.{in_front, at_end, sum_by-set_at, times-append, in_range, posts_of-none}
use Rattle.cp_yard.proofs.Frame.{shares_alive, seats_put, lock_stays, turn_stays}

all_more : (c d : ℕ) (h : List Post) → c ≤ d → All (λ p. p.worker < c) h → All (λ p. p.worker < d) h
all_more c d h le all k e l = let a : (get_or h k e).worker < c = all k e l in omega arith

once_suc : (k n : ℕ) → once_below k (n + 1) ≡ once_below k n + (if n == k then 1 else 0)
once_suc k n = grind arith

module _ (f : Base) where
  turn_longer : (h : List Post) (words : List ℕ) (homes : Homes) (views ws : List SeatView) → IsTurnKept f h words homes views → IsTurnKept f h words homes (views ++ ws)
  turn_longer h words homes views ws (inl free) = inl free
  turn_longer h words homes views ws (inr t) = let o = t.3 in inr (t.0, t.1, t.2, record { there = at_longer views ws t.0 t.1 o.there; lives = o.lives; turn = o.turn })

  lock_longer : (h : List Post) (words : List ℕ) (homes : Homes) (views ws : List SeatView) (x : ℕ) → IsLockKept f h words homes views x → IsLockKept f h words homes (views ++ ws) x
  lock_longer h words homes views ws x (inl free) = inl free
  lock_longer h words homes views ws x (inr t) = let o = t.4 in inr (t.0, t.1, t.2, t.3, record { there = at_longer views ws t.0 t.1 o.there; lives = o.lives; held = o.held })

  turn_left : (h : List Post) (words : List ℕ) (homes : Homes) (views : List SeatView) (i : ℕ) (w z : SeatView) → get_elem? views i ≡ some w → w.turn ≡ None
      → IsTurnKept f h words homes views → IsTurnKept f h words homes (set views i z)
  turn_left h words homes views i w z at free_of (inl free) = inl free
  turn_left h words homes views i w z at free_of (inr t) = let o = t.3 in dite (ℕ_discrete t.0 i)
      (λ e. let v_is : t.1 ≡ w = some-injective t.1 w (sym o.there ∙ (ap (get_elem? views) e ∙ at)) in absurd (no_turn (ap (λ (y : SeatView). y.turn) (sym v_is) ∙ o.turn)))
      (λ ne. inr (t.0, t.1, t.2, record { there = set_else views i t.0 z ne ∙ o.there; lives = o.lives; turn = o.turn }))
    where
      no_turn : w.turn ≡ Some h → ⊥
      no_turn e = let q : None ≡ Some h = sym free_of ∙ e in cc

  lock_left : (h : List Post) (words : List ℕ) (homes : Homes) (views : List SeatView) (i : ℕ) (w z : SeatView) (x : ℕ) → get_elem? views i ≡ some w → w.held ≡ []
      → IsLockKept f h words homes views x → IsLockKept f h words homes (set views i z) x
  lock_left h words homes views i w z x at free_of (inl free) = inl free
  lock_left h words homes views i w z x at free_of (inr t) = let o = t.4 in dite (ℕ_discrete t.0 i)
      (λ e. let v_is : t.1 ≡ w = some-injective t.1 w (sym o.there ∙ (ap (get_elem? views) e ∙ at)) in absurd (no_lock t.2 (ap (λ (y : SeatView). held_of x y.held) (sym v_is) ∙ o.held)))
      (λ ne. inr (t.0, t.1, t.2, t.3, record { there = set_else views i t.0 z ne ∙ o.there; lives = o.lives; held = o.held }))
    where
      no_lock : (l : List Named) → held_of x w.held ≡ Some l → ⊥
      no_lock l e = let q : None ≡ Some l = sym (ap (held_of x) free_of) ∙ e in cc

  -- the same knowledge among more seats
  recount : (h : List Post) (notes : ℕ → List Note) (words : List ℕ) (homes : Homes) (c d i : ℕ) (v : SeatView) → i ≢ 0 → Knows f h notes words homes c i v → Knows f h notes words homes d i v
  recount h notes words homes c d i v ne ok = record {
    base = ok.base;
    number = ok.number;
    own = ok.own;
    made = λ e. absurd (ne e);
    shares = ok.shares;
    turn = ok.turn;
    held = ok.held;
  }

  pub split-allowed : (id : ℕ) (v : SeatView) → v.lives ≡ true → v.number ≡ 0 → v.made + 1 < 2 ^ 32 → Splits (Stands f) id v (parent v) (child v)
  split-allowed id v lives zeroth small s r at =
      let ok = r.seats id v at lives in let id_is : id ≡ 0 = sym ok.number ∙ zeroth in let n : ℕ = length s.views in let made : v.made ≡ n = ok.made id_is in
      let left : SeatView = parent v in let right : SeatView = child v in let vs : List SeatView = set s.views id left in let views' : List SeatView = vs ++ right ∷ [] in
      let wide : length vs ≡ n = length-set s.views id left in let count : n + 1 ≡ length views' = (let a = length-append vs (right ∷ []) in omega arith) in
      let far : n ≢ 0 = (let a = in_range s.views id v at in λ e. omega arith) in record {
        posts = r.posts;
        notes = r.notes;
        wide = r.wide;
        some_word = r.some_word;
        few = omega arith;
        legal = r.legal;
        workers = all_more n (length views') r.posts (omega arith) r.workers;
        seats = λ j d there alive. subst (λ (c : ℕ). Knows f r.posts r.notes s.words s.homes c j d) count (⊎_elim
            (λ (old : get_elem? vs j ≡ some d). seats_put (λ i y. y.lives ≡ true → Knows f r.posts r.notes s.words s.homes (n + 1) i y) s.views id left
            (λ _. record { base = ok.base; number = ok.number; own = ok.own; made = λ _. ap (λ (z : ℕ). z + 1) made; shares = ok.shares; turn = ok.turn; held = ok.held })
            (λ i y ne at_i lives_i. recount r.posts r.notes s.words s.homes n (n + 1) i y (λ e. ne (e ∙ sym id_is)) (r.seats i y at_i lives_i)) j d old alive)
            (λ (new : (j ≡ length vs) × (right ≡ d)). let j_is : j ≡ n = new.0 ∙ wide in
            subst (λ (y : SeatView). Knows f r.posts r.notes s.words s.homes (n + 1) j y) new.1 record {
              base = ok.base;
              number = made ∙ sym j_is;
              own = made ∙ sym j_is;
              made = λ e. absurd (far (sym j_is ∙ e));
              shares = λ k a. ⊎_elim (λ (e : k ≡ empty_share v.made). subst (λ (z : Share). (z.posts ≡ posts_of r.posts z.number) × (z.notes ≡ r.notes z.number)) (sym e)
                  (sym (posts_of-none r.posts n v.made r.workers (omega arith)), sym (r.unused v.made (omega arith)))) (λ b. absurd (none_in k b)) (in_front k (empty_share v.made) [] a);
              turn = λ i e. absurd (none-some i e);
              held = λ x l e. absurd (none-some l e);
            })
            (at_end vs right d j there));
        numbers = λ k. let F : SeatView → ℕ = λ z. times k (shares_of z) in let a = sum_by_push F vs right in let b = sum_by-set_at F s.views id v left at in let c = r.numbers k in let d = once_suc k n in
            let e : F left ≡ F v = refl in let g : F right ≡ (if n == k then 1 else 0) = (let q : F right ≡ (if v.made == k then 1 else 0) + 0 = refl in q ∙ ap (λ (z : ℕ). (if z == k then 1 else 0) + 0) made ∙ plus_none (if n == k then 1 else 0)) in
            let t : sum_by F views' ≡ once_below k (n + 1) = omega arith in t ∙ ap (once_below k) count;
        true_notes = r.true_notes;
        unused = λ k out. r.unused k (omega arith);
        turn = turn_longer r.posts s.words s.homes vs (right ∷ []) (turn_stays f r.posts s.words s.words s.homes s.homes s.views id v left at lives refl (λ _. refl) refl r.turn);
        locks = λ x pos small. lock_longer r.posts s.words s.homes vs (right ∷ []) x
            (lock_stays f r.posts r.posts s.words s.words s.homes s.homes s.views id v left x at lives refl (λ _. refl) (λ _. refl) (λ l e. (l, e)) (r.locks x pos small));
      }
    where
      plus_none : (k : ℕ) → k + 0 ≡ k
      plus_none k = omega arith

  pub join-allowed : (id : ℕ) (v : SeatView) (other : ℕ) (w : SeatView) → v.lives ≡ true → w.lives ≡ true → w.held ≡ [] → w.turn ≡ None → Joins (Stands f) id v other w (joined v w) spent
  join-allowed id v other w lives lives' bare idle s r at apart there =
      let both : SeatView = joined v w in let ok = r.seats id v at lives in let n : ℕ = length s.views in let vs : List SeatView = set s.views id both in let views' : List SeatView = set vs other spent in
      let there' : get_elem? s.views other ≡ some w = sym (set_else s.views id other both apart) ∙ there in let ok' = r.seats other w there' lives' in
      let count : n ≡ length views' = sym (length-set vs other spent ∙ length-set s.views id both) in record {
        posts = r.posts;
        notes = r.notes;
        wide = r.wide;
        some_word = r.some_word;
        few = (let a = r.few in omega arith);
        legal = r.legal;
        workers = all_more n (length views') r.posts (omega arith) r.workers;
        seats = λ j d at_j alive. subst (λ (c : ℕ). Knows f r.posts r.notes s.words s.homes c j d) count
            (seats_put (λ i y. y.lives ≡ true → Knows f r.posts r.notes s.words s.homes n i y) vs other spent (λ e. absurd (true≢false (sym e)))
            (λ i y ne at_i. seats_put (λ i' y'. y'.lives ≡ true → Knows f r.posts r.notes s.words s.homes n i' y') s.views id both
            (λ _. record {
              base = ok.base;
              number = ok.number;
              own = ok.own;
              made = ok.made;
              shares = λ k a. ⊎_elim (λ b. ok.shares k (subst (λ (zs : List Share). Contains zs k) (sym (shares_alive v lives)) b)) (λ b. ok'.shares k (subst (λ (zs : List Share). Contains zs k) (sym (shares_alive w lives')) b))
                  (Contains-append_cases (v.own ∷ v.others) (w.own ∷ w.others) k (subst (λ (zs : List Share). Contains zs k) (shares_alive both lives) a));
              turn = ok.turn;
              held = ok.held;
            })
            (λ i' y' ne' at' lives''. r.seats i' y' at' lives'') i y at_i) j d at_j alive);
        numbers = λ k. let F : SeatView → ℕ = λ z. times k (shares_of z) in let a = sum_by-set_at F vs other w spent there in let b = sum_by-set_at F s.views id v both at in let c = r.numbers k in
            let d : F both ≡ F v + F w = ap (times k) (shares_alive both lives) ∙ (times-append k (v.own ∷ v.others) (w.own ∷ w.others) ∙ (λ i. times k (sym (shares_alive v lives) i) + times k (sym (shares_alive w lives') i))) in
            let e : F spent ≡ 0 = refl in let t : sum_by F views' ≡ once_below k n = omega arith in t ∙ ap (once_below k) count;
        true_notes = r.true_notes;
        unused = λ k out. r.unused k (omega arith);
        turn = turn_left r.posts s.words s.homes vs other w spent there idle (turn_stays f r.posts s.words s.words s.homes s.homes s.views id v both at lives refl (λ _. refl) refl r.turn);
        locks = λ x pos small. lock_left r.posts s.words s.homes vs other w spent x there bare
            (lock_stays f r.posts r.posts s.words s.words s.homes s.homes s.views id v both x at lives refl (λ _. refl) (λ _. refl) (λ l e. (l, e)) (r.locks x pos small));
      }
