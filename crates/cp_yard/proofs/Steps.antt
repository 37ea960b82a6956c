-- The steps on a lock, and the moves of a slot, keep the rule.
use Rattle.std.proofs.Common.{◌≡◌, ◌≢◌, ℕ, ◌+◌, ◌-◌, ◌<◌, eqb, true, false, ◌⊎◌, List, [], ◌∷◌, ◌++◌, length, get_or, set, Some, None, sym, refl, ap, ◌∙◌, subst, inl, inr, ⊎_elim, arith, length-set, append-nil, eq-eqb, ne_eqb, if◌then◌else◌, get_or-set_other, get_or-set_same}
use Rattle.std.specs.List.{Contains}
use mathlib.Core.Option.{some, none, some-injective}
use mathlib.Core.Logic.{dite}
use Rattle.std.proofs.lemmas.Option.{same_Some}
use native.Mathlib.Decide.{ℕ_discrete}
use prog.Atomic.{either}
use lib.ListN.{get_elem?}
use lib.Seq.{set-get_or}
use Rattle.atomic_table.specs.Table.{Me, step, keeps as stays, takes, gives, stepped, rest, Allows}
use Rattle.atomic_table.proofs.Lists.{set_here, set_else}
use Rattle.cp_logic.specs.declared.named.Named.{Named}
use Rattle.cp_logic.specs.Journals.{Post, posts_of}
use Rattle.cp_logic.proofs.Members.{in_later}
use Rattle.cp_occ.specs.Cells.{CellView}
use Rattle.cp_yard.specs.declared.item.Item.{Item}
use Rattle.cp_yard.specs.declared.item.Item.TheVariants.{OfVariable, Nothing}
use Rattle.cp_yard.specs.Views.{Base, Note, Got, GotTurn, Met, Share, SeatView, held_of, without_lock, lock, shares_of, times, noted, reached_lock, with_hand, unlocked}
use Rattle.cp_yard.specs.Rule.{AreClausesAt, IsCellOf, Homes, IsBare, Knows, IsTrueNote, IsLockKept, Stands, clauses_at}
use Rattle.cp_yard.specs.Steps.{tries_lock, returns_slot, takes_slot, unlocks}
use Rattle.cp_yard.proofs.Lists.{in_front, in_snoc, in_left, in_last, in_range, held_of-without, held_of-others, held_of-same, held_of-other}
use Rattle.cp_yard.proofs.Frame.{St, put, put_here, put_else, shares_alive, mine_among, note_grows, others_not_mine, lock_stays, turn_stays, moves}

abbrev pub M : Type 0
M = Me Item SeatView

-- the seat has the lock of the slot k, or the turn
abbrev pub Owns : SeatView → ℕ → Type 0
Owns v k = ((k ≡ 0) × ((j : List Post) × (v.turn ≡ Some j))) ⊎ ((l : List Named) × (held_of k v.held ≡ Some l))

pub apart : (words : List ℕ) (x k a b : ℕ) → get_or words x 0 ≡ a → get_or words k 0 ≡ b → a ≢ b → x ≢ k
apart words x k a b p q ne e = ne (sym p ∙ (ap (λ (z : ℕ). get_or words z 0) e ∙ q))

module _ (f : Base) where
  pub owns_word : (s : St) (r : Stands f s) (id : ℕ) (v : SeatView) (k : ℕ) → Knows f r.posts r.notes s.words s.homes (length s.views) id v → Owns v k → (get_or s.words k 0 ≡ id + 1) × (v.hand ≢ k + 1 → IsBare s.homes k)
  owns_word s r id v k ok (inl t) = let o = ok.turn t.1.0 t.1.1 in (ap (λ (z : ℕ). get_or s.words z 0) t.0 ∙ o.0, λ ne. subst (IsBare s.homes) (sym t.0) (o.2 (λ e. ne (e ∙ ap (λ (z : ℕ). z + 1) (sym t.0)))))
  owns_word s r id v k ok (inr h) = let o = ok.held k h.0 h.1 in (o.1, o.3)

  pub return-allowed : (slots id : ℕ) (me : M) (k : ℕ) → me.0.lives ≡ true → me.0.hand ≡ k + 1 → Owns me.0 k → me.1 ≡ (k, Nothing) ∷ [] → k < slots
      → Allows (Stands f) slots id me k (λ n. n) (returns_slot (step slots k 0 0 none) me)
  return-allowed slots id me k lives hand owns carried near s r deep at _ =
      let v : SeatView = me.0 in let w : SeatView = with_hand 0 v in let ok = r.seats id v at lives in let n : ℕ = get_or s.words k 0 in let mine = owns_word s r id v k ok owns in
      let homes' : Homes = set s.homes k (some Nothing) in
      let same : (x : ℕ) → get_or (set s.words k n) x 0 ≡ get_or s.words x 0 = λ x. ap (λ (ws : List ℕ). get_or ws x 0) (set-get_or s.words k 0) in
      let back : (x : ℕ) → (v.hand ≢ x + 1 → IsBare s.homes x) → IsBare homes' x = λ x old. dite (ℕ_discrete x k)
      (λ e. subst (IsBare homes') (sym e) (set_here s.homes k (some Nothing) (omega arith)))
      (λ ne. set_else s.homes k x (some Nothing) ne ∙ old (λ q. ne (omega arith))) in
      let else' : (x j : ℕ) → get_or s.words x 0 ≡ j → j ≢ id + 1 → get_elem? homes' x ≡ get_elem? s.homes x = λ x j p ne. set_else s.homes k x (some Nothing) (apart s.words x k j (id + 1) p mine.0 ne) in (
        w,
        gives,
        tt,
        subst (λ (cs : List (ℕ × Item)). Stands f (stepped s k n id cs w gives)) (sym carried)
            (moves f s r id v w at lives lives k n homes' r.posts r.notes (length-set s.homes k (some Nothing)) r.legal r.workers
            record {
              base = ok.base;
              number = ok.number;
              own = ok.own;
              made = ok.made;
              shares = ok.shares;
              turn = λ j e. let o = ok.turn j e in (same 0 ∙ o.0, o.1, (λ _. back 0 o.2), o.3);
              held = λ x l e. let o = ok.held x l e in (o.0, same x ∙ o.1, o.2, (λ _. back x o.3), o.4);
            }
            (λ _. refl) r.true_notes (λ _ _. (refl, refl))
            (λ j x ne p. (same x ∙ p, else' x (j + 1) p (λ q. ne (omega arith)), refl)) (λ _ _ _. refl)
            (turn_stays f r.posts s.words (set s.words k n) s.homes homes' s.views id v w at lives (same 0) (λ z. else' 0 0 z (λ q. omega arith)) refl r.turn)
            (λ x pos small. lock_stays f r.posts r.posts s.words (set s.words k n) s.homes homes' s.views id v w x at lives (same x) (λ z. else' x 0 z (λ q. omega arith)) (λ _. refl) (λ l e. (l, e)) (r.locks x pos small))),
        (refl, ap rest carried),
      )

  pub take-allowed : (slots id : ℕ) (me : M) (k : ℕ) → me.0.lives ≡ true → me.0.hand ≡ 0 → Owns me.0 k → me.1 ≡ [] → k < slots
      → Allows (Stands f) slots id me k (λ n. n) (takes_slot (step slots k 0 0 none) me)
  take-allowed slots id me k lives hand owns empty near s r deep at _ =
      let v : SeatView = me.0 in let w : SeatView = with_hand (k + 1) v in let ok = r.seats id v at lives in let n : ℕ = get_or s.words k 0 in let mine = owns_word s r id v k ok owns in
      let homes' : Homes = set s.homes k none in
      let same : (x : ℕ) → get_or (set s.words k n) x 0 ≡ get_or s.words x 0 = λ x. ap (λ (ws : List ℕ). get_or ws x 0) (set-get_or s.words k 0) in
      let back : (x : ℕ) → (v.hand ≢ x + 1 → IsBare s.homes x) → k + 1 ≢ x + 1 → IsBare homes' x = λ x old ne. set_else s.homes k x none (λ q. ne (omega arith)) ∙ old (λ q. omega arith) in
      let else' : (x j : ℕ) → get_or s.words x 0 ≡ j → j ≢ id + 1 → get_elem? homes' x ≡ get_elem? s.homes x = λ x j p ne. set_else s.homes k x none (apart s.words x k j (id + 1) p mine.0 ne) in (
        w,
        takes k Nothing,
        mine.1 (λ q. omega arith),
        moves f s r id v w at lives lives k n homes' r.posts r.notes (length-set s.homes k none) r.legal r.workers
            record {
              base = ok.base;
              number = ok.number;
              own = ok.own;
              made = ok.made;
              shares = ok.shares;
              turn = λ j e. let o = ok.turn j e in (same 0 ∙ o.0, o.1, (λ ne. back 0 o.2 ne), o.3);
              held = λ x l e. let o = ok.held x l e in (o.0, same x ∙ o.1, o.2, (λ ne. back x o.3 ne), o.4);
            }
            (λ _. refl) r.true_notes (λ _ _. (refl, refl))
            (λ j x ne p. (same x ∙ p, else' x (j + 1) p (λ q. ne (omega arith)), refl)) (λ _ _ _. refl)
            (turn_stays f r.posts s.words (set s.words k n) s.homes homes' s.views id v w at lives (same 0) (λ z. else' 0 0 z (λ q. omega arith)) refl r.turn)
            (λ x pos small. lock_stays f r.posts r.posts s.words (set s.words k n) s.homes homes' s.views id v w x at lives (same x) (λ z. else' x 0 z (λ q. omega arith)) (λ _. refl) (λ l e. (l, e)) (r.locks x pos small)),
        (refl, ap (λ (cs : List (ℕ × Item)). (k, Nothing) ∷ cs) empty),
      )

  pub unlock-allowed : (slots id : ℕ) (me : M) (x : ℕ) (c : CellView) → c.variable ≡ x → me.0.lives ≡ true → me.0.hand ≡ x + 1 → held_of x me.0.held ≡ Some c.clauses → me.1 ≡ (x, OfVariable c) ∷ [] → x < slots
      → Allows (Stands f) slots id me x (λ _. 0) (λ _. unlocks (step slots x 0 0 none) me 0)
  unlock-allowed slots id me x c var_is lives hand held carried near s r deep at _ =
      let v : SeatView = me.0 in let w : SeatView = unlocked x v in let ok = r.seats id v at lives in let o₀ = ok.held x c.clauses held in let pos = o₀.0 in let wide = r.wide in
      let y₀ : Item = OfVariable c in let homes' : Homes = set s.homes x (some y₀) in
      let word : (y : ℕ) → y ≢ x → get_or (set s.words x 0) y 0 ≡ get_or s.words y 0 = λ y ne. get_or-set_other s.words x y 0 0 ne in
      let home : (y : ℕ) → y ≢ x → get_elem? homes' y ≡ get_elem? s.homes y = λ y ne. set_else s.homes x y (some y₀) ne in
      let other : (y j : ℕ) → get_or s.words y 0 ≡ j → j ≢ id + 1 → y ≢ x = λ y j p ne. apart s.words y x j (id + 1) p o₀.1 ne in
      let kept_one : (y : ℕ) (k : List Named) → held_of y (without_lock x v.held) ≡ Some k → y ≢ x = λ y k e q. cc_none y k (ap (λ (z : ℕ). held_of z (without_lock x v.held)) (sym q) ∙ e) in (
        w,
        gives,
        tt,
        subst (λ (cs : List (ℕ × Item)). Stands f (stepped s x 0 id cs w gives)) (sym carried)
            (moves f s r id v w at lives lives x 0 homes' r.posts r.notes (length-set s.homes x (some y₀)) r.legal r.workers
            record {
              base = ok.base;
              number = ok.number;
              own = ok.own;
              made = ok.made;
              shares = ok.shares;
              turn = λ j e. let o = ok.turn j e in (word 0 (λ q. omega arith) ∙ o.0, o.1, (λ _. home 0 (λ q. omega arith) ∙ o.2 (λ q. omega arith)), o.3);
              held = λ y k e. let ne = kept_one y k e in let o = ok.held y k (sym (held_of-others x y v.held ne) ∙ e) in (o.0, word y ne ∙ o.1, o.2, (λ _. home y ne ∙ o.3 (λ q. ne (omega arith))), o.4);
            }
            (λ _. refl) r.true_notes (λ _ _. (refl, refl))
            (λ j y ne p. let far = other y (j + 1) p (λ q. ne (omega arith)) in (word y far ∙ p, home y far, refl)) (λ _ _ _. refl)
            (turn_stays f r.posts s.words (set s.words x 0) s.homes homes' s.views id v w at lives (word 0 (λ q. omega arith)) (λ z. home 0 (λ q. omega arith)) refl r.turn)
            (λ y above small. dite (ℕ_discrete y x)
            (λ e. subst (IsLockKept f r.posts (set s.words x 0) homes' (set s.views id w)) (sym e)
            (inl (get_or-set_same s.words x 0 0 (omega arith), (c, set_here s.homes x (some y₀) (omega arith), (var_is, o₀.2)))))
            (λ ne. lock_stays f r.posts r.posts s.words (set s.words x 0) s.homes homes' s.views id v w y at lives (word y ne) (λ _. home y ne) (λ _. refl) (λ k e. (k, held_of-others x y v.held ne ∙ e)) (r.locks y above small)))),
        (refl, ap rest carried),
      )
    where
      cc_none : (y : ℕ) (k : List Named) → held_of x (without_lock x me.0.held) ≡ Some k → ⊥
      cc_none y k e = let n = held_of-without x me.0.held in let q : None ≡ Some k = sym n ∙ e in cc

  -- a note more of the seat's own number

  pub more_notes : (s : St) (r : Stands f s) (id : ℕ) (v : SeatView) → get_elem? s.views id ≡ some v → v.lives ≡ true → (n : Note) (k : ℕ) (m : Note) → Contains (r.notes k) m → Contains (put r.notes id (v.own.notes ++ n ∷ []) k) m
  more_notes s r id v at lives n k m a = let ok = r.seats id v at lives in let mine : v.own.notes ≡ r.notes id = (ok.shares v.own (mine_among v lives)).1 ∙ ap r.notes ok.own in dite (ℕ_discrete k id)
      (λ e. subst (λ (zs : List Note). Contains zs m) (sym (ap (put r.notes id (v.own.notes ++ n ∷ [])) e ∙ put_here r.notes id (v.own.notes ++ n ∷ [])))
      (in_left m v.own.notes (n ∷ []) (subst (λ (zs : List Note). Contains zs m) (sym mine) (subst (λ (z : ℕ). Contains (r.notes z) m) e a))))
      (λ ne. subst (λ (zs : List Note). Contains zs m) (sym (put_else r.notes id (v.own.notes ++ n ∷ []) k ne)) a)

  pub all_noted : (s : St) (r : Stands f s) (id : ℕ) (v : SeatView) → get_elem? s.views id ≡ some v → v.lives ≡ true → (n : Note) → IsTrueNote f r.posts (put r.notes id (v.own.notes ++ n ∷ [])) id n
      → (k : ℕ) (m : Note) → Contains (put r.notes id (v.own.notes ++ n ∷ []) k) m → IsTrueNote f r.posts (put r.notes id (v.own.notes ++ n ∷ [])) k m
  all_noted s r id v at lives n true_note k m a = let ok = r.seats id v at lives in let mine : v.own.notes ≡ r.notes id = (ok.shares v.own (mine_among v lives)).1 ∙ ap r.notes ok.own in
      let notes' : ℕ → List Note = put r.notes id (v.own.notes ++ n ∷ []) in let grows = note_grows f r.posts r.posts r.notes notes' ([], append-nil r.posts) (more_notes s r id v at lives n) in dite (ℕ_discrete k id)
      (λ e. let b : Contains (v.own.notes ++ n ∷ []) m = subst (λ (zs : List Note). Contains zs m) (put_here r.notes id (v.own.notes ++ n ∷ [])) (subst (λ (z : ℕ). Contains (notes' z) m) e a) in
      subst (λ (z : ℕ). IsTrueNote f r.posts notes' z m) (sym e)
      (⊎_elim (λ (old : Contains v.own.notes m). grows id m (r.true_notes id m (subst (λ (zs : List Note). Contains zs m) mine old))) (λ (new : m ≡ n). subst (IsTrueNote f r.posts notes' id) (sym new) true_note) (in_snoc m n v.own.notes b)))
      (λ ne. grows k m (r.true_notes k m (subst (λ (zs : List Note). Contains zs m) (put_else r.notes id (v.own.notes ++ n ∷ []) k ne) a)))

  pub noted_shares : (s : St) (r : Stands f s) (id : ℕ) (v : SeatView) → get_elem? s.views id ≡ some v → v.lives ≡ true → (n : Note) (k : Share) → Contains (shares_of (noted n v)) k
      → (k.posts ≡ posts_of r.posts k.number) × (k.notes ≡ put r.notes id (v.own.notes ++ n ∷ []) k.number)
  noted_shares s r id v at lives n k a = let ok = r.seats id v at lives in let ns : List Note = v.own.notes ++ n ∷ [] in let notes' : ℕ → List Note = put r.notes id ns in let mine : Share = record v.own { notes = ns } in
      let P : Share → Type 0 = λ z. (z.posts ≡ posts_of r.posts z.number) × (z.notes ≡ notes' z.number) in
      let own : P mine = ((ok.shares v.own (mine_among v lives)).0, sym (put_here r.notes id ns) ∙ ap notes' (sym ok.own)) in
      ⊎_elim (λ (e : k ≡ mine). subst P (sym e) own)
      (λ (b : Contains v.others k). let o = ok.shares k (subst (λ (zs : List Share). Contains zs k) (sym (shares_alive v lives)) (in_later k v.own v.others b)) in (o.0, o.1 ∙ sym (put_else r.notes id ns k.number (others_not_mine f s r id v at lives k b))))
      (in_front k mine v.others (subst (λ (zs : List Share). Contains zs k) (shares_alive (noted n v) lives) a))

  pub noted_times : (n : Note) (v : SeatView) (k : ℕ) → times k (shares_of (noted n v)) ≡ times k (shares_of v)
  noted_times n v k = elim v.lives as (λ b. times k (if b then (noted n v).own ∷ v.others else []) ≡ times k (if b then v.own ∷ v.others else [])) [ true ↦ refl | false ↦ refl ]

  pub lock-allowed : (slots id mark : ℕ) (me : M) (x : ℕ) → me.0.lives ≡ true → me.0.hand ≡ 0 → mark ≡ me.0.number + 1 → held_of x me.0.held ≡ None → 0 < x → x < slots
      → Allows (Stands f) slots id me x (λ n. either (eqb n 0) mark n) (tries_lock (step slots x 0 mark none) me)
  lock-allowed slots id mark me x lives hand number free pos near s r deep at _ =
      let v : SeatView = me.0 in let ok = r.seats id v at lives in let n : ℕ = get_or s.words x 0 in let mark_is : mark ≡ id + 1 = number ∙ ap (λ (z : ℕ). z + 1) ok.number in dite (ℕ_discrete n 0)
      (λ hit. let free_row : (c : CellView) × (get_elem? s.homes x ≡ some (some (OfVariable c))) × IsCellOf x (clauses_at f r.posts x) c = ⊎_elim (λ t. t.1) (λ t. let a = t.3 in absurd (omega arith)) (r.locks x pos (omega arith)) in
      let cell : CellView = free_row.0 in let l : List Named = cell.clauses in let is_occ : l ≡ clauses_at f r.posts x = free_row.2.1 in let made : ℕ = length v.own.posts in let note : Note = Got x l made in let ns : List Note = v.own.notes ++ note ∷ [] in let notes' : ℕ → List Note = put r.notes id ns in let w : SeatView = reached_lock x l v in let wide = r.wide in
      let homes' : Homes = set s.homes x none in let new : ℕ = mark in
      let word : (y : ℕ) → y ≢ x → get_or (set s.words x new) y 0 ≡ get_or s.words y 0 = λ y ne. get_or-set_other s.words x y new 0 ne in
      let home : (y : ℕ) → y ≢ x → get_elem? homes' y ≡ get_elem? s.homes y = λ y ne. set_else s.homes x y none ne in
      let word_is : get_or (set s.words x new) x 0 ≡ id + 1 = get_or-set_same s.words x new 0 (omega arith) ∙ mark_is in
      let other : (y j : ℕ) → get_or s.words y 0 ≡ j + 1 → y ≢ x = λ y j p. apart s.words y x (j + 1) 0 p hit (λ q. omega arith) in
      let mine : v.own.posts ≡ posts_of r.posts id = (ok.shares v.own (mine_among v lives)).0 ∙ ap (posts_of r.posts) ok.own in
      let true_note : IsTrueNote f r.posts notes' id note = (r.posts, ([], append-nil r.posts), is_occ, ap length (sym mine)) in (
        w,
        takes x (OfVariable cell),
        free_row.1,
        subst (λ b. Stands f (stepped s x (either b new n) id me.1 w (takes x (OfVariable cell)))) (sym (eq-eqb n 0 hit))
            (moves f s r id v w at lives lives x new homes' r.posts notes' (length-set s.homes x none) r.legal r.workers
            record {
              base = ok.base;
              number = ok.number;
              own = ok.own;
              made = ok.made;
              shares = noted_shares s r id v at lives note;
              turn = λ j e. let o = ok.turn j e in let ne = other 0 id o.0 in (word 0 ne ∙ o.0, o.1, (λ _. home 0 ne ∙ o.2 (λ q. omega arith)), (o.3.0, in_left (GotTurn o.3.0) v.own.notes (note ∷ []) o.3.1));
              held = λ y k e. dite (ℕ_discrete y x)
                  (λ q. let k_is : k ≡ l = same_Some k l (sym e ∙ (ap (λ (z : ℕ). held_of z (lock x l ∷ v.held)) q ∙ held_of-same x l v.held)) in (
                    (let g : 0 < y = omega arith in g),
                    ap (λ (z : ℕ). get_or (set s.words x new) z 0) q ∙ word_is,
                    k_is ∙ (is_occ ∙ ap (clauses_at f r.posts) (sym q)),
                    (λ ne. absurd (ne (ap (λ (z : ℕ). z + 1) (sym q)))),
                    (l, made, subst (λ (z : ℕ). Contains ns (Got z l made)) (sym q) (in_last note v.own.notes)),
                  ))
                  (λ ne. let o = ok.held y k (sym (held_of-other x y l v.held ne) ∙ e) in
                  (o.0, word y ne ∙ o.1, o.2, (λ _. home y ne ∙ o.3 (λ q. omega arith)), (o.4.0, o.4.1, in_left (Got y o.4.0 o.4.1) v.own.notes (note ∷ []) o.4.2)));
            }
            (noted_times note v) (all_noted s r id v at lives note true_note) (λ k ne. (put_else r.notes id ns k ne, refl))
            (λ j y ne p. let far = other y j p in (word y far ∙ p, home y far, refl)) (λ _ _ _. refl)
            (turn_stays f r.posts s.words (set s.words x new) s.homes homes' s.views id v w at lives (word 0 (λ q. omega arith)) (λ z. home 0 (λ q. omega arith)) refl r.turn)
            (λ y above small. dite (ℕ_discrete y x)
            (λ e. subst (IsLockKept f r.posts (set s.words x new) homes' (set s.views id w)) (sym e)
            (inr (id, w, l, word_is, record { there = set_here s.views id w (in_range s.views id v at); lives = lives; held = held_of-same x l v.held })))
            (λ ne. lock_stays f r.posts r.posts s.words (set s.words x new) s.homes homes' s.views id v w y at lives (word y ne) (λ _. home y ne) (λ _. refl) (λ k e. (k, held_of-other x y l v.held ne ∙ e)) (r.locks y above small)))),
        ((λ _. (cell, free_row.2.0, subst (λ (z : Base). AreClausesAt z x l) (sym ok.base) (r.posts, r.legal, is_occ), refl, refl)), λ miss. absurd (miss hit)),
      ))
      (λ miss. let taken = ⊎_elim (λ t. absurd (miss t.0)) (λ t. t) (r.locks x pos (omega arith)) in let i : ℕ = taken.0 in let z : SeatView = taken.1 in let h = taken.4 in let zs = r.seats i z h.there h.lives in let t₃ = taken.3 in
      let away : i ≢ id = λ e. none_held taken.2 (ap (λ (y : SeatView). held_of x y.held) (some-injective v z (sym at ∙ (ap (get_elem? s.views) (sym e) ∙ h.there))) ∙ h.held) in
      let by_is : i ≡ n - 1 = omega arith in let zn = (zs.held x taken.2 h.held).4 in
      let note : Note = Met x (n - 1) in let ns : List Note = v.own.notes ++ note ∷ [] in let notes' : ℕ → List Note = put r.notes id ns in let w : SeatView = noted note v in
      let same : (y : ℕ) → get_or (set s.words x n) y 0 ≡ get_or s.words y 0 = λ y. ap (λ (ws : List ℕ). get_or ws y 0) (set-get_or s.words x 0) in
      let theirs : z.own.notes ≡ notes' (n - 1) = (zs.shares z.own (mine_among z h.lives)).1 ∙ (ap r.notes (zs.own ∙ by_is) ∙ sym (put_else r.notes id ns (n - 1) (λ e. away (by_is ∙ e)))) in
      let true_note : IsTrueNote f r.posts notes' id note = ((λ e. away (by_is ∙ e)), (zn.0, zn.1, subst (λ zs. Contains zs (Got x zn.0 zn.1)) theirs zn.2)) in (
        w,
        stays,
        tt,
        subst (λ b. Stands f (stepped s x (either b mark n) id me.1 w stays)) (sym (ne_eqb n 0 miss))
            (moves f s r id v w at lives lives x n s.homes r.posts notes' refl r.legal r.workers
            record {
              base = ok.base;
              number = ok.number;
              own = ok.own;
              made = ok.made;
              shares = noted_shares s r id v at lives note;
              turn = λ j e. let o = ok.turn j e in (same 0 ∙ o.0, o.1, o.2, (o.3.0, in_left (GotTurn o.3.0) v.own.notes (note ∷ []) o.3.1));
              held = λ y k e. let o = ok.held y k e in (o.0, same y ∙ o.1, o.2, o.3, (o.4.0, o.4.1, in_left (Got y o.4.0 o.4.1) v.own.notes (note ∷ []) o.4.2));
            }
            (noted_times note v) (all_noted s r id v at lives note true_note) (λ k ne. (put_else r.notes id ns k ne, refl))
            (λ j y ne p. (same y ∙ p, refl, refl)) (λ _ _ _. refl)
            (turn_stays f r.posts s.words (set s.words x n) s.homes s.homes s.views id v w at lives (same 0) (λ _. refl) refl r.turn)
            (λ y above small. lock_stays f r.posts r.posts s.words (set s.words x n) s.homes s.homes s.views id v w y at lives (same y) (λ _. refl) (λ _. refl) (λ k e. (k, e)) (r.locks y above small))),
        ((λ hit. absurd (miss hit)), λ _. (refl, refl, ((λ e. away (by_is ∙ (e ∙ ok.number))), (let a = in_range s.views i z h.there in let b = r.few in omega arith)))),
      ))
    where
      none_held : (k : List Named) → held_of x me.0.held ≡ Some k → ⊥
      none_held k e = let q : None ≡ Some k = sym free ∙ e in cc
