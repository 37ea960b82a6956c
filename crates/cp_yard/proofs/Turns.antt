-- The steps on the turn keep the rule.
use Rattle.std.proofs.Common.{◌≡◌, ◌≢◌, ℕ, ◌+◌, ◌-◌, ◌<◌, eqb, true, false, List, [], ◌∷◌, ◌++◌, length, get_or, set, Some, None, sym, refl, ap, ◌∙◌, subst, inl, inr, ⊎_elim, arith, length-set, append-nil, eq-eqb, ne_eqb, if◌then◌else◌, get_or-set_other, get_or-set_same}
use Rattle.std.specs.List.{Contains}
use mathlib.Core.Option.{some, none, some-injective}
use mathlib.Core.Logic.{dite}
use native.Mathlib.Decide.{ℕ_discrete}
use prog.Atomic.{either}
use lib.ListN.{get_elem?}
use lib.Seq.{set-get_or}
use Rattle.std.proofs.lemmas.List.Elements.{All-push}
use Rattle.std.proofs.lemmas.Bool.{cases_Bool}
use Rattle.std.proofs.lemmas.Option.{none-some, same_Some}
use Rattle.atomic_table.specs.Table.{step, keeps as stays, takes, gives, stepped, rest, Allows}
use Rattle.atomic_table.proofs.Lists.{set_here, set_else}
use Rattle.cp_logic.specs.declared.named.Named.{Named}
use Rattle.cp_logic.specs.Clauses.{contains}
use Rattle.cp_logic.specs.Entries.{variables_of}
use Rattle.cp_logic.specs.Journals.{Post, posts_of}
use Rattle.cp_logic.specs.Locality.{after}
use Rattle.cp_logic.proofs.Members.{in_later}
use Rattle.cp_book.specs.Views.{BookView}
use Rattle.cp_yard.specs.declared.item.Item.{Item}
use Rattle.cp_yard.specs.declared.item.Item.TheVariants.{OfTurn}
use Rattle.cp_yard.specs.Views.{Base, Note, Got, GotTurn, MetTurn, Share, SeatView, base_of, shares_of, times, noted, reached_turn, without_turn, with_post}
use Rattle.cp_yard.specs.Rule.{Homes, IsBookOf, IsLegal, IsTrueNote, Stands, HoldsAll, clauses_at}
use Rattle.cp_yard.specs.Steps.{tries_turn, ends_turn, posts_entry}
use Rattle.cp_yard.proofs.Lists.{in_front, in_left, in_last, in_range, held_of-after, held_of-before, posts_of-own, posts_of-other}
use Rattle.cp_yard.proofs.Posted.{clauses_at-post, clauses_at-other}
use Rattle.cp_yard.proofs.Items.{same_item, same_book}
use Rattle.cp_yard.proofs.Frame.{put, put_else, shares_alive, mine_among, note_grows, others_not_mine, lock_stays, turn_stays, moves}
use Rattle.cp_yard.proofs.Steps.{M, apart, noted_shares, noted_times, all_noted}

abbrev last_or : Post → List Post → Post
last_or d [] = d
last_or d (p ∷ []) = p
last_or d (p ∷ q ∷ qs) = last_or d (q ∷ qs)

last_snoc : (h : List Post) (d p : Post) → last_or d (h ++ p ∷ []) ≡ p
last_snoc [] d p = refl
last_snoc (x ∷ []) d p = refl
last_snoc (x ∷ y ∷ ys) d p = last_snoc (y ∷ ys) d p

module _ (f : Base) where
  pub turn-allowed : (slots id mark : ℕ) (me : M) → me.0.lives ≡ true → me.0.hand ≡ 0 → mark ≡ me.0.number + 1 → me.0.turn ≡ None → 0 < slots
      → Allows (Stands f) slots id me 0 (λ n. either (eqb n 0) mark n) (tries_turn (step slots 0 0 mark none) me)
  turn-allowed slots id mark me lives hand number free near s r deep at _ =
      let v : SeatView = me.0 in let ok = r.seats id v at lives in let n : ℕ = get_or s.words 0 0 in let mark_is : mark ≡ id + 1 = number ∙ ap (λ (z : ℕ). z + 1) ok.number in dite (ℕ_discrete n 0)
      (λ hit. let h : List Post = r.posts in let note : Note = GotTurn h in let ns : List Note = v.own.notes ++ note ∷ [] in let notes' : ℕ → List Note = put r.notes id ns in let w : SeatView = reached_turn h v in let wide = r.wide in
      let homes' : Homes = set s.homes 0 none in let new : ℕ = mark in let home₀ : (b : BookView) × (get_elem? s.homes 0 ≡ some (some (OfTurn b))) × IsBookOf f h b = ⊎_elim (λ t. t.1) (λ t. let a = t.2 in absurd (omega arith)) r.turn in
      let book : BookView = home₀.0 in let it : Item = OfTurn book in
      let word : (y : ℕ) → y ≢ 0 → get_or (set s.words 0 new) y 0 ≡ get_or s.words y 0 = λ y ne. get_or-set_other s.words 0 y new 0 ne in
      let home : (y : ℕ) → y ≢ 0 → get_elem? homes' y ≡ get_elem? s.homes y = λ y ne. set_else s.homes 0 y none ne in
      let word_is : get_or (set s.words 0 new) 0 0 ≡ id + 1 = get_or-set_same s.words 0 new 0 (omega arith) ∙ mark_is in
      let other : (y j : ℕ) → get_or s.words y 0 ≡ j + 1 → y ≢ 0 = λ y j p. apart s.words y 0 (j + 1) 0 p hit (λ q. omega arith) in
      let true_note : IsTrueNote f r.posts notes' id note = ([], append-nil r.posts) in (
        w,
        takes 0 it,
        home₀.1,
        subst (λ b. Stands f (stepped s 0 (either b new n) id me.1 w (takes 0 it))) (sym (eq-eqb n 0 hit))
            (moves f s r id v w at lives lives 0 new homes' r.posts notes' (length-set s.homes 0 none) r.legal r.workers
            record {
              base = ok.base;
              number = ok.number;
              own = ok.own;
              made = ok.made;
              shares = noted_shares f s r id v at lives note;
              turn = λ j e. (word_is, sym (same_Some h j e), (λ ne. absurd (ne refl)), (h, in_last note v.own.notes));
              held = λ y k e. let o = ok.held y k e in let a = o.0 in let ne : y ≢ 0 = (λ q. omega arith) in
                  (o.0, word y ne ∙ o.1, o.2, (λ _. home y ne ∙ o.3 (λ q. omega arith)), (o.4.0, o.4.1, in_left (Got y o.4.0 o.4.1) v.own.notes (note ∷ []) o.4.2));
            }
            (noted_times f note v) (all_noted f s r id v at lives note true_note) (λ k ne. (put_else r.notes id ns k ne, refl))
            (λ j y ne p. let far = other y j p in (word y far ∙ p, home y far, refl)) (λ _ _ _. refl)
            (inr (id, w, word_is, record { there = set_here s.views id w (in_range s.views id v at); lives = lives; turn = refl }))
            (λ y above small. let ne : y ≢ 0 = (λ q. omega arith) in lock_stays f r.posts r.posts s.words (set s.words 0 new) s.homes homes' s.views id v w y at lives (word y ne) (λ _. home y ne) (λ _. refl) (λ k e. (k, e)) (r.locks y above small))),
        ((λ _. (h, book, subst (λ (z : Base). IsBookOf z h book) (sym ok.base) home₀.2, refl, refl, λ x l e. (ok.held x l e).2 ∙ ap (λ (z : Base). clauses_at z h x) (sym ok.base))), λ miss. absurd (miss hit)),
      ))
      (λ miss. let taken = ⊎_elim (λ t. absurd (miss t.0)) (λ t. t) r.turn in let i : ℕ = taken.0 in let z : SeatView = taken.1 in let t = taken.3 in let zs = r.seats i z t.there t.lives in let t₂ = taken.2 in
      let away : i ≢ id = λ e. none_taken r.posts (ap (λ (y : SeatView). y.turn) (some-injective v z (sym at ∙ (ap (get_elem? s.views) (sym e) ∙ t.there))) ∙ t.turn) in
      let by_is : i ≡ n - 1 = omega arith in let zn = (zs.turn r.posts t.turn).3 in
      let note : Note = MetTurn (n - 1) in let ns : List Note = v.own.notes ++ note ∷ [] in let notes' : ℕ → List Note = put r.notes id ns in let w : SeatView = noted note v in
      let same : (y : ℕ) → get_or (set s.words 0 n) y 0 ≡ get_or s.words y 0 = λ y. ap (λ (ws : List ℕ). get_or ws y 0) (set-get_or s.words 0 0) in
      let theirs : z.own.notes ≡ notes' (n - 1) = (zs.shares z.own (mine_among z t.lives)).1 ∙ (ap r.notes (zs.own ∙ by_is) ∙ sym (put_else r.notes id ns (n - 1) (λ e. away (by_is ∙ e)))) in
      let true_note : IsTrueNote f r.posts notes' id note = ((λ e. away (by_is ∙ e)), (zn.0, subst (λ zs. Contains zs (GotTurn zn.0)) theirs zn.1)) in (
        w,
        stays,
        tt,
        subst (λ b. Stands f (stepped s 0 (either b mark n) id me.1 w stays)) (sym (ne_eqb n 0 miss))
            (moves f s r id v w at lives lives 0 n s.homes r.posts notes' refl r.legal r.workers
            record {
              base = ok.base;
              number = ok.number;
              own = ok.own;
              made = ok.made;
              shares = noted_shares f s r id v at lives note;
              turn = λ j e. let o = ok.turn j e in (same 0 ∙ o.0, o.1, o.2, (o.3.0, in_left (GotTurn o.3.0) v.own.notes (note ∷ []) o.3.1));
              held = λ y k e. let o = ok.held y k e in (o.0, same y ∙ o.1, o.2, o.3, (o.4.0, o.4.1, in_left (Got y o.4.0 o.4.1) v.own.notes (note ∷ []) o.4.2));
            }
            (noted_times f note v) (all_noted f s r id v at lives note true_note) (λ k ne. (put_else r.notes id ns k ne, refl))
            (λ j y ne p. (same y ∙ p, refl, refl)) (λ _ _ _. refl)
            (turn_stays f r.posts s.words (set s.words 0 n) s.homes s.homes s.views id v w at lives (same 0) (λ _. refl) refl r.turn)
            (λ y above small. lock_stays f r.posts r.posts s.words (set s.words 0 n) s.homes s.homes s.views id v w y at lives (same y) (λ _. refl) (λ _. refl) (λ k e. (k, e)) (r.locks y above small))),
        ((λ hit. absurd (miss hit)), λ _. (refl, refl, ((λ e. away (by_is ∙ (e ∙ ok.number))), (let a = in_range s.views i z t.there in let b = r.few in omega arith)))),
      ))
    where
      none_taken : (k : List Post) → me.0.turn ≡ Some k → ⊥
      none_taken k e = let q : None ≡ Some k = sym free ∙ e in cc

  pub end-allowed : (slots id : ℕ) (me : M) (h : List Post) → me.0.lives ≡ true → me.0.hand ≡ 1 → me.0.turn ≡ Some h → (b : BookView) → IsBookOf me.0.base h b → me.1 ≡ (0, OfTurn b) ∷ [] → 0 < slots
      → Allows (Stands f) slots id me 0 (λ _. 0) (λ _. ends_turn (step slots 0 0 0 none) me 0)
  end-allowed slots id me h lives hand turn b is_book carried near s r deep at _ =
      let v : SeatView = me.0 in let w : SeatView = without_turn v in let ok = r.seats id v at lives in let o₀ = ok.turn h turn in let wide = r.wide in
      let it : Item = OfTurn b in let homes' : Homes = set s.homes 0 (some it) in
      let word : (y : ℕ) → y ≢ 0 → get_or (set s.words 0 0) y 0 ≡ get_or s.words y 0 = λ y ne. get_or-set_other s.words 0 y 0 0 ne in
      let home : (y : ℕ) → y ≢ 0 → get_elem? homes' y ≡ get_elem? s.homes y = λ y ne. set_else s.homes 0 y (some it) ne in
      let other : (y j : ℕ) → get_or s.words y 0 ≡ j → j ≢ id + 1 → y ≢ 0 = λ y j p ne. apart s.words y 0 j (id + 1) p o₀.0 ne in (
        w,
        gives,
        tt,
        subst (λ (cs : List (ℕ × Item)). Stands f (stepped s 0 0 id cs w gives)) (sym carried)
            (moves f s r id v w at lives lives 0 0 homes' r.posts r.notes (length-set s.homes 0 (some it)) r.legal r.workers
            record {
              base = ok.base;
              number = ok.number;
              own = ok.own;
              made = ok.made;
              shares = ok.shares;
              turn = λ j e. absurd (none-some j e);
              held = λ y k e. let o = ok.held y k e in let a = o.0 in let ne : y ≢ 0 = (λ q. omega arith) in (o.0, word y ne ∙ o.1, o.2, (λ _. home y ne ∙ o.3 (λ q. omega arith)), o.4);
            }
            (λ _. refl) r.true_notes (λ _ _. (refl, refl))
            (λ j y ne p. let far = other y (j + 1) p (λ q. ne (omega arith)) in (word y far ∙ p, home y far, refl)) (λ _ _ _. refl)
            (inl (get_or-set_same s.words 0 0 0 (omega arith), (b, set_here s.homes 0 (some it) (omega arith), subst (λ (z : Base × List Post). IsBookOf z.0 z.1 b) (λ i. (ok.base i, o₀.1 i)) is_book)))
            (λ y above small. let ne : y ≢ 0 = (λ q. omega arith) in lock_stays f r.posts r.posts s.words (set s.words 0 0) s.homes homes' s.views id v w y at lives (word y ne) (λ _. home y ne) (λ _. refl) (λ k e. (k, e)) (r.locks y above small))),
        (refl, ap rest carried),
      )

  pub post-allowed : (slots id : ℕ) (me : M) (h₀ : List Post) (p : Post) → me.0.lives ≡ true → me.0.hand ≡ 1 → me.0.turn ≡ Some h₀ → (b : BookView) → IsBookOf me.0.base (h₀ ++ p ∷ []) b → me.1 ≡ (0, OfTurn b) ∷ []
      → p.worker ≡ me.0.number → HoldsAll p.entry me.0.held → IsLegal me.0.base (h₀ ++ p ∷ []) → 0 < slots
      → Allows (Stands f) slots id me 0 (λ _. 0) (λ _. posts_entry (step slots 0 0 0 none) me 0)
  post-allowed slots id me h₀ p lives hand turn b is_book carried worker covers legal near s r deep at _ =
      let v : SeatView = me.0 in let w : SeatView = with_post (length h₀) p v in let ok = r.seats id v at lives in let o₀ = ok.turn h₀ turn in let wide = r.wide in
      let h' : List Post = r.posts ++ p ∷ [] in let same_h : h₀ ≡ r.posts = o₀.1 in let by : p.worker ≡ id = worker ∙ ok.number in
      let it : Item = OfTurn b in let homes' : Homes = set s.homes 0 (some it) in
      let word : (y : ℕ) → y ≢ 0 → get_or (set s.words 0 0) y 0 ≡ get_or s.words y 0 = λ y ne. get_or-set_other s.words 0 y 0 0 ne in
      let home : (y : ℕ) → y ≢ 0 → get_elem? homes' y ≡ get_elem? s.homes y = λ y ne. set_else s.homes 0 y (some it) ne in
      let other : (y j : ℕ) → get_or s.words y 0 ≡ j → j ≢ id + 1 → y ≢ 0 = λ y j q ne. apart s.words y 0 j (id + 1) q o₀.0 ne in
      let legal' : IsLegal f h' = subst (λ (z : Base × List Post). IsLegal z.0 (z.1 ++ p ∷ [])) (λ i. (ok.base i, same_h i)) legal in
      let calm : (y : ℕ) → get_or s.words y 0 ≢ id + 1 → clauses_at f h' y ≡ clauses_at f r.posts y = λ y ne. ⊎_elim
      (λ (e : contains (variables_of p.entry) y ≡ true). let c = covers y e in absurd (ne (ok.held y c.0 c.1).1))
      (λ (e : contains (variables_of p.entry) y ≡ false). clauses_at-other f r.posts p r.legal legal' y e) (cases_Bool (contains (variables_of p.entry) y)) in
      let mine = ok.shares v.own (mine_among v lives) in
      let P : Share → Type 0 = λ z. (z.posts ≡ posts_of h' z.number) × (z.notes ≡ r.notes z.number) in
      let own : P w.own = (
        ap (λ z. z ++ (length h₀, p) ∷ []) mine.0 ∙ (ap (λ (j : List Post). posts_of r.posts v.own.number ++ (length j, p) ∷ []) same_h ∙ sym (posts_of-own r.posts p v.own.number (by ∙ sym ok.own))),
        mine.1,
      ) in (
        w,
        gives,
        tt,
        subst (λ (cs : List (ℕ × Item)). Stands f (stepped s 0 0 id cs w gives)) (sym carried)
            (moves f s r id v w at lives lives 0 0 homes' h' r.notes (length-set s.homes 0 (some it)) legal' (All-push (λ q. q.worker < length s.views) r.posts p r.workers (let a = in_range s.views id v at in omega arith))
            record {
              base = ok.base;
              number = ok.number;
              own = ok.own;
              made = ok.made;
              shares = λ k a. ⊎_elim (λ (e : k ≡ w.own). subst P (sym e) own)
                  (λ (b : Contains v.others k). let o = ok.shares k (subst (λ (zs : List Share). Contains zs k) (sym (shares_alive v lives)) (in_later k v.own v.others b)) in
                  (o.0 ∙ sym (posts_of-other r.posts p k.number (λ e. others_not_mine f s r id v at lives k b (sym e ∙ by))), o.1)) (in_front k w.own v.others (subst (λ (zs : List Share). Contains zs k) (shares_alive w lives) a));
              turn = λ j e. absurd (none-some j e);
              held = λ y k e. let m = held_of-before p.entry y v.held k e in let o = ok.held y m.0 m.1 in let a = o.0 in let ne : y ≢ 0 = (λ q. omega arith) in
                  (o.0, word y ne ∙ o.1, m.2 ∙ (ap (λ (l : List Named). after l y p.entry) o.2 ∙ sym (clauses_at-post f r.posts p r.legal legal' y)), (λ _. home y ne ∙ o.3 (λ q. omega arith)), o.4);
            }
            (wrote_times v) (λ k m a. note_grows f r.posts h' r.notes r.notes (p ∷ [], refl) (λ _ _ b. b) k m (r.true_notes k m a)) (λ k ne. (refl, posts_of-other r.posts p k (λ e. ne (sym e ∙ by))))
            (λ j y ne q. let far = other y (j + 1) q (λ e. ne (omega arith)) in (word y far ∙ q, home y far, calm y (λ e. ne (omega arith))))
            (λ j ne q. absurd (other 0 (j + 1) q (λ e. ne (omega arith)) refl))
            (inl (get_or-set_same s.words 0 0 0 (omega arith), (b, set_here s.homes 0 (some it) (omega arith), subst (λ (z : Base × List Post). IsBookOf z.0 (z.1 ++ p ∷ []) b) (λ i. (ok.base i, same_h i)) is_book)))
            (λ y above small. let ne : y ≢ 0 = (λ q. omega arith) in lock_stays f r.posts h' s.words (set s.words 0 0) s.homes homes' s.views id v w y at lives (word y ne) (λ _. home y ne)
            (λ z. calm y (λ e. omega arith)) (λ k e. (after k y p.entry, held_of-after p.entry y v.held k e)) (r.locks y above small))),
        (
          ap rest carried,
          λ b₁ e. let same : b₁ ≡ b = same_book b₁ b (same_item me.1 0 0 (OfTurn b₁) (OfTurn b) [] [] e carried) in
              let after_it : h' ≡ b₁.posts = ap (λ z. z ++ p ∷ []) (sym same_h) ∙ (sym is_book.2 ∙ ap (λ (z : BookView). z.posts) (sym same)) in (
                (λ h₁ q turn₁ posts. let a : h₁ ≡ h₀ = same_Some h₁ h₀ (sym turn₁ ∙ turn) in
                    let both : h₁ ++ q ∷ [] ≡ h₀ ++ p ∷ [] = sym posts ∙ (ap (λ (z : BookView). z.posts) same ∙ is_book.2) in
                    let c : q ≡ p = sym (last_snoc h₁ p q) ∙ (ap (last_or p) both ∙ last_snoc h₀ p p) in
                    sym (λ i. with_post (length (a i)) (c i) v)),
                (λ y k held. let m = held_of-before p.entry y v.held k held in let o = ok.held y m.0 m.1 in
                    m.2 ∙ (ap (λ (l : List Named). after l y p.entry) o.2 ∙ (sym (clauses_at-post f r.posts p r.legal legal' y)
                    ∙ (λ i. clauses_at (sym ok.base i) (after_it i) y)))),
              ),
        ),
      )
    where
      wrote_times : (z : SeatView) (k : ℕ) → times k (shares_of (with_post (length h₀) p z)) ≡ times k (shares_of z)
      wrote_times z k = elim z.lives as (λ b. times k (if b then (with_post (length h₀) p z).own ∷ z.others else []) ≡ times k (if b then z.own ∷ z.others else [])) [ true ↦ refl | false ↦ refl ]

-- a book over a base
pub base_of-book : (f : Base) (h : List Post) (b : BookView) → IsBookOf f h b → base_of b ≡ f
base_of-book f h b is = λ i. record { formula = is.0 i; rules = is.1 i }

pub book_of-base : (f : Base) (b : BookView) (h : List Post) → base_of b ≡ f → b.posts ≡ h → IsBookOf f h b
book_of-base f b h e posts = (ap (λ (z : Base). z.formula) e, ap (λ (z : Base). z.rules) e, posts)
