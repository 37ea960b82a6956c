-- The first state of a yard, and what is left where one seat has the numbers of all.
use Rattle.std.proofs.Common.{◌≡◌, ℕ, zero, suc, ◌+◌, ◌<◌, ◌≤◌, true, List, [], ◌∷◌, ◌++◌, map, length, replicate, get_or, Some, None, All, sym, refl, ap, ◌∙◌, subst, inl, ⊎_elim, arith}
use Rattle.std.specs.List.{Contains, range_with_len}
use Rattle.std.proofs.lemmas.List.{map-append, map-id}
use Rattle.std.proofs.lemmas.List.FromFn.{length-range_with_len}
use mathlib.Core.Option.{some, some-injective, some-ne-none}
use mathlib.Core.Logic.{dite}
use Rattle.std.proofs.lemmas.Option.{none-some}
use native.Mathlib.Decide.{ℕ_discrete}
use lib.ListN.{get_elem?, length-map, length-replicate}
use Rattle.atomic_table.specs.Table.{opening, Final, Seen}
use Rattle.atomic_table.proofs.Lists.{at_map}
use Rattle.cp_logic.specs.declared.named.Named.{Named}
use Rattle.cp_logic.specs.Formulas.{Formula}
use Rattle.cp_logic.specs.Journals.{Post, posts_of, folded}
use Rattle.cp_logic.proofs.JournalRuns.{journal-formula}
use Rattle.cp_logic.proofs.Members.{none_in}
use Rattle.cp_book.specs.Views.{BookView}
use Rattle.cp_occ.specs.Cells.{CellView, variables_of, lists_of}
use Rattle.cp_occ.specs.Changes.{AreCellsOf}
use Rattle.cp_yard.specs.declared.item.Item.{Item}
use Rattle.cp_yard.specs.declared.item.Item.TheVariants.{OfVariable, OfTurn}
use Rattle.cp_yard.specs.Views.{Base, Share, SeatView, base_of, founder, all_shares, held_of, shares_of, times, once_below}
use Rattle.cp_yard.specs.Rule.{IsCellOf, IsBookOf, IsLegal, Knows, Stands, Account, IsAlone, clauses_at}
use Rattle.cp_yard.proofs.Lists.{in_front, term-le-sum_by, two_terms-le-sum_by, times_in, once_le, in_range}
use Rattle.cp_yard.proofs.Frame.{St, mine_among, shares_alive}

-- ---- cells in their order

abbrev first_or : {X : Type 0} → X → List X → X
first_or d [] = d
first_or d (x ∷ xs) = x

abbrev later : {X : Type 0} → List X → List X
later [] = []
later (x ∷ xs) = xs

-- what stands at a place of a list that follows the numbers from a on
at_place : {X : Type 0} (g : CellView → X) (h : ℕ → X) (cells : List CellView) (a n k : ℕ) (c : CellView) → map g cells ≡ map h (range_with_len a n) → get_elem? cells k ≡ some c → g c ≡ h (a + k)
at_place g h [] a n k c e at = absurd (some-ne-none c (sym at))
at_place g h (x ∷ xs) a zero k c e at = absurd (no_cons (g x) (map g xs) e)
  where
    no_cons : {X : Type 0} (y : X) (ys : List X) → y ∷ ys ≡ [] → ⊥
    no_cons y ys q = cc
at_place g h (x ∷ xs) a (suc n) zero c e at = ap g (sym (some-injective x c at)) ∙ (ap (first_or (g x)) e ∙ ap h (let q : a ≡ a + 0 = omega arith in q))
at_place g h (x ∷ xs) a (suc n) (suc k) c e at = at_place g h xs (a + 1) n k c (ap later e) at ∙ ap h (let q : a + 1 + k ≡ a + suc k = omega arith in q)

-- the cells are those of the variables 1 to n after the posts
pub record AreAfter (f : Base) (h : List Post) (n : ℕ) (cells : List CellView) : Type 0 where
  pub variables : variables_of cells ≡ range_with_len 1 n
  pub lists : lists_of cells ≡ map (clauses_at f h) (range_with_len 1 n)

pub AreAfter-at : (f : Base) (h : List Post) (n : ℕ) (cells : List CellView) → AreAfter f h n cells → (k : ℕ) (c : CellView) → get_elem? cells k ≡ some c → IsCellOf (k + 1) (clauses_at f h (k + 1)) c
AreAfter-at f h n cells all k c at = let e : 1 + k ≡ k + 1 = omega arith in
    (at_place (λ d. d.variable) (λ z. z) cells 1 n k c (all.variables ∙ sym (map-id (range_with_len 1 n))) at ∙ e, at_place (λ d. d.clauses) (clauses_at f h) cells 1 n k c all.lists at ∙ ap (clauses_at f h) e)

range-snoc : (a n : ℕ) → range_with_len a (n + 1) ≡ range_with_len a n ++ (a + n) ∷ []
range-snoc a zero = ap (λ (k : ℕ). k ∷ []) (let q : a ≡ a + 0 = omega arith in q)
range-snoc a (suc n) = ap (range_with_len a) (let q : suc n + 1 ≡ suc (n + 1) = omega arith in q) ∙ ap (λ zs. a ∷ zs) (range-snoc (a + 1) n ∙ ap (λ (k : ℕ). range_with_len (a + 1) n ++ k ∷ []) (let q : a + 1 + n ≡ a + suc n = omega arith in q))

-- one cell more
pub AreAfter-push : (f : Base) (h : List Post) (n : ℕ) (cells : List CellView) (c : CellView) → AreAfter f h n cells → IsCellOf (n + 1) (clauses_at f h (n + 1)) c → AreAfter f h (n + 1) (cells ++ c ∷ [])
AreAfter-push f h n cells c all is = let q : n + 1 ≡ 1 + n = omega arith in record {
  variables = map-append (λ (d : CellView). d.variable) cells (c ∷ []) ∙ ((λ i. all.variables i ++ (is.0 ∙ q) i ∷ []) ∙ sym (range-snoc 1 n));
  lists = map-append (λ (d : CellView). d.clauses) cells (c ∷ []) ∙ ((λ i. all.lists i ++ (is.1 ∙ ap (clauses_at f h) q) i ∷ []) ∙ (sym (map-append (clauses_at f h) (range_with_len 1 n) ((1 + n) ∷ [])) ∙ ap (map (clauses_at f h)) (sym (range-snoc 1 n))));
}

-- a journal keeps the number of variables
pub variables-kept : (f : Base) (h : List Post) → IsLegal f h → (folded f.formula h).formula.variables ≡ f.formula.variables
variables-kept f h legal = (journal-formula f.formula f.rules h legal.0 legal.1).1

pub AreAfter-from : (f : Base) (h : List Post) (cells : List CellView) → IsLegal f h → AreCellsOf (folded f.formula h).formula cells → AreAfter f h f.formula.variables cells
AreAfter-from f h cells legal all = let v = variables-kept f h legal in
    record { variables = all.variables ∙ ap (range_with_len 1) v; lists = all.lists ∙ ap (λ (n : ℕ). map (clauses_at f h) (range_with_len 1 n)) v }

pub AreAfter-to : (f : Base) (h : List Post) (cells : List CellView) → IsLegal f h → AreAfter f h f.formula.variables cells → AreCellsOf (folded f.formula h).formula cells
AreAfter-to f h cells legal all = let v = sym (variables-kept f h legal) in
    record { variables = all.variables ∙ ap (range_with_len 1) v; lists = all.lists ∙ ap (λ (n : ℕ). map (clauses_at f h) (range_with_len 1 n)) v }

-- ---- the first state

get_zeros : (n x : ℕ) → let z : ℕ = 0 in get_or (replicate n z) x z ≡ z
get_zeros zero x = refl
get_zeros (suc n) zero = refl
get_zeros (suc n) (suc x) = get_zeros n x

there : {A : Type 0} (l : List A) (i : ℕ) → i < length l → (a : A) × (get_elem? l i ≡ some a)
there [] i h = absurd (omega arith)
there (x ∷ xs) zero h = (x, refl)
there (x ∷ xs) (suc i) h = there xs i (omega arith)

pub opens : (b : BookView) (cells : List CellView) (n : ℕ) → IsLegal (base_of b) b.posts → All (λ p. p.worker ≡ 0) b.posts → AreAfter (base_of b) b.posts n cells
    → Stands (base_of b) (opening (replicate (length cells + 1) 0) (OfTurn b ∷ map (λ c. OfVariable c) cells) (founder b))
opens b cells m legal zeroth all = let f : Base = base_of b in let items : List Item = OfTurn b ∷ map (λ c. OfVariable c) cells in let n : ℕ = length cells in
    let deep : length (map (λ (x : Item). some x) items) ≡ n + 1 = length-map items (λ (x : Item). some x) ∙ (let a = length-map cells (λ (c : CellView). OfVariable c) in omega arith) in record {
      posts = b.posts;
      notes = λ _. [];
      wide = length-replicate (n + 1) 0 ∙ sym deep;
      some_word = omega arith;
      few = omega arith;
      legal = legal;
      workers = λ k d l. let a : (get_or b.posts k d).worker ≡ 0 = zeroth k d l in omega arith;
      seats = λ i v at lives. only i v at;
      numbers = λ w. grind arith;
      true_notes = λ w m a. absurd (none_in m a);
      unused = λ _ _. refl;
      turn = inl (get_zeros (n + 1) 0, (b, refl, (refl, refl, refl)));
      locks = λ x pos small. inl (get_zeros (n + 1) x, cell x pos (omega arith));
    }
  where
    only : (i : ℕ) (v : SeatView) → get_elem? (founder b ∷ []) i ≡ some v → Knows (base_of b) b.posts (λ _. []) (replicate (length cells + 1) 0) (map (λ (x : Item). some x) (OfTurn b ∷ map (λ c. OfVariable c) cells)) 1 i v
    only zero v at = subst (λ (z : SeatView). Knows (base_of b) b.posts (λ _. []) (replicate (length cells + 1) 0) (map (λ (x : Item). some x) (OfTurn b ∷ map (λ c. OfVariable c) cells)) 1 0 z) (some-injective (founder b) v at) record {
      base = refl;
      number = refl;
      own = refl;
      made = λ _. refl;
      shares = λ k a. ⊎_elim (λ (e : k ≡ (founder b).own). subst (λ (z : Share). (z.posts ≡ posts_of b.posts z.number) × (z.notes ≡ [])) (sym e) (refl, refl)) (λ c. absurd (none_in k c)) (in_front k (founder b).own [] a);
      turn = λ j e. absurd (none-some j e);
      held = λ x l e. absurd (none-some l e);
    }
    only (suc i) v at = absurd (some-ne-none v (sym at))

    cell : (x : ℕ) → 0 < x → x < length cells + 1 → (c : CellView) × (get_elem? (map (λ (y : Item). some y) (OfTurn b ∷ map (λ c. OfVariable c) cells)) x ≡ some (some (OfVariable c))) × IsCellOf x (clauses_at (base_of b) b.posts x) c
    cell zero pos small = absurd (omega arith)
    cell (suc k) pos small = let c = there cells k (omega arith) in let is = AreAfter-at (base_of b) b.posts m cells all k c.0 c.1 in let a = at_map (λ (y : CellView). OfVariable y) cells k c.0 c.1 in
        let e : k + 1 ≡ suc k = omega arith in
        (c.0, at_map (λ (y : Item). some y) (map (λ (y : CellView). OfVariable y) cells) k (OfVariable c.0) a, (is.0 ∙ e, is.1 ∙ ap (clauses_at (base_of b) b.posts) e))

module _ (f : Base) where
  -- with all numbers in one seat no other lives
  sole : (s : St) (r : Stands f s) (id : ℕ) (v : SeatView) → get_elem? s.views id ≡ some v → v.lives ≡ true → IsAlone v → (i : ℕ) (w : SeatView) → get_elem? s.views i ≡ some w → w.lives ≡ true → w ≡ v
  sole s r id v at lives alone i w there_w lives_w = let ok = r.seats id v at lives in let id_is : id ≡ 0 = sym ok.number ∙ alone.0 in dite (ℕ_discrete i id)
      (λ e. some-injective w v (sym there_w ∙ (ap (get_elem? s.views) e ∙ at)))
      (λ ne. let okw = r.seats i w there_w lives_w in let made = ok.made id_is in let inside = in_range s.views i w there_w in
      let a : 0 < times i (shares_of v) = subst (λ (ks : List Share). 0 < times i ks) (sym (shares_alive v lives)) (alone.3 i (omega arith)) in
      let b : 0 < times i (shares_of w) = times_in i w.own (shares_of w) (mine_among w lives_w) okw.own in
      let c = two_terms-le-sum_by (λ (z : SeatView). times i (shares_of z)) s.views i id w v ne there_w at in
      let d = r.numbers i in let g = once_le i (length s.views) in absurd (omega arith))

  pub closes : (id : ℕ) (v : SeatView) (ws : List ℕ) (xs : List Item) → v.lives ≡ true → IsAlone v → Final (Seen (Stands f) id v) ws xs
      → (h : List Post) × ((b : BookView) × (get_elem? xs 0 ≡ some (OfTurn b)) × IsBookOf f h b) × ((x : ℕ) → 0 < x → x < length xs → (c : CellView) × (get_elem? xs x ≡ some (OfVariable c)) × IsCellOf x (clauses_at f h x) c) × Account f h (all_shares v) v.made
  closes id v ws xs lives alone fin = let s = fin.0 in let r = fin.1.0 in let at = fin.1.1 in let deep = fin.3 in let ok = r.seats id v at lives in let id_is : id ≡ 0 = sym ok.number ∙ alone.0 in
      let made : v.made ≡ length s.views = ok.made id_is in (
        r.posts,
        (let home : (b : BookView) × (get_elem? s.homes 0 ≡ some (some (OfTurn b))) × IsBookOf f r.posts b = ⊎_elim (λ t. t.1) (λ t. let o = t.3 in absurd (no_turn r.posts (ap (λ (z : SeatView). z.turn) (sym (sole s r id v at lives alone t.0 t.1 o.there o.lives)) ∙ o.turn))) r.turn in
            (home.0, fin.4 0 (OfTurn home.0) home.1, home.2)),
        (λ x pos small. let at_home : (c : CellView) × (get_elem? s.homes x ≡ some (some (OfVariable c))) × IsCellOf x (clauses_at f r.posts x) c = ⊎_elim (λ t. t.1)
            (λ t. let o = t.4 in absurd (no_lock x t.2 (ap (λ (z : SeatView). held_of x z.held) (sym (sole s r id v at lives alone t.0 t.1 o.there o.lives)) ∙ o.held))) (r.locks x pos (omega arith)) in (at_home.0, fin.4 x (OfVariable at_home.0) at_home.1, at_home.2)),
        record {
          notes = r.notes;
          legal = r.legal;
          workers = subst (λ (c : ℕ). All (λ p. p.worker < c) r.posts) (sym made) r.workers;
          each_share = λ k a. ok.shares k (subst (λ (zs : List Share). Contains zs k) (sym (shares_alive v lives)) a);
          numbers = λ w. let a = term-le-sum_by (λ (z : SeatView). times w (shares_of z)) s.views id v at in let b = r.numbers w in let g = once_le w (length s.views) in
              let e : times w (shares_of v) ≡ times w (all_shares v) = ap (times w) (shares_alive v lives) in let low : w < v.made → 0 < times w (all_shares v) = alone.3 w in full w (all_shares v) v.made low (let q : once_below w v.made ≡ once_below w (length s.views) = ap (once_below w) made in omega arith);
          true_notes = r.true_notes;
          unused = λ w far. r.unused w (omega arith);
        },
      )
    where
      no_turn : (h : List Post) → v.turn ≡ Some h → ⊥
      no_turn h e = let q : None ≡ Some h = sym alone.2 ∙ e in cc

      no_lock : (x : ℕ) (l : List Named) → held_of x v.held ≡ Some l → ⊥
      no_lock x l e = let q : None ≡ Some l = sym (ap (held_of x) alone.1) ∙ e in cc

      full : (w : ℕ) (ks : List Share) (n : ℕ) → (w < n → 0 < times w ks) → times w ks ≤ once_below w n → times w ks ≡ once_below w n
      full w ks n low high = grind arith

pub AreCellsOf-length : (f : Formula) (cells : List CellView) → AreCellsOf f cells → length cells ≡ f.variables
AreCellsOf-length f cells all = sym (length-map cells (λ (c : CellView). c.variable)) ∙ (ap length all.variables ∙ length-range_with_len 1 f.variables)
