-- Each step of a seat keeps the rule, and what the rule says of the last seat.
use Rattle.std.proofs.Common.{◌≡◌, ◌≢◌, ℕ, ◌+◌, ◌%◌, ◌^◌, ◌<◌, ◌≤◌, min, Bool, true, false, List, [], ◌∷◌, ◌++◌, length, get_or, set, sym, refl, ap, ◌∙◌, subst, ⊎_elim, arith, length-set, length-append, mod-eq_of_lt, if◌then◌else◌, true≢false, get_or-set_same}
use Rattle.std.specs.Prelude.{All, sum_by, is_some, ◌==◌}
use Rattle.std.proofs.lemmas.List.Elements.{All-nil, All-cons, All-tail, All-append}
use Rattle.std.proofs.lemmas.List.Sums.{sum_by-cons, sum_by-append, sum_by_push, sum_by-le-sum_by, count_by-le-length}
use mathlib.Core.Option.{some, none, some-injective, some-ne-none}
use mathlib.Core.Logic.{dite}
use Rattle.std.proofs.lemmas.Option.{none-some, same_Some}
use native.Mathlib.Decide.{dec_le}
use lib.ListN.{get_elem?}
use Rattle.atomic_table.specs.Table.{State, Me, step, keeps, stepped, Allows, Splits, Joins, Final, Seen}
use Rattle.atomic_table.proofs.Lists.{set_else}
use Rattle.cp_claim.specs.Views.{View, Share, all_shares, times, times_named, ends, once_below, HasRead, IsAlone, spent, parent, child, joined, with_number, with_end, Draws}
use Rattle.cp_claim.specs.Rule.{shares_of, drawn_of, IsSeatAt, GivesEachOnce}
use Rattle.cp_claim.proofs.Lists.{sum_by-set_at, term-le-sum_by, two_terms-le-sum_by, sum_by-of_one, in_range, at_end, each_of_set}
use Rattle.cp_claim.proofs.Views.{shares_of-living, drawn_of-living, times-own, once_below-le, once_below-suc, below-counted}

abbrev Table : Type 0
Table = State (Unit {0}) View

-- the word of a table
abbrev word_of : Table → ℕ
word_of s = get_or s.words 0 0

-- what was read below a word was read below a greater one
read_before : (n m m' : ℕ) (ks : List Share) → m ≤ m' → All (HasRead n m) ks → All (HasRead n m') ks
read_before n m m' ks le all = λ k d h e q. let a = all k d h e q in let low = a.0 in let high = a.1 in (low, omega arith)

-- the seat `id` has drawn a number or ended, and the word is one more
module _ (n : ℕ) (s : Table) (r : GivesEachOnce n s) (id : ℕ) (v : View) (w : View) (at : get_elem? s.views id ≡ some v) where
  -- what a draw leaves as it is
  record Stays : Type 0 where
    was : v.lives ≡ true
    is : w.lives ≡ true
    limit : w.limit ≡ v.limit
    number : w.mine.number ≡ v.mine.number
    made : w.made ≡ v.made
    named : (k : ℕ) → times_named k (shares_of w) ≡ times_named k (shares_of v)
    long : length (shares_of w) ≡ length (shares_of v)

  drawn_one : Stays → ((x : ℕ) → times x (drawn_of w) + once_below x (min n (word_of s)) ≡ times x (drawn_of v) + once_below x (min n (word_of s + 1)))
      → All (HasRead n (word_of s + 1)) (shares_of w) → min n (word_of s + 1) + ends (shares_of w) ≡ min n (word_of s) + ends (shares_of v) + 1
      → GivesEachOnce n record { words = set s.words 0 (word_of s + 1); homes = s.homes; views = set s.views id w }
  drawn_one stays drawn read ended = let ok = r.seats id v at stays.was in let word : ℕ = word_of s + 1 in let wide = r.one_word in
      let count : length s.views ≡ length (set s.views id w) = sym (length-set s.views id w) in
      let now : word ≡ get_or (set s.words 0 word) 0 0 = sym (get_or-set_same s.words 0 word 0 (omega arith)) in record {
        one_word = length-set s.words 0 word ∙ r.one_word;
        small = r.small;
        few = (let a = r.few in omega arith);
        seats = λ j d at_j lives_j. subst (λ (c : ℕ). IsSeatAt n c j d) count (each_of_set (λ i y. y.lives ≡ true → IsSeatAt n (length s.views) i y) s.views id w
            (λ _. record { limit = stays.limit ∙ ok.limit; number = stays.number ∙ ok.number; made = λ z. stays.made ∙ ok.made z })
            (λ i y ne at_i lives_i. r.seats i y at_i lives_i) j d at_j lives_j);
        numbers = λ k. let a = sum_by-set_at (λ (z : View). times_named k (shares_of z)) s.views id v w at in let b = r.numbers k in let c = stays.named k in
            let g : sum_by (λ (z : View). times_named k (shares_of z)) (set s.views id w) ≡ once_below k (length s.views) = omega arith in g ∙ ap (once_below k) count;
        counted = let a = sum_by-set_at (λ (z : View). length (shares_of z)) s.views id v w at in let b = r.counted in let c = stays.long in
            (let g : sum_by (λ (z : View). length (shares_of z)) (set s.views id w) ≡ length s.views = omega arith in g ∙ count);
        drawn = λ x. let a = sum_by-set_at (λ (z : View). times x (drawn_of z)) s.views id v w at in let b = r.drawn x in let c = drawn x in
            let g : sum_by (λ (z : View). times x (drawn_of z)) (set s.views id w) ≡ once_below x (min n word) = omega arith in g ∙ ap (λ (z : ℕ). once_below x (min n z)) now;
        ended = λ j d at_j. subst (λ (z : ℕ). All (HasRead n z) (shares_of d)) now (each_of_set (λ i y. All (HasRead n word) (shares_of y)) s.views id w read
            (λ i y ne at_i. read_before n (word_of s) word (shares_of y) (omega arith) (r.ended i y at_i)) j d at_j);
        steps = let a = sum_by-set_at (λ (z : View). ends (shares_of z)) s.views id v w at in let b = r.steps in let c = ended in
            subst (λ (z : ℕ). z ≡ min n z + sum_by (λ (y : View). ends (shares_of y)) (set s.views id w)) now
            (let g : word ≡ min n word + sum_by (λ (y : View). ends (shares_of y)) (set s.views id w) = omega arith in g);
      }

module _ (n : ℕ) where
  draws_number : (s : Table) (r : GivesEachOnce n s) (id : ℕ) (v : View) → get_elem? s.views id ≡ some v → v.lives ≡ true → word_of s < n
      → GivesEachOnce n record { words = set s.words 0 (word_of s + 1); homes = s.homes; views = set s.views id (with_number (word_of s) v) }
  draws_number s r id v at lives low = let x₀ : ℕ = word_of s in let w : View = with_number x₀ v in
      let next : min n (x₀ + 1) ≡ x₀ + 1 = omega arith in let here : min n x₀ ≡ x₀ = omega arith in
      drawn_one n s r id v w at record { was = lives; is = lives; limit = refl; number = refl; made = refl; named = λ k. refl; long = refl }
      (λ x. let more : once_below x (min n (x₀ + 1)) ≡ once_below x (x₀ + 1) = ap (once_below x) next in let same : once_below x (min n x₀) ≡ once_below x x₀ = ap (once_below x) here in
      let one = once_below-suc x x₀ in let after : times x (drawn_of w) ≡ times x (v.drawn ++ x₀ ∷ []) = ap (times x) (drawn_of-living w lives) in
      let before : times x (drawn_of v) ≡ times x v.drawn = ap (times x) (drawn_of-living v lives) in
      let pushed : times x (v.drawn ++ x₀ ∷ []) ≡ times x v.drawn + (if x₀ == x then 1 else 0) = sum_by_push (λ (y : ℕ). if y == x then 1 else 0) v.drawn x₀ in omega arith)
      (read_before n x₀ (x₀ + 1) (shares_of v) (omega arith) (r.ended id v at))
      (let same : ends (shares_of w) ≡ ends (shares_of v) = refl in omega arith)

  draws_end : (s : Table) (r : GivesEachOnce n s) (id : ℕ) (v : View) → get_elem? s.views id ≡ some v → v.lives ≡ true → is_some v.mine.end ≡ false → n ≤ word_of s
      → GivesEachOnce n record { words = set s.words 0 (word_of s + 1); homes = s.homes; views = set s.views id (with_end (word_of s) v) }
  draws_end s r id v at lives fresh high = let x₀ : ℕ = word_of s in let w : View = with_end x₀ v in let was = shares_of-living v lives in let is = shares_of-living w lives in
      let flat : min n (x₀ + 1) ≡ min n x₀ = omega arith in
      drawn_one n s r id v w at record { was = lives; is = lives; limit = refl; number = refl; made = refl; named = λ k. ap (times_named k) is ∙ sym (ap (times_named k) was); long = ap length is ∙ sym (ap length was) }
      (λ x. let same : once_below x (min n (x₀ + 1)) ≡ once_below x (min n x₀) = ap (once_below x) flat in omega arith)
      (subst (All (HasRead n (x₀ + 1))) (sym is) (All-cons (HasRead n (x₀ + 1)) w.mine v.others
      (λ e q. let same : x₀ ≡ e = same_Some x₀ e q in (omega arith, omega arith))
      (All-tail (HasRead n (x₀ + 1)) v.mine v.others (read_before n x₀ (x₀ + 1) (all_shares v) (omega arith) (subst (All (HasRead n x₀)) was (r.ended id v at))))))
      (let f : Share → ℕ = λ k. if is_some k.end then 1 else 0 in let after : ends (shares_of w) ≡ 1 + ends v.others = ap ends is ∙ sum_by-cons f w.mine v.others in
      let none_yet : f v.mine ≡ 0 = ap (λ (b : Bool). if b then 1 else 0) fresh in let before : ends (shares_of v) ≡ f v.mine + ends v.others = ap ends was ∙ sum_by-cons f v.mine v.others in omega arith)

  -- what a seat drew lies below the word, since each number in a living view does
  drawn_below : (s : Table) (r : GivesEachOnce n s) (id : ℕ) (v : View) → get_elem? s.views id ≡ some v → v.lives ≡ true → word_of s < n → All (λ y. y < word_of s) v.drawn
  drawn_below s r id v at lives low = let here : min n (word_of s) ≡ word_of s = omega arith in below-counted (word_of s) v.drawn (λ x.
      let mine : times x (drawn_of v) ≡ times x v.drawn = ap (times x) (drawn_of-living v lives) in let one = term-le-sum_by (λ (z : View). times x (drawn_of z)) s.views id v at in
      let all = r.drawn x in let bound : once_below x (min n (word_of s)) ≡ once_below x (word_of s) = ap (once_below x) here in omega arith)

  pub draws : (slots id : ℕ) (me : Me (Unit {0}) View) → me.0.lives ≡ true → is_some me.0.mine.end ≡ false → Allows (GivesEachOnce n) slots id me 0 (λ x. (x + 1) % 2 ^ 64) (Draws (step slots 0 1 0 none) me)
  draws slots id me lives fresh s r _ at _ = let v : View = me.0 in let ok = r.seats id v at lives in let x₀ : ℕ = word_of s in let limit = ok.limit in
      let ends_few : sum_by (λ (z : View). ends (shares_of z)) s.views ≤ sum_by (λ (z : View). length (shares_of z)) s.views = sum_by-le-sum_by (λ (z : View). ends (shares_of z)) (λ (z : View). length (shares_of z)) s.views (λ z. count_by-le-length (λ (k : Share). is_some k.end) (shares_of z)) in
      let all = r.counted in let few = r.few in let small = r.small in let steps = r.steps in
      let fits : x₀ + 1 < 18446744073709551616 = omega arith in let same : (x₀ + 1) % 18446744073709551616 ≡ x₀ + 1 = mod-eq_of_lt fits in dite (dec_le n x₀)
      (λ (high : n ≤ x₀). let w : View = with_end x₀ v in (
        w,
        keeps,
        tt,
        subst (λ (z : ℕ). GivesEachOnce n (stepped s 0 z id me.1 w keeps)) (sym same) (draws_end s r id v at lives fresh high),
        (refl, (λ low. absurd (omega arith)), λ _. refl),
      ))
      (λ under. let low : x₀ < n = omega arith in let w : View = with_number x₀ v in (
        w,
        keeps,
        tt,
        subst (λ (z : ℕ). GivesEachOnce n (stepped s 0 z id me.1 w keeps)) (sym same) (draws_number s r id v at lives low),
        (refl, (λ _. (refl, drawn_below s r id v at lives low)), λ high. absurd (omega arith)),
      ))

  pub splits : (id : ℕ) (v : View) → v.lives ≡ true → v.mine.number ≡ 0 → v.made < 4294967295 → Splits (GivesEachOnce n) id v (parent v) (child v)
  splits id v lives zeroth room s r at = let ok = r.seats id v at lives in let id_is : id ≡ 0 = sym ok.number ∙ zeroth in let c₀ : ℕ = length s.views in let made : v.made ≡ c₀ = ok.made id_is in
      let left : View = parent v in let right : View = child v in let vs : List View = set s.views id left in let views' : List View = vs ++ right ∷ [] in
      let wide : length vs ≡ c₀ = length-set s.views id left in let count : c₀ + 1 ≡ length views' = (let a = length-append vs (right ∷ []) in omega arith) in
      let far : c₀ ≢ 0 = (let a = in_range s.views id v at in λ e. omega arith) in record {
        one_word = r.one_word;
        small = r.small;
        few = omega arith;
        seats = λ j d there lives_j. subst (λ (c : ℕ). IsSeatAt n c j d) count (⊎_elim
            (λ (old : get_elem? vs j ≡ some d). each_of_set (λ i y. y.lives ≡ true → IsSeatAt n (c₀ + 1) i y) s.views id left
            (λ _. record { limit = ok.limit; number = ok.number; made = λ _. ap (λ (z : ℕ). z + 1) made })
            (λ i y ne at_i lives_i. let o = r.seats i y at_i lives_i in record { limit = o.limit; number = o.number; made = λ e. absurd (ne (e ∙ sym id_is)) }) j d old lives_j)
            (λ (new : (j ≡ length vs) × (right ≡ d)). let j_is : j ≡ c₀ = new.0 ∙ wide in subst (λ (y : View). IsSeatAt n (c₀ + 1) j y) new.1
            record { limit = ok.limit; number = made ∙ sym j_is; made = λ e. absurd (far (sym j_is ∙ e)) })
            (at_end vs right d j there));
        numbers = λ k. let F : View → ℕ = λ z. times_named k (shares_of z) in let a = sum_by_push F vs right in let b = sum_by-set_at F s.views id v left at in let c = r.numbers k in let d = once_below-suc k c₀ in
            let e : F left ≡ F v = refl in let g : F right ≡ 0 + (if c₀ == k then 1 else 0) = ap (λ (z : ℕ). 0 + (if z == k then 1 else 0)) made in
            let t : sum_by F views' ≡ once_below k (c₀ + 1) = omega arith in t ∙ ap (once_below k) count;
        counted = let F : View → ℕ = λ z. length (shares_of z) in let a = sum_by_push F vs right in let b = sum_by-set_at F s.views id v left at in let c = r.counted in let e : F left ≡ F v = refl in let g : F right ≡ 1 = refl in
            (let t : sum_by F views' ≡ c₀ + 1 = omega arith in t ∙ count);
        drawn = λ x. let F : View → ℕ = λ z. times x (drawn_of z) in let a = sum_by_push F vs right in let b = sum_by-set_at F s.views id v left at in let c = r.drawn x in let e : F left ≡ F v = refl in let g : F right ≡ 0 = refl in omega arith;
        ended = λ j d there. ⊎_elim
            (λ (old : get_elem? vs j ≡ some d). each_of_set (λ i y. All (HasRead n (word_of s)) (shares_of y)) s.views id left (r.ended id v at) (λ i y ne at_i. r.ended i y at_i) j d old)
            (λ (new : (j ≡ length vs) × (right ≡ d)). subst (λ (y : View). All (HasRead n (word_of s)) (shares_of y)) new.1
            (All-cons (HasRead n (word_of s)) right.mine [] (λ e q. absurd (none-some e q)) (All-nil (HasRead n (word_of s)))))
            (at_end vs right d j there);
        steps = let F : View → ℕ = λ z. ends (shares_of z) in let a = sum_by_push F vs right in let b = sum_by-set_at F s.views id v left at in let c = r.steps in let e : F left ≡ F v = refl in let g : F right ≡ 0 = refl in omega arith;
      }

  pub joins : (id : ℕ) (v : View) (other : ℕ) (w : View) → v.lives ≡ true → w.lives ≡ true → Joins (GivesEachOnce n) id v other w (joined v w) spent
  joins id v other w lives lives' s r at apart there = let both : View = joined v w in let ok = r.seats id v at lives in let c₀ : ℕ = length s.views in let vs : List View = set s.views id both in let views' : List View = set vs other spent in
      let there' : get_elem? s.views other ≡ some w = sym (set_else s.views id other both apart) ∙ there in
      let count : c₀ ≡ length views' = sym (length-set vs other spent ∙ length-set s.views id both) in
      let is : shares_of both ≡ all_shares v ++ all_shares w = shares_of-living both lives in let one = shares_of-living v lives in let two = shares_of-living w lives' in record {
        one_word = r.one_word;
        small = r.small;
        few = (let a = r.few in omega arith);
        seats = λ j d at_j lives_j. subst (λ (c : ℕ). IsSeatAt n c j d) count (each_of_set (λ i y. y.lives ≡ true → IsSeatAt n c₀ i y) vs other spent (λ e. absurd (true≢false (sym e)))
            (λ i y ne at_i. each_of_set (λ i' y'. y'.lives ≡ true → IsSeatAt n c₀ i' y') s.views id both (λ _. record { limit = ok.limit; number = ok.number; made = ok.made })
            (λ i' y' ne' at' lives''. r.seats i' y' at' lives'') i y at_i) j d at_j lives_j);
        numbers = λ k. let F : View → ℕ = λ z. times_named k (shares_of z) in let a = sum_by-set_at F vs other w spent there in let b = sum_by-set_at F s.views id v both at in let c = r.numbers k in
            let d : F both ≡ F v + F w = ap (times_named k) is ∙ (sum_by-append (λ (z : Share). if z.number == k then 1 else 0) (all_shares v) (all_shares w) ∙ (λ i. times_named k (sym one i) + times_named k (sym two i))) in
            let e : F spent ≡ 0 = refl in let t : sum_by F views' ≡ once_below k c₀ = omega arith in t ∙ ap (once_below k) count;
        counted = let F : View → ℕ = λ z. length (shares_of z) in let a = sum_by-set_at F vs other w spent there in let b = sum_by-set_at F s.views id v both at in let c = r.counted in
            let d : F both ≡ F v + F w = ap length is ∙ (length-append (all_shares v) (all_shares w) ∙ (λ i. length (sym one i) + length (sym two i))) in
            let e : F spent ≡ 0 = refl in (let t : sum_by F views' ≡ c₀ = omega arith in t ∙ count);
        drawn = λ x. let F : View → ℕ = λ z. times x (drawn_of z) in let a = sum_by-set_at F vs other w spent there in let b = sum_by-set_at F s.views id v both at in let c = r.drawn x in
            let d : F both ≡ F v + F w = ap (times x) (drawn_of-living both lives) ∙ (sum_by-append (λ (z : ℕ). if z == x then 1 else 0) v.drawn w.drawn ∙ (λ i. times x (sym (drawn_of-living v lives) i) + times x (sym (drawn_of-living w lives') i))) in
            let e : F spent ≡ 0 = refl in omega arith;
        ended = λ j d at_j. each_of_set (λ i y. All (HasRead n (word_of s)) (shares_of y)) vs other spent (All-nil (HasRead n (word_of s)))
            (λ i y ne at_i. each_of_set (λ i' y'. All (HasRead n (word_of s)) (shares_of y')) s.views id both
            (subst (All (HasRead n (word_of s))) (sym is) (All-append (HasRead n (word_of s)) (all_shares v) (all_shares w)
            (subst (All (HasRead n (word_of s))) one (r.ended id v at)) (subst (All (HasRead n (word_of s))) two (r.ended other w there'))))
            (λ i' y' ne' at'. r.ended i' y' at') i y at_i) j d at_j;
        steps = let F : View → ℕ = λ z. ends (shares_of z) in let a = sum_by-set_at F vs other w spent there in let b = sum_by-set_at F s.views id v both at in let c = r.steps in
            let d : F both ≡ F v + F w = ap ends is ∙ (sum_by-append (λ (z : Share). if is_some z.end then 1 else 0) (all_shares v) (all_shares w) ∙ (λ i. ends (sym one i) + ends (sym two i))) in
            let e : F spent ≡ 0 = refl in omega arith;
      }

  -- what the only seat knows of the word
  pub record Closes (v : View) (word : ℕ) : Type 0 where
    pub drawn : (x : ℕ) → times x v.drawn ≡ once_below x (min n word)
    pub ended : 0 < ends (all_shares v) → n ≤ word
    pub read : All (HasRead n word) (all_shares v)
    pub steps : word ≡ min n word + ends (all_shares v)

  -- the views of other seats show nothing, since the only seat has their numbers
  others_are_spent : (s : Table) (r : GivesEachOnce n s) (id : ℕ) (v : View) → get_elem? s.views id ≡ some v → v.lives ≡ true → IsAlone v → (j : ℕ) (w : View) → j ≢ id → get_elem? s.views j ≡ some w → w.lives ≡ false
  others_are_spent s r id v at lives alone j w ne at_j = by_case w.lives refl
    where
      made : v.made ≡ length s.views
      made = let ok = r.seats id v at lives in ok.made (sym ok.number ∙ alone.0)

      dead : w.lives ≡ true → ⊥
      dead lives_j = let inside = in_range s.views j w at_j in let o = r.seats j w at_j lives_j in let many = made in
          let a : 0 < times_named j (shares_of v) = subst (λ (ks : List Share). 0 < times_named j ks) (sym (shares_of-living v lives)) (alone.1 j (omega arith)) in
          let b : 0 < times_named j (shares_of w) = subst (λ (ks : List Share). 0 < times_named j ks) (sym (shares_of-living w lives_j)) (times-own j w.mine w.others o.number) in
          let c = two_terms-le-sum_by (λ (z : View). times_named j (shares_of z)) s.views j id w v ne at_j at in let d = r.numbers j in let g = once_below-le j (length s.views) in omega arith

      by_case : (b : Bool) → w.lives ≡ b → w.lives ≡ false
      by_case true e = absurd (dead e)
      by_case false e = e

  closes_at : (s : Table) (r : GivesEachOnce n s) (id : ℕ) (v : View) → get_elem? s.views id ≡ some v → v.lives ≡ true → IsAlone v → Closes v (word_of s)
  closes_at s r id v at lives alone = let others = others_are_spent s r id v at lives alone in let shares = shares_of-living v lives in
      let steps : word_of s ≡ min n (word_of s) + ends (all_shares v) = r.steps ∙ ap (λ (z : ℕ). min n (word_of s) + z) (sum_by-of_one (λ (z : View). ends (shares_of z)) s.views id v at
      (λ j w ne at_j. ap (λ (b : Bool). ends (if b then all_shares w else [])) (others j w ne at_j)) ∙ ap ends shares) in record {
        drawn = λ x. sym (ap (times x) (drawn_of-living v lives)) ∙ (sym (sum_by-of_one (λ (z : View). times x (drawn_of z)) s.views id v at
            (λ j w ne at_j. ap (λ (b : Bool). times x (if b then w.drawn else [])) (others j w ne at_j))) ∙ r.drawn x);
        ended = λ some_ended. omega arith;
        read = subst (All (HasRead n (word_of s))) shares (r.ended id v at);
        steps = steps;
      }

  pub closes : (id : ℕ) (v : View) (ws : List ℕ) (xs : List (Unit {0})) → v.lives ≡ true → IsAlone v → Final (Seen (GivesEachOnce n) id v) ws xs → Closes v (get_or ws 0 0)
  closes id v ws xs lives alone fin = subst (λ (z : List ℕ). Closes v (get_or z 0 0)) fin.2 (closes_at fin.0 fin.1.0 id v fin.1.1 lives alone)

pub first_is : (l : List ℕ) (a : ℕ) → get_elem? l 0 ≡ some a → get_or l 0 0 ≡ a
first_is [] a e = absurd (some-ne-none a (sym e))
first_is (x ∷ xs) a e = some-injective x a e
