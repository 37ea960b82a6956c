-- How what the seats and shifts are after some rounds goes on over one more, and what it comes to at the end.
use Rattle.std.proofs.Common.{◌≡◌, ◌≢◌, ℕ, suc, ◌+◌, ◌*◌, ◌-◌, ◌<◌, ◌≤◌, ◌⊎◌, List, [], ◌∷◌, ◌++◌, length, get_or, slice_get, Some, All, AllPairs, Contains, refl, sym, ap, subst, ◌∙◌, inl, inr, ⊎_elim, arith, append-nil, append_assoc, length-append, eq-eqb, ne_eqb, eqb-true, suc-mul, zero-mul, mul-le-mul_right}
use Rattle.std.specs.Prelude.{◌==◌}
use Rattle.std.specs.List.{enumerate_from}
use Rattle.std.proofs.lemmas.Bool.{cases_lt, cases_eq}
use Rattle.std.proofs.lemmas.List.Elements.{All-append, All-weaker, All-contains, filter-append}
use Rattle.std.proofs.lemmas.List.Kept.{AllPairs-filter}
use Rattle.std.proofs.lemmas.Option.{none-some, same_Some, slice_get_within}
use Rattle.cp_logic.proofs.Eliminations.{filter-filter}
use Rattle.cp_logic.specs.Journals.{Post, posts_of}
use Rattle.cp_logic.proofs.Members.{of_map, of_filter, in_filter}
use Rattle.cp_yard.specs.Views.{Base, Note, Share}
use Rattle.cp_yard.specs.Sitting.{Sitting, YardView}
use Rattle.cp_worker.specs.declared.lists.WorkerShift.{WorkerShift}
use Rattle.cp_worker.specs.Visits.{positions, IsPostOf}
use Rattle.cp_worker.specs.Shifts.{IsShift}
use Rattle.cp_phase.specs.Rounds.{of_round, shift_at, times_taken, once_in, NoneStopped, OneStopped, all_notes, IsShiftIn, EndsAt, AreShifts}
use Rattle.cp_phase.specs.Teams.{AreSeats, AreNew, IsRound, in_round, AreDone, ArePlayed}
use Rattle.cp_phase.proofs.Lists.{at_front, at_back, some_at, row_front, row_back, row_past, filter-none, filter-all, AllPairs-append, before, ascending, in_enumerated}

-- the notes of one more round
all_more : (noted : List (List Note)) (ns : List Note) → all_notes (noted ++ ns ∷ []) ≡ all_notes noted ++ ns
all_more [] ns = append-nil ns
all_more (ms ∷ noted) ns = ap (λ (l : List Note). ms ++ l) (all_more noted ns) ∙ sym (append_assoc ms (all_notes noted) ns)

-- a shift in an earlier round is one where another round follows
in_earlier : (f : Base) (workers limit number r : ℕ) (noted : List (List Note)) (ns : List Note) (posts same : List (ℕ × Post)) (s : WorkerShift) → same ≡ posts
    → IsShiftIn f workers limit number r noted posts s → IsShiftIn f workers limit number r (noted ++ ns ∷ []) same s
in_earlier f workers limit number r noted ns posts same s p a = record {
  notes = a.notes;
  there = at_front noted (ns ∷ []) r (slice_get_within noted r a.notes a.there) ∙ a.there;
  drawn = a.drawn;
  before = a.before;
  first = a.first;
  shift = subst (λ (ps : List (ℕ × Post)). IsShift f number (r + 1) workers limit a.before a.notes ps a.drawn s) (sym p) a.shift;
}

-- where there was no round nothing was posted
none-posted : (b : ℕ) (posts : List (ℕ × Post)) → All (λ q. (1 ≤ q.1.round) × (q.1.round ≤ b)) posts → b ≡ 0 → length posts ≡ 0
none-posted b [] range e = refl
none-posted b (q ∷ posts) range e = let r = range 0 q (omega arith) in absurd (omega (arith, r.0, r.1, e))

-- ---- rows

row_ends : (n r b : ℕ) → r < b → r * n + n ≤ b * n
row_ends n r b less = let a : suc r * n ≤ b * n = mul-le-mul_right n (omega arith) in let e = suc-mul r n in omega arith

module _ (n b : ℕ) (shifts ss : List WorkerShift) (long : length shifts ≡ b * n) (few : length ss ≡ n) where
  all_long : length (shifts ++ ss) ≡ b * n + n
  all_long = let a = length-append shifts ss in omega arith

  front_row : (r : ℕ) → r < b → of_round n r (shifts ++ ss) ≡ of_round n r shifts
  front_row r less = row_front (r * n) n shifts ss (let a = row_ends n r b less in omega arith)

  last_row : (r : ℕ) → r ≡ b → of_round n r (shifts ++ ss) ≡ ss
  last_row r e = row_back (r * n) n shifts ss (ap (λ (k : ℕ). k * n) e ∙ sym long) (omega arith)

  past_row : (r : ℕ) → b < r → of_round n r (shifts ++ ss) ≡ []
  past_row r less = row_past (r * n) n (shifts ++ ss) (let a = row_ends n b r less in let l = all_long in omega arith)

  -- where the shift of a round is one of these
  placed : (i r : ℕ) (s : WorkerShift) → i < n → shift_at n r i (shifts ++ ss) ≡ Some s → ((r < b) × (shift_at n r i shifts ≡ Some s)) ⊎ ((r ≡ b) × (slice_get ss i ≡ Some s))
  placed i r s low at = ⊎_elim
      (λ (less : r < b). inl (less, sym (at_front shifts ss (r * n + i) (let a = row_ends n r b less in omega arith)) ∙ at))
      (λ (ge : b ≤ r). ⊎_elim
      (λ (e : r ≡ b). let m : r * n ≡ b * n = ap (λ (k : ℕ). k * n) e in inr (e, sym (at_back shifts ss i (r * n + i) (omega arith)) ∙ at))
      (λ (ne : r ≢ b). let less : b < r = omega arith in absurd (let a = row_ends n b r less in let l = all_long in let w = slice_get_within (shifts ++ ss) (r * n + i) s at in omega arith))
      (cases_eq r b))
      (cases_lt r b)

  -- ---- one worker

  done_next : (f : Base) (limit i : ℕ) (notes noted now : List Note) (old posted new : List (ℕ × Post)) (drawn : List ℕ) (s : WorkerShift) → i < n → slice_get ss i ≡ Some s
      → AreDone f limit n i b shifts notes old → now ≡ notes ++ noted → new ≡ old ++ posted → IsShift f (i + 1) (b + 1) n limit (length old) noted posted drawn s
      → AreDone f limit n i (b + 1) (shifts ++ ss) now new
  done_next f limit i notes noted now old posted new drawn s low at d g e shift = record {
    range = subst (All (λ q. (1 ≤ q.1.round) × (q.1.round ≤ b + 1))) (sym e)
        (All-append (λ (q : ℕ × Post). (1 ≤ q.1.round) × (q.1.round ≤ b + 1)) old posted
        (All-weaker (λ (q : ℕ × Post). (1 ≤ q.1.round) × (q.1.round ≤ b)) (λ (q : ℕ × Post). (1 ≤ q.1.round) × (q.1.round ≤ b + 1)) (λ q t. (t.0, let u = t.1 in omega arith)) old d.range)
        (λ k x less. let u = (each k x less).1 in (omega arith, omega arith)));
    rising = subst (AllPairs (λ p q. p.1.round ≤ q.1.round)) (sym e)
        (AllPairs-append (λ (p q : ℕ × Post). p.1.round ≤ q.1.round) old posted d.rising
        (λ j k x less inside. let u = (each j x (omega arith)).1 in let w = (each k x inside).1 in omega arith)
        (λ x m. λ k y less. let u = (All-contains (λ (q : ℕ × Post). (1 ≤ q.1.round) × (q.1.round ≤ b)) old x d.range m).1 in let w = (each k y less).1 in omega arith));
    noted = d.noted ++ noted ∷ [];
    rounds = (let n = d.rounds in let long = length-append d.noted (noted ∷ []) in omega arith);
    all = g ∙ (ap (λ (ns : List Note). ns ++ noted) d.all ∙ sym (all_more d.noted noted));
    each = λ r t at_t. ⊎_elim
        (λ k. in_earlier f n limit (i + 1) r d.noted noted (in_round (r + 1) old) (in_round (r + 1) new) t (earlier r k.0) (d.each r t k.1))
        (λ k. subst (λ (z : ℕ × WorkerShift). IsShiftIn f n limit (i + 1) z.0 (d.noted ++ noted ∷ []) (in_round (z.0 + 1) new) z.1) (λ j. (sym k.0 j, sym (is t k.1) j)) here)
        (placed i r t low at_t);
  }
    where
      each : All (IsPostOf (i + 1) (b + 1)) posted
      each = shift.posts

      is : (t : WorkerShift) → slice_get ss i ≡ Some t → t ≡ s
      is t at_t = same_Some t s (sym at_t ∙ at)

      cut : (r : ℕ) → in_round (r + 1) new ≡ in_round (r + 1) old ++ in_round (r + 1) posted
      cut r = ap (in_round (r + 1)) e ∙ filter-append (λ (q : ℕ × Post). q.1.round == r + 1) old posted

      earlier : (r : ℕ) → r < b → in_round (r + 1) new ≡ in_round (r + 1) old
      earlier r less = cut r ∙ (ap (λ l. in_round (r + 1) old ++ l) (filter-none (λ (q : ℕ × Post). q.1.round == r + 1) posted
          (λ k x inside. let u = (each k x inside).1 in ne_eqb (get_or posted k x).1.round (r + 1) (λ f. omega arith))) ∙ append-nil (in_round (r + 1) old))

      latest : in_round (b + 1) new ≡ posted
      latest = cut b ∙ ((λ j. first j ++ in_round (b + 1) posted) ∙ filter-all (λ (q : ℕ × Post). q.1.round == b + 1) posted (λ k x inside. eq-eqb (get_or posted k x).1.round (b + 1) (each k x inside).1))
        where
          first : in_round (b + 1) old ≡ []
          first = filter-none (λ (q : ℕ × Post). q.1.round == b + 1) old (λ k x inside. let u = (d.range k x inside).1 in ne_eqb (get_or old k x).1.round (b + 1) (λ f. omega arith))

      here : IsShiftIn f n limit (i + 1) b (d.noted ++ noted ∷ []) (in_round (b + 1) new) s
      here = record {
        notes = noted;
        there = at_back d.noted (noted ∷ []) 0 b (let n = d.rounds in omega arith);
        drawn = drawn;
        before = length old;
        first = λ e. none-posted b old d.range e;
        shift = subst (λ (ps : List (ℕ × Post)). IsShift f (i + 1) (b + 1) n limit (length old) noted ps drawn s) (sym latest) shift;
      }

  going_on : ((q : ℕ) → q < b → NoneStopped (of_round n q shifts)) → NoneStopped ss → (q : ℕ) → q < b + 1 → NoneStopped (of_round n q (shifts ++ ss))
  going_on going none q less = ⊎_elim
      (λ (low : q < b). subst NoneStopped (sym (front_row q low)) (going q low))
      (λ (ge : b ≤ q). subst NoneStopped (sym (last_row q (let e : q ≡ b = omega arith in e))) none)
      (cases_lt q b)

  still_going : ((q : ℕ) → q < b → NoneStopped (of_round n q shifts)) → (q : ℕ) → q < b → NoneStopped (of_round n q (shifts ++ ss))
  still_going going q low = subst NoneStopped (sym (front_row q low)) (going q low)

-- ---- the rounds

pub played_start : (y : YardView) (limit n : ℕ) (seats : List Sitting) → length seats ≡ n → AreSeats y seats → AreNew seats → ArePlayed y limit n 0 seats []
played_start y limit n seats team are new = record {
  team = team;
  are_seats = are;
  count = sym (zero-mul n);
  each = λ i v at. let e = new i v at in let l : length v.view.own.posts ≡ 0 = ap length e.posts in record {
    range = λ k x low. absurd (omega arith);
    rising = λ j k x less low. absurd (omega arith);
    noted = [];
    rounds = refl;
    all = e.notes;
    each = λ r s at_s. absurd (none-some s at_s);
  };
  taken_once = λ r x. subst (λ (l : List WorkerShift). times_taken x l ≤ once_in x y.base.formula.variables) (sym (row_past (r * n) n [] (omega arith))) (omega arith);
  taken_all = λ r x low. absurd (omega arith);
  in_order = λ one r s at. absurd (none-some s at);
}

module _ (y : YardView) (limit n b : ℕ) (seats news : List Sitting) (shifts ss : List WorkerShift) (p : ArePlayed y limit n b seats shifts) (o : IsRound y n limit (b + 1) seats news ss) where
  few : length ss ≡ n
  few = o.count ∙ p.team

  pub played_next : ArePlayed y limit n (b + 1) news (shifts ++ ss)
  played_next = record {
    team = o.team ∙ p.team;
    are_seats = o.seats;
    count = (let a = all_long n b shifts ss p.count few in let e = suc-mul b n in let f : b + 1 ≡ suc b = omega arith in let g : (b + 1) * n ≡ suc b * n = ap (λ (k : ℕ). k * n) f in omega arith);
    each = λ i w at_w.
        let low = slice_get_within news i w at_w in let t = o.team in let u = p.team in let m = few in
        let v = some_at seats i (omega arith) in let s = some_at ss i (omega arith) in
        let k = o.work i v.0 w s.0 v.1 at_w s.1 in let is = p.are_seats i v.0 v.1 in
        done_next n b shifts ss p.count few y.base limit i v.0.view.own.notes k.noted w.view.own.notes v.0.view.own.posts k.posted w.view.own.posts k.drawn s.0 (omega arith) s.1
        (p.each i v.0 v.1) k.goes.notes k.goes.posts
        (subst (λ (z : Base × ℕ). IsShift z.0 z.1 (b + 1) n limit (length v.0.view.own.posts) k.noted k.posted k.drawn s.0) (λ j. (is.base j, is.number j)) k.shift);
    taken_once = λ r x. ⊎_elim
        (λ (less : r < b). subst (λ (l : List WorkerShift). times_taken x l ≤ once_in x y.base.formula.variables) (sym (front_row n b shifts ss p.count few r less)) (p.taken_once r x))
        (λ (ge : b ≤ r). ⊎_elim
        (λ (e : r ≡ b). subst (λ (l : List WorkerShift). times_taken x l ≤ once_in x y.base.formula.variables) (sym (last_row n b shifts ss p.count few r e)) (o.taken_once x))
        (λ (ne : r ≢ b). subst (λ (l : List WorkerShift). times_taken x l ≤ once_in x y.base.formula.variables) (sym (past_row n b shifts ss p.count few r (omega arith))) (omega arith))
        (cases_eq r b))
        (cases_lt r b);
    taken_all = λ r x low none one most. ⊎_elim
        (λ (less : r < b). let row = front_row n b shifts ss p.count few r less in ap (times_taken x) row ∙ p.taken_all r x less (subst NoneStopped row none) one most)
        (λ (ge : b ≤ r). let row = last_row n b shifts ss p.count few r (let e : r ≡ b = omega arith in e) in ap (times_taken x) row ∙ o.taken_all x (subst NoneStopped row none) one most)
        (cases_lt r b);
    in_order = λ one r s at. ⊎_elim
        (λ k. p.in_order one r s (sym (ap (λ (m : ℕ). shift_at m r 0 shifts) one) ∙ k.1))
        (λ k. o.in_order one (p.team ∙ one) s k.1)
        (placed n b shifts ss p.count few 0 r s (omega arith) (ap (λ (m : ℕ). shift_at m r 0 (shifts ++ ss)) one ∙ at));
  }

  pub going_next : ((q : ℕ) → q < b → NoneStopped (of_round n q shifts)) → NoneStopped ss → (q : ℕ) → q < b + 1 → NoneStopped (of_round n q (shifts ++ ss))
  going_next going none = going_on n b shifts ss p.count few going none

  pub ends_here : (rounds : ℕ) → b < rounds → ((q : ℕ) → q < b → NoneStopped (of_round n q shifts)) → OneStopped ss → EndsAt n rounds (b + 1) (shifts ++ ss)
  ends_here rounds less going one = record {
    few = omega arith;
    earlier = λ r low. still_going n b shifts ss p.count few going r (omega arith);
    last = inr (b, refl, subst OneStopped (sym (last_row n b shifts ss p.count few b refl)) one);
  }

pub ends_after : (n rounds b : ℕ) (shifts : List WorkerShift) → b ≡ rounds → ((q : ℕ) → q < b → NoneStopped (of_round n q shifts)) → EndsAt n rounds b shifts
ends_after n rounds b shifts e going = record { few = omega arith; earlier = λ r low. going r (omega arith); last = inl e }

-- ---- the end

pub shifts_are : (y : YardView) (limit n rounds b : ℕ) (seats : List Sitting) (shifts : List WorkerShift) (h : List Post) (shares : List Share)
    → ArePlayed y limit n b seats shifts → EndsAt n rounds b shifts
    → ((i : ℕ) (v : Sitting) → slice_get seats i ≡ Some v → (v.view.own.posts ≡ posts_of h (i + 1)) × Contains shares v.view.own) → All (λ p. p.worker < n + 1) h
    → AreShifts y.base n rounds limit h shares shifts
shifts_are y limit n rounds b seats shifts h shares p ends own workers = record {
  begun = b;
  count = p.count;
  each = λ w low.
      let v = some_at seats w (let t = p.team in omega arith) in let d = p.each w v.0 v.1 in record {
        share = v.0.view.own;
        there = (own w v.0 v.1).1;
        whose = (p.are_seats w v.0 v.1).own;
        noted = d.noted;
        rounds = d.rounds;
        notes = d.all;
        each = λ r s at. subst (λ (ps : List (ℕ × Post)). IsShiftIn y.base n limit (w + 1) r d.noted ps s)
            (ap (in_round (r + 1)) (own w v.0 v.1).0 ∙ filter-filter (λ (q : ℕ × Post). q.1.round == r + 1) (λ (q : ℕ × Post). q.1.worker == w + 1) (enumerate_from 0 h))
            (d.each r s at);
      };
  ends = ends;
  taken_once = p.taken_once;
  taken_all = p.taken_all;
  in_order = p.in_order;
  rising = λ r q w s t less low at_s at_t i j mi mj.
      let v = some_at seats w (let t = p.team in omega arith) in let d = p.each w v.0 v.1 in let posts = v.0.view.own.posts in
      let S : ℕ × Post → ℕ × Post → Type 0 = λ a c. a.0 < c.0 in
      let up : AllPairs S posts = subst (AllPairs S) (sym (own w v.0 v.1).0) (AllPairs-filter S (λ (z : ℕ × Post). z.1.worker == w + 1) (enumerate_from 0 h) (ascending 0 h)) in
      let a = listed r s posts i (d.each r s at_s).shift.commits mi in let c = listed q t posts j (d.each q t at_t).shift.commits mj in
      let e = a.2 in let f = c.2 in let k = a.3 in let l = c.3 in
      let g = before (λ (a c : ℕ × Post). a.1.round ≤ c.1.round) S posts d.rising up a.0 c.0 a.1 c.1 (λ same. let z = ap (λ (x : ℕ × Post). x.1.round) same in omega arith) (λ late. omega arith) in
      omega arith;
  within = λ k x low ne.
      let post = get_or h k x in let most = workers k x low in
      let i = post.worker - 1 in let same : post.worker ≡ i + 1 = omega arith in
      let v = some_at seats i (let t = p.team in omega arith) in let d = p.each i v.0 v.1 in
      let m = in_filter (λ (z : ℕ × Post). z.1.worker == i + 1) (enumerate_from 0 h) (0 + k, post) (in_enumerated 0 h k x low) (eq-eqb post.worker (i + 1) same) in
      let g = All-contains (λ (z : ℕ × Post). (1 ≤ z.1.round) × (z.1.round ≤ b)) v.0.view.own.posts (0 + k, post) d.range (subst (λ l. Contains l (0 + k, post)) (sym (own i v.0 v.1).0) m) in
      (omega arith, g.0, g.1);
}
  where
    -- the post that a shift lists
    listed : (r : ℕ) (s : WorkerShift) (posts : List (ℕ × Post)) (i : ℕ) → s.commits.items ≡ positions (in_round (r + 1) posts) → Contains s.commits.items i → (q : ℕ × Post) × Contains posts q × (q.0 ≡ i) × (q.1.round ≡ r + 1)
    listed r s posts i e m =
        let a = of_map (λ (q : ℕ × Post). q.0) (in_round (r + 1) posts) i (subst (λ l. Contains l i) e m) in
        let f = of_filter (λ (q : ℕ × Post). q.1.round == r + 1) posts a.0 a.1 in (a.0, f.0, a.2, eqb-true a.0.1.round (r + 1) f.1)
