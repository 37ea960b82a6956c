-- What the members of a round drew and did.
use Rattle.std.proofs.Common.{◌≡◌, ◌≢◌, ℕ, zero, suc, ◌+◌, ◌<◌, ◌≤◌, ◌/◌, ⊎_elim, min, Bool, Option, List, [], ◌∷◌, ◌++◌, length, append-nil, map, get_or, take, drop, flat_map, slice_get, option_map, is_some, Some, None, All, AllPairs, count_by, refl, sym, ap, subst, ◌∙◌, arith}
use Rattle.std.specs.Prelude.{◌==◌, if◌then◌else◌}
use Rattle.std.specs.List.{AllZip, range_with_len}
use Rattle.std.specs.Prelude.{Result, Ok, Err, IfOk}
use Rattle.std.specs.Result.{result_ok}
use Rattle.std.specs.Option.{ForSome}
use Rattle.cp_logic.specs.Journals.{Post}
use Rattle.cp_yard.specs.Views.{Base, Note, SeatView}
use Rattle.cp_hood.specs.Seats.{GoesOn}
use Rattle.cp_worker.specs.Shifts.{IsShift}
use Rattle.std.proofs.lemmas.Option.{slice_get-map}
use Rattle.std.proofs.lemmas.List.Elements.{All-cons, All-head, All-tail}
use Rattle.std.proofs.lemmas.List.FromFn.{length-range_with_len}
use Rattle.std.proofs.lemmas.Bool.{cases_lt}
use Rattle.std.proofs.lemmas.List.Sums.{sum_by-cons, sum_by-append}
use mathlib.Core.Logic.{dite}
use Rattle.std.proofs.lemmas.Option.{none-some, same_Some}
use native.Mathlib.Decide.{ℕ_discrete}
use Rattle.cp_yard.specs.Sitting.{Sitting, YardView}
use Rattle.cp_claim.specs.Views.{View, Counter, Share, share, all_shares, times, times_named, ends, once_below, IsAlone, DrawsOnly}
use Rattle.cp_claim.proofs.Views.{times-own}
use Rattle.cp_worker.specs.declared.lists.WorkerShift.{WorkerShift}
use Rattle.cp_worker.specs.Candidates.{transposed, candidate_of, number_of, candidates_of}
use Rattle.cp_worker.proofs.Permuted.{candidate-eqb, number-within, number-past}
use Rattle.cp_phase.specs.declared.team.Member.{Member}
use Rattle.cp_phase.specs.Rounds.{times_taken, once_in, NoneStopped, IsInOrder}
use Rattle.cp_phase.specs.Teams.{IsSeatOf, AreSeats, founder_of, claim_of, members_from, claims_joined, IsReady, IsWork, IsTaken, HasWorked, IsRound}
use Rattle.cp_phase.proofs.Lists.{written_over, zip_from, first_numbers}
use Rattle.cp_phase.proofs.Joins.{IsOut, all_out, drawn_of_all, claim_shares, claims_joined-is}

-- the member as the round began
abbrev member_of : Counter → ℕ → Sitting → Member
member_of c n s = record { seat = s; claim = claim_of c n; shift = None }

abbrev pub seats_of : List Member → List Sitting
seats_of ms = map (λ m. m.seat) ms

abbrev pub shifts_of : List Member → List (Option WorkerShift)
shifts_of ms = map (λ m. m.shift) ms

pub members_ready : (y : YardView) (c : Counter) (k : ℕ) (seats : List Sitting) → All (IsOut y) seats → All (IsReady y c) (members_from c k seats)
members_ready y c k [] each = λ i d low. absurd (omega arith)
members_ready y c k (s ∷ ss) each = let one = each 0 s (omega arith) in
    All-cons (IsReady y c) (member_of c k s) (members_from c (k + 1) ss) (record { table = one.table; base = one.base; counter = refl; idle = one.idle }) (members_ready y c (k + 1) ss (λ i d low. each (suc i) d (omega arith)))

pub length-members : (c : Counter) (k : ℕ) (seats : List Sitting) → length (members_from c k seats) ≡ length seats
length-members c k [] = refl
length-members c k (s ∷ ss) = ap suc (length-members c (k + 1) ss)

-- ---- a shift

for_some : {E : Type 0} (r : Result WorkerShift E) (o : Option WorkerShift) (P Q : WorkerShift → Type 0) → o ≡ result_ok r → IfOk r P → ((s : WorkerShift) → P s → Q s) → ForSome o Q
for_some (Ok s) o P Q e h to = λ v at. subst Q (same_Some s v (sym e ∙ at)) (to s h)
for_some (Err x) o P Q e h to = λ v at. absurd (none-some v (sym e ∙ at))

-- what the shift of a member says of its seat and its claim seat
pub worked : {E : Type 0} (workers limit in_round : ℕ) (v w : SeatView) (c d : View) (r : Result WorkerShift E) (o : Option WorkerShift) → o ≡ result_ok r
    → IfOk r (λ s. (noted : List Note) × (posted : List (ℕ × Post)) × (drawn : List ℕ) × GoesOn v w noted posted × (d.drawn ≡ c.drawn ++ drawn) × IsShift v.base v.number in_round workers limit (length v.own.posts) noted posted drawn s)
    → ForSome o (IsWork workers limit in_round v w)
worked workers limit in_round v w c d r o e h = for_some r o _ (IsWork workers limit in_round v w) e h (λ s k. record { noted = k.0; posted = k.1; drawn = k.2; goes = k.3; shift = k.5 })

pub taken : {E : Type 0} (workers limit in_round : ℕ) (v w : SeatView) (c d : View) (r : Result WorkerShift E) (o : Option WorkerShift) → o ≡ result_ok r
    → IfOk r (λ s. (noted : List Note) × (posted : List (ℕ × Post)) × (drawn : List ℕ) × GoesOn v w noted posted × (d.drawn ≡ c.drawn ++ drawn) × IsShift v.base v.number in_round workers limit (length v.own.posts) noted posted drawn s)
    → IfOk r (λ s. s.stopped ≡ None → (word : ℕ) × (d.mine.end ≡ Some word)) → ForSome o (IsTaken workers v.base.formula.variables c d)
taken workers limit in_round v w c d (Ok s) o e k l = λ t at. subst (IsTaken workers v.base.formula.variables c d) (same_Some s t (sym e ∙ at)) (record { drawn = k.2; claims = k.4; taken = k.5.taken; ended = l })
taken workers limit in_round v w c d (Err x) o e k l = λ t at. absurd (none-some t (sym e ∙ at))

same_seat : (v w : View) → DrawsOnly v w → w.mine.number ≡ v.mine.number
same_seat v w e = ap (λ (z : View). z.mine.number) e

module _ (c : Counter) (workers limit r : ℕ) where
  pub counters : (k : ℕ) (seats : List Sitting) (ms : List Member) → 0 < k → AllZip (HasWorked workers limit r) (members_from c k seats) ms → All (λ m. (m.claim.counter ≡ c) × (m.claim.view.mine.number ≢ 0)) ms
  counters k [] [] low h = λ i d less. absurd (omega arith)
  counters k [] (m ∷ ms) low h = absurd h
  counters k (s ∷ ss) [] low h = absurd h
  counters k (s ∷ ss) (m ∷ ms) low h =
      All-cons (λ (m : Member). (m.claim.counter ≡ c) × (m.claim.view.mine.number ≢ 0)) m ms
      (h.0.counter, (λ e. let n : m.claim.view.mine.number ≡ k = same_seat (claim_of c k).view m.claim.view h.0.claim in omega arith))
      (counters (k + 1) ss ms (omega arith) h.1)

  -- each claim seat's number is among those of the members
  pub numbered : (k : ℕ) (seats : List Sitting) (ms : List Member) → AllZip (HasWorked workers limit r) (members_from c k seats) ms → (w : ℕ) → k ≤ w → w < k + length seats → 0 < times_named w (claim_shares ms)
  numbered k [] [] h w low high = absurd (omega arith)
  numbered k [] (m ∷ ms) h w low high = absurd h
  numbered k (s ∷ ss) [] h w low high = absurd h
  numbered k (s ∷ ss) (m ∷ ms) h w low high =
      let F : Share → ℕ = λ z. if z.number == w then 1 else 0 in
      let both : times_named w (claim_shares (m ∷ ms)) ≡ times_named w (all_shares m.claim.view) + times_named w (claim_shares ms) = sum_by-append F (all_shares m.claim.view) (claim_shares ms) in
      dite (ℕ_discrete k w)
      (λ e. let own : 0 < times_named w (all_shares m.claim.view) = times-own w m.claim.view.mine m.claim.view.others (same_seat (claim_of c k).view m.claim.view h.0.claim ∙ e) in omega arith)
      (λ ne. let later = numbered (k + 1) ss ms h.1 w (omega arith) (omega arith) in omega arith)

  -- the numbers drawn are those of the candidates taken
  pub taken_are : (y : YardView) → (k : ℕ) (seats : List Sitting) (ms : List Member) (ss : List WorkerShift) → AllZip (HasWorked workers limit r) (members_from c k seats) ms → shifts_of ms ≡ map Some ss
      → All (IsOut y) seats → flat_map (λ s. s.taken.items) ss ≡ candidates_of workers y.base.formula.variables (drawn_of_all ms)
  taken_are y k [] [] [] h e out = refl
  taken_are y k [] [] (s ∷ ss) h e out = absurd (let n = ap length e in omega arith)
  taken_are y k [] (m ∷ ms) ss h e out = absurd h
  taken_are y k (v ∷ vs) [] ss h e out = absurd h
  taken_are y k (v ∷ vs) (m ∷ ms) [] h e out = absurd (let n = ap length e in omega arith)
  taken_are y k (v ∷ vs) (m ∷ ms) (s ∷ ss) h e out =
      let t = h.0.taken s (same_Some m.shift (Some s) (ap (λ (l : List (Option WorkerShift)). slice_get l 0) e)) in
      let variables = y.base.formula.variables in
      let one : s.taken.items ≡ candidates_of workers variables m.claim.view.drawn = t.taken
      ∙ ap (λ (f : Base). candidates_of workers f.formula.variables t.drawn) (All-head (IsOut y) v vs out).base ∙ ap (candidates_of workers variables) (sym t.claims) in
      let rest = taken_are y (k + 1) vs ms ss h.1 (ap tail_of e) (All-tail (IsOut y) v vs out) in
      (λ i. one i ++ rest i) ∙ sym (map-append variables m.claim.view.drawn (drawn_of_all ms))
    where
      tail_of : {A : Type 0} → List A → List A
      tail_of [] = []
      tail_of (x ∷ xs) = xs

      map-append : (variables : ℕ) (xs ys : List ℕ) → candidates_of workers variables (xs ++ ys) ≡ candidates_of workers variables xs ++ candidates_of workers variables ys
      map-append variables [] ys = refl
      map-append variables (x ∷ xs) ys = ap (λ zs. candidate_of workers variables x ∷ zs) (map-append variables xs ys)

  -- where the first shift didn't stop, its claim seat has ended
  pub some_ended : (k : ℕ) (seats : List Sitting) (ms : List Member) (ss : List WorkerShift) → 0 < length seats → AllZip (HasWorked workers limit r) (members_from c k seats) ms → shifts_of ms ≡ map Some ss
      → NoneStopped ss → 0 < ends (claim_shares ms)
  some_ended k [] ms ss low h e none = absurd (omega arith)
  some_ended k (v ∷ vs) [] ss low h e none = absurd h
  some_ended k (v ∷ vs) (m ∷ ms) [] low h e none = absurd (let n = ap length e in omega arith)
  some_ended k (v ∷ vs) (m ∷ ms) (s ∷ ss) low h e none =
      let t = h.0.taken s (same_Some m.shift (Some s) (ap (λ (l : List (Option WorkerShift)). slice_get l 0) e)) in
      let end = t.ended (none 0 s (omega arith)) in
      let F : Share → ℕ = λ z. if is_some z.end then 1 else 0 in
      let one : F m.claim.view.mine ≡ 1 = ap (λ (o : Option ℕ). if is_some o then 1 else 0) end.1 in
      let sum : ends (claim_shares (m ∷ ms)) ≡ F m.claim.view.mine + ends (m.claim.view.others ++ claim_shares ms) = sum_by-cons F m.claim.view.mine (m.claim.view.others ++ claim_shares ms) in
      omega arith

  -- which seat and which member stand at a place
  pub found_at : (k : ℕ) (seats : List Sitting) (ms : List Member) (i : ℕ) (w : Sitting) → AllZip (HasWorked workers limit r) (members_from c k seats) ms → slice_get (seats_of ms) i ≡ Some w
      → (v : Sitting) × (m : Member) × (n : ℕ) × (slice_get seats i ≡ Some v) × (slice_get ms i ≡ Some m) × HasWorked workers limit r (member_of c n v) m × (m.seat ≡ w)
  found_at k [] [] i w h at = absurd (none-some w at)
  found_at k [] (m ∷ ms) i w h at = absurd h
  found_at k (v ∷ vs) [] i w h at = absurd h
  found_at k (v ∷ vs) (m ∷ ms) zero w h at = (v, m, k, refl, refl, h.0, same_Some m.seat w at)
  found_at k (v ∷ vs) (m ∷ ms) (suc i) w h at = found_at (k + 1) vs ms i w h.1 at

  pub seats_after : (y : YardView) (seats : List Sitting) (ms : List Member) → AreSeats y seats → AllZip (HasWorked workers limit r) (members_from c 1 seats) ms → AreSeats y (seats_of ms)
  seats_after y seats ms are h i w at = let f = found_at 1 seats ms i w h at in let old = are i f.0 f.3 in let go = f.5.seat.2 in subst (IsSeatOf y i) f.6 record {
    table = f.5.table ∙ old.table;
    base = go.base ∙ old.base;
    number = go.number ∙ old.number;
    own = go.own ∙ old.own;
    others = go.others ∙ old.others;
    idle = f.5.idle;
  }

  pub work_at : (seats : List Sitting) (ms : List Member) (ss : List WorkerShift) → AllZip (HasWorked workers limit r) (members_from c 1 seats) ms → shifts_of ms ≡ map Some ss
      → (i : ℕ) (v w : Sitting) (s : WorkerShift) → slice_get seats i ≡ Some v → slice_get (seats_of ms) i ≡ Some w → slice_get ss i ≡ Some s → IsWork workers limit r v.view w.view s
  work_at seats ms ss h e i v w s at_v at_w at_s =
      let f = found_at 1 seats ms i w h at_w in
      let same : f.0 ≡ v = same_Some f.0 v (sym f.3 ∙ at_v) in
      let left : slice_get (shifts_of ms) i ≡ Some f.1.shift = slice_get-map (λ (m : Member). m.shift) ms i ∙ ap (option_map (λ (m : Member). m.shift)) f.4 in
      let right : slice_get (map Some ss) i ≡ Some (Some s) = slice_get-map Some ss i ∙ ap (option_map Some) at_s in
      let is : f.1.shift ≡ Some s = same_Some f.1.shift (Some s) (sym left ∙ (ap (λ (l : List (Option WorkerShift)). slice_get l i) e ∙ right)) in
      subst (λ (z : Sitting × Sitting). IsWork workers limit r z.0.view z.1.view s) (λ j. (same j, f.6 j)) (f.5.work s is)

  -- the members after their work, which was written over those from before
  pub zipped : (seats : List Sitting) (slice news stored : List Member) (k : ℕ) → slice ≡ stored → stored ≡ members_from c 1 seats → length stored ≡ k → length news ≡ length slice
      → ((i : ℕ) (d : Member) → i < length slice → HasWorked workers limit r (get_or slice i d) (get_or news i d)) → AllZip (HasWorked workers limit r) (members_from c 1 seats) (take k (news ++ drop (length news) stored))
  zipped seats slice news stored k e f long count each =
      let same : take k (news ++ drop (length news) stored) ≡ news = written_over k news stored (count ∙ ap length e) long in
      subst (λ (z : List Member × List Member). AllZip (HasWorked workers limit r) z.0 z.1) (λ i. ((e ∙ f) i, sym same i)) (zip_from (HasWorked workers limit r) slice news count each)

  pub members_long : (k : ℕ) (seats : List Sitting) (ms : List Member) → AllZip (HasWorked workers limit r) (members_from c k seats) ms → length ms ≡ length seats
  members_long k [] [] h = refl
  members_long k [] (m ∷ ms) h = absurd h
  members_long k (s ∷ ss) [] h = absurd h
  members_long k (s ∷ ss) (m ∷ ms) h = ap suc (members_long (k + 1) ss ms h.1)

  -- of one member the numbers drawn rise
  pub rising_one : (k : ℕ) (seats : List Sitting) (ms : List Member) → length seats ≡ 1 → AllZip (HasWorked workers limit r) (members_from c k seats) ms → AllPairs (λ a b. a < b) (drawn_of_all ms)
  rising_one k [] ms one h = absurd (omega arith)
  rising_one k (s ∷ []) [] one h = absurd h
  rising_one k (s ∷ []) (m ∷ []) one h = subst (AllPairs (λ a b. a < b)) (sym (append-nil m.claim.view.drawn)) (h.0.rising (λ i j d less low. absurd (omega arith)))
  rising_one k (s ∷ []) (m ∷ (n ∷ ms)) one h = absurd h.1
  rising_one k (s ∷ (t ∷ ss)) ms one h = absurd (omega arith)

-- ---- one worker

-- one column is as it stands
transposed-one : (rows n : ℕ) → transposed 1 rows n ≡ n
transposed-one rows n = grind arith

candidates-one : (variables a n : ℕ) → candidates_of 1 variables (range_with_len a n) ≡ range_with_len (a + 1) n
candidates-one variables a zero = refl
candidates-one variables a (suc n) = (λ i. (transposed-one (variables / 1) a i + 1) ∷ candidates-one variables (a + 1) n i)

-- the only shift
only : (ss : List WorkerShift) (s : WorkerShift) → length ss ≡ 1 → slice_get ss 0 ≡ Some s → flat_map (λ t. t.taken.items) ss ≡ s.taken.items
only [] s one at = absurd (omega arith)
only (t ∷ []) s one at = append-nil t.taken.items ∙ ap (λ (z : WorkerShift). z.taken.items) (same_Some t s at)
only (t ∷ (u ∷ ss)) s one at = absurd (omega arith)

in_order : (workers variables bound : ℕ) (ss : List WorkerShift) (drawn : List ℕ) → flat_map (λ s. s.taken.items) ss ≡ candidates_of workers variables drawn → ((x : ℕ) → times x drawn ≡ once_below x bound)
    → AllPairs (λ a b. a < b) drawn → workers ≡ 1 → length ss ≡ 1 → (s : WorkerShift) → slice_get ss 0 ≡ Some s → IsInOrder s
in_order workers variables bound ss drawn e d up w one s at =
    let is : s.taken.items ≡ range_with_len 1 (length drawn) = sym (only ss s one at) ∙ (e ∙ (ap (λ (k : ℕ). candidates_of k variables drawn) w
    ∙ (ap (candidates_of 1 variables) (first_numbers bound drawn up d) ∙ candidates-one variables 0 (length drawn)))) in
    is ∙ ap (range_with_len 1) (sym (ap length is ∙ length-range_with_len 1 (length drawn)))

-- ---- counts

abbrev at_zero : ℕ → ℕ
at_zero y = if y == 0 then 1 else 0

none_at_zero : (n : ℕ) → at_zero (n + 1) ≡ 0
none_at_zero n = grind arith

module _ (workers variables : ℕ) where
  pub count-candidates : (x : ℕ) (xs : List ℕ) → count_by (λ y. y == x + 1) (candidates_of workers variables xs) ≡ times (number_of workers variables x) xs
  count-candidates x [] = refl
  count-candidates x (z ∷ zs) =
      let k = number_of workers variables x in
      let F : ℕ → ℕ = λ y. if y == x + 1 then 1 else 0 in let G : ℕ → ℕ = λ y. if y == k then 1 else 0 in
      let a = sum_by-cons F (candidate_of workers variables z) (candidates_of workers variables zs) in let b = sum_by-cons G z zs in
      let e : F (candidate_of workers variables z) ≡ G z = ap (λ (t : Bool). if t then 1 else 0) (candidate-eqb workers variables z x) in
      let rest = count-candidates x zs in omega arith

  pub count-zero : (xs : List ℕ) → count_by (λ y. y == 0) (candidates_of workers variables xs) ≡ 0
  count-zero [] = refl
  count-zero (z ∷ zs) =
      let a = sum_by-cons at_zero (candidate_of workers variables z) (candidates_of workers variables zs) in
      let rest = count-zero zs in let e = none_at_zero (transposed workers (variables / workers) z) in omega arith

  -- how often a candidate was taken, where the numbers drawn are those below a bound
  module _ (ss : List WorkerShift) (drawn : List ℕ) (bound : ℕ) (e : flat_map (λ s. s.taken.items) ss ≡ candidates_of workers variables drawn) (d : (x : ℕ) → times x drawn ≡ once_below x bound) where
    taken_times : (x : ℕ) → times_taken (suc x) ss ≡ once_below (number_of workers variables x) bound
    taken_times x = let n : x + 1 ≡ suc x = omega arith in ap (λ (k : ℕ). times_taken k ss) (sym n)
        ∙ (ap (λ (l : List ℕ). count_by (λ y. y == x + 1) l) e ∙ (count-candidates x drawn ∙ d (number_of workers variables x)))

    pub taken_few : bound ≤ variables → (x : ℕ) → times_taken x ss ≤ once_in x variables
    taken_few few zero = let z : times_taken 0 ss ≡ 0 = ap (λ (l : List ℕ). count_by (λ y. y == 0) l) e ∙ count-zero drawn in omega arith
    taken_few few (suc x) = let b = taken_times x in let c = ⊎_elim
        (λ (low : x < variables). within x (number_of workers variables x) low)
        (λ (past : variables ≤ x). subst (λ k. once_below k bound ≤ once_in (suc x) variables) (sym (number-past workers variables x past)) (none x past))
        (cases_lt x variables) in omega arith
      where
        within : (x k : ℕ) → x < variables → once_below k bound ≤ once_in (suc x) variables
        within x k low = grind arith

        none : (x : ℕ) → variables ≤ x → once_below x bound ≤ once_in (suc x) variables
        none x past = grind arith

    pub taken_each : variables ≤ bound → (x : ℕ) → 1 ≤ x → x ≤ variables → times_taken x ss ≡ 1
    taken_each most zero low high = absurd (omega arith)
    taken_each most (suc x) low high = taken_times x ∙ (let k = number-within workers variables x (omega arith) in once (number_of workers variables x) (omega arith))
      where
        once : (k : ℕ) → k < bound → once_below k bound ≡ 1
        once k low = grind arith

-- ---- the round

-- the claim seat that took in those of all members has every number of the claims' seats
pub alone : (c : Counter) (workers limit r : ℕ) (seats : List Sitting) (ms : List Member) (v : View) → v ≡ claims_joined (founder_of c.limit (length seats + 1)) ms → AllZip (HasWorked workers limit r) (members_from c 1 seats) ms → IsAlone v
alone c workers limit r seats ms v e h =
    let is : v ≡ record (founder_of c.limit (length seats + 1)) { drawn = drawn_of_all ms; others = claim_shares ms } = e ∙ claims_joined-is (founder_of c.limit (length seats + 1)) ms in
    subst IsAlone (sym is) (refl, each)
  where
    each : (w : ℕ) → w < length seats + 1 → 0 < times_named w (share 0 ∷ claim_shares ms)
    each zero low = times-own 0 (share 0) (claim_shares ms) refl
    each (suc w) low =
        let a = numbered c workers limit r 1 seats ms h (suc w) (omega arith) (omega arith) in
        let F : Share → ℕ = λ z. if z.number == suc w then 1 else 0 in
        let b : times_named (suc w) (share 0 ∷ claim_shares ms) ≡ F (share 0) + times_named (suc w) (claim_shares ms) = sum_by-cons F (share 0) (claim_shares ms) in omega arith

pub round_from : (y : YardView) (c : Counter) (workers limit r : ℕ) (seats : List Sitting) (ms : List Member) (ss : List WorkerShift) (v : View) (word : ℕ)
    → c.limit ≡ y.base.formula.variables → 0 < length seats → AreSeats y seats → AllZip (HasWorked workers limit r) (members_from c 1 seats) ms → shifts_of ms ≡ map Some ss
    → v ≡ claims_joined (founder_of c.limit (length seats + 1)) ms
    → ((x : ℕ) → times x v.drawn ≡ once_below x (min c.limit word)) → (0 < ends (all_shares v) → c.limit ≤ word)
    → IsRound y workers limit r seats (seats_of ms) ss
round_from y c workers limit r seats ms ss v word bound some are h e is drawn ended =
    let view : v ≡ record (founder_of c.limit (length seats + 1)) { drawn = drawn_of_all ms; others = claim_shares ms } = is ∙ claims_joined-is (founder_of c.limit (length seats + 1)) ms in
    let d : (x : ℕ) → times x (drawn_of_all ms) ≡ once_below x (min c.limit word) = λ x. ap (λ (z : View). times x z.drawn) (sym view) ∙ drawn x in
    let variables = y.base.formula.variables in let t = taken_are c workers limit r y 1 seats ms ss h e (all_out y seats are) in
    let long = members_long c workers limit r 1 seats ms h in record {
      team = length-map ms ∙ long;
      seats = seats_after c workers limit r y seats ms are h;
      count = sym (length-some ss) ∙ (sym (ap length e) ∙ (length-shifts ms ∙ long));
      work = work_at c workers limit r seats ms ss h e;
      taken_once = taken_few workers variables ss (drawn_of_all ms) (min c.limit word) t d (omega arith);
      taken_all = λ x none low high.
          let F : Share → ℕ = λ z. if is_some z.end then 1 else 0 in
          let some_end = some_ended c workers limit r 1 seats ms ss some h e none in
          let a : ends (share 0 ∷ claim_shares ms) ≡ F (share 0) + ends (claim_shares ms) = sum_by-cons F (share 0) (claim_shares ms) in
          let b : ends (all_shares v) ≡ ends (share 0 ∷ claim_shares ms) = ap (λ (z : View). ends (all_shares z)) view in
          let past = ended (omega arith) in
          taken_each workers variables ss (drawn_of_all ms) (min c.limit word) t d (omega arith) x low high;
      in_order = λ w one. in_order workers variables (min c.limit word) ss (drawn_of_all ms) t d (rising_one c workers limit r 1 seats ms one h) w (sym (length-some ss) ∙ (sym (ap length e) ∙ (length-shifts ms ∙ (long ∙ one))));
    }
  where
    length-map : (ms : List Member) → length (seats_of ms) ≡ length ms
    length-map [] = refl
    length-map (m ∷ ms) = ap suc (length-map ms)

    length-shifts : (ms : List Member) → length (shifts_of ms) ≡ length ms
    length-shifts [] = refl
    length-shifts (m ∷ ms) = ap suc (length-shifts ms)

    length-some : (ss : List WorkerShift) → length (map Some ss) ≡ length ss
    length-some [] = refl
    length-some (s ∷ ss) = ap suc (length-some ss)
