-- One worker in one round: what the contract of the run says of it, and that its posts are a function of the input.
use Rattle.std.proofs.Common.{◌≡◌, ◌≢◌, ℕ, zero, suc, ◌+◌, ◌*◌, ◌<◌, ◌≤◌, Bool, true, false, cond, ◌&&◌, List, [], ◌∷◌, ◌++◌, map, length, slice_get, Option, Some, None, refl, sym, ◌∙◌, ap, subst, inl, inr, arith, append-nil}
use Rattle.std.specs.Prelude.{◌⊎◌, ◌==◌, nat_le}
use Rattle.std.specs.List.{All, Contains, filter, enumerate_from, range_with_len, count_by}
use Rattle.std.proofs.lemmas.Bool.{and_from, eq-eqb, ne_eqb, cases_eq, cases_lt, lt-leb}
use Rattle.std.proofs.lemmas.Option.{same_Some}
use Rattle.std.proofs.lemmas.List.{length-map}
use Rattle.std.proofs.lemmas.List.Elements.{All-cons}
use Rattle.std.proofs.lemmas.List.FromFn.{length-enumerate_from}
use Rattle.std.proofs.lemmas.List.Sums.{sum_by-cons}
use Rattle.cp_logic.specs.declared.settings.Rules.{Rules}
use Rattle.cp_logic.specs.declared.stop.Stop.{Stop}
use Rattle.cp_logic.specs.Formulas.{Formula}
use Rattle.cp_logic.specs.Journals.{Post, IsLegalJournal, posts_of, posts_in_round}
use Rattle.cp_logic.proofs.Members.{none_in, in_here}
use Rattle.cp_worker.specs.declared.lists.WorkerShift.{WorkerShift}
use Rattle.cp_yard.specs.Views.{Base, Note, Got, GotTurn, Met, MetTurn, Share, SeatView, all_shares}
use Rattle.cp_yard.specs.Rule.{IsTrueNote, Account}
use Rattle.cp_worker.specs.Shifts.{Visited, AreVisits, EndsIn}
use Rattle.cp_phase.specs.Rounds.{of_round, shift_at, times_taken, once_in, NoneStopped, OneStopped, all_notes, IsShiftIn, AreShiftsOf, AreShifts}
use Rattle.cp_top.specs.Team.{base_at, IsTeamwork}
use Rattle.cp_top.specs.OneWorker.{PostsTheSame, AreOnly}
use Rattle.cp_top.proofs.SoleVisits.{IsSole, AreSole}
use Rattle.cp_top.proofs.SoleShifts.{IsRest, shifts_same}

-- ---- numbers in a row, and how often one of them stands there

count_first : (x a : ℕ) (xs : List ℕ) → count_by (λ y. y == x) (a ∷ xs) ≡ cond (a == x) 1 0 + count_by (λ y. y == x) xs
count_first x a xs = sum_by-cons (λ y. cond (y == x) 1 0) a xs

count_other : (x a : ℕ) (xs : List ℕ) → a ≢ x → count_by (λ y. y == x) (a ∷ xs) ≡ count_by (λ y. y == x) xs
count_other x a xs other = count_first x a xs ∙ ap (λ b. cond b 1 0 + count_by (λ y. y == x) xs) (ne_eqb a x other) ∙ omega arith

count_same : (x a : ℕ) (xs : List ℕ) → a ≡ x → 1 ≤ count_by (λ y. y == x) (a ∷ xs)
count_same x a xs same = let e = count_first x a xs ∙ ap (λ b. cond b 1 0 + count_by (λ y. y == x) xs) (eq-eqb a x same) in omega arith

-- n numbers from a on have those below a + n, and no others
row_counts : (a n x : ℕ) → a ≤ x → x < a + n → 1 ≤ count_by (λ y. y == x) (range_with_len a n)
row_counts a zero x low high = absurd (omega arith)
row_counts a (suc n) x low high = elim (cases_eq a x) [
  | inl e ↦ count_same x a (range_with_len (a + 1) n) e
  | inr e ↦ let more = row_counts (a + 1) n x (omega (arith, e)) (omega arith) in let all = count_other x a (range_with_len (a + 1) n) e in omega arith
]

row_counted : (a n x : ℕ) → 1 ≤ count_by (λ y. y == x) (range_with_len a n) → x < a + n
row_counted a zero x some = absurd (omega arith)
row_counted a (suc n) x some = elim (cases_eq a x) [
  | inl e ↦ omega arith
  | inr e ↦ let all = count_other x a (range_with_len (a + 1) n) e in let more = row_counted (a + 1) n x (omega arith) in omega arith
]

once_within : (x variables : ℕ) → 1 ≤ once_in x variables → x ≤ variables
once_within x variables some = elim (cases_lt variables x) [
  | inl above ↦ let none : once_in x variables ≡ 0 = ap (λ b. cond (nat_le 1 x && b) 1 0) (lt-leb x variables above) ∙ nothing (nat_le 1 x) in absurd (omega arith)
  | inr below ↦ below
]
  where
    nothing : (b : Bool) → cond {A = ℕ} (b && false) 1 0 ≡ 0
    nothing true = refl
    nothing false = refl

-- ---- posts of one worker

abbrev IsOwn : Post → Type 0
IsOwn p = (p.worker ≡ 1) × (p.round ≡ 1)

-- no post is of number 0
none_of_zero : (n : ℕ) (w : List Post) → filter (λ q. q.1.worker == 0) (enumerate_from n w) ≡ [] → All (λ p. p.worker ≢ 0) w
none_of_zero n [] e = λ k d low. absurd (omega arith)
none_of_zero n (p ∷ ps) e = elim (cases_eq p.worker 0) [
  | inl is ↦ let there : (n, p) ∷ filter (λ q. q.1.worker == 0) (enumerate_from (n + 1) ps) ≡ [] =
      ap (λ b. cond b ((n, p) ∷ filter (λ q. q.1.worker == 0) (enumerate_from (n + 1) ps)) (filter (λ q. q.1.worker == 0) (enumerate_from (n + 1) ps))) (sym (eq-eqb p.worker 0 is)) ∙ e in cc
  | inr not ↦ let rest = none_of_zero (n + 1) ps
      (ap (λ b. cond b ((n, p) ∷ filter (λ q. q.1.worker == 0) (enumerate_from (n + 1) ps)) (filter (λ q. q.1.worker == 0) (enumerate_from (n + 1) ps))) (sym (ne_eqb p.worker 0 not)) ∙ e) in
      All-cons (λ (r : Post). r.worker ≢ 0) p ps not rest
]

-- posts that all pass
all_pass : (test : Post → Bool) (n : ℕ) (w : List Post) → All (λ p. test p ≡ true) w → filter (λ q. test q.1) (enumerate_from n w) ≡ enumerate_from n w
all_pass test n [] all = refl
all_pass test n (p ∷ ps) all =
    ap (λ b. cond b ((n, p) ∷ filter (λ q. test q.1) (enumerate_from (n + 1) ps)) (filter (λ q. test q.1) (enumerate_from (n + 1) ps))) (all 0 p (omega arith))
    ∙ ap (λ l. (n, p) ∷ l) (all_pass test (n + 1) ps (λ k d low. all (suc k) d (omega arith)))

own_in_round : (w : List Post) → All IsOwn w → posts_in_round w 1 1 ≡ enumerate_from 0 w
own_in_round w own = all_pass (λ p. (p.worker == 1) && (p.round == 1)) 0 w (λ k d low. and_from _ _ (eq-eqb _ 1 (own k d low).0) (eq-eqb _ 1 (own k d low).1))

own_of : (w : List Post) → All IsOwn w → length (posts_of w 1) ≡ length w
own_of w own = ap length (all_pass (λ p. p.worker == 1) 0 w (λ k d low. eq-eqb _ 1 (own k d low).0)) ∙ length-enumerate_from 0 w

-- ---- the only worker's shift

-- what a run with one worker and one round comes to
record IsSoleRun (f : Base) (limit : ℕ) (w : List Post) : Type 0 where
  visits : List Visited
  stopped : Option Stop
  rest : IsRest f limit w [] w 0 visits
  ends : EndsIn stopped visits
  row : map (λ (z : Visited). z.at) visits ≡ range_with_len 1 (length visits)
  legal : IsLegalJournal f.formula f.rules w
  few : length visits ≤ f.formula.variables
  whole : stopped ≡ None → f.formula.variables ≤ length visits

one_item : {X : Type 0} (xs : List X) → length xs ≡ 1 → (x : X) × (xs ≡ x ∷ [])
one_item [] e = absurd (omega arith)
one_item (x ∷ []) e = (x, refl)
one_item (x ∷ y ∷ ys) e = absurd (omega arith)

own_front : (j r : List Post) → All IsOwn (j ++ r) → All IsOwn j
own_front [] r own = λ k d low. absurd (omega arith)
own_front (p ∷ ps) r own = All-cons IsOwn p ps (own 0 p (omega arith)) (own_front ps r (λ k d low. own (suc k) d (omega arith)))

module _ (f : Base) (limit : ℕ) (w : List Post) (shares : List Share) (shifts : List WorkerShift) (a : Account f w shares 2) (t : AreShifts f 1 1 limit w shares shifts)
    (first : Share) (there : Contains shares first) (number : first.number ≡ 0) (posts : first.posts ≡ []) (notes : first.notes ≡ []) where
  begun_one : t.begun ≡ 1
  begun_one = go t.ends.last
    where
      go : (t.begun ≡ 1) ⊎ ((r : ℕ) × (r + 1 ≡ t.begun) × OneStopped (of_round 1 r shifts)) → t.begun ≡ 1
      go (inl e) = e
      go (inr (r, e, one)) = let few = t.ends.few in omega arith

  all_own : All IsOwn w
  all_own = λ k d low.
      let other = none_of_zero 0 w (ap (posts_of w) (sym number) ∙ sym (a.each_share first there).0 ∙ posts) k d low in
      let below = a.workers k d low in
      let inside = t.within k d low other in
      let few = t.ends.few in
      let round = inside.1 in
      let rounds = inside.2 in
      ((omega (arith, other)), omega arith)

  not_zero : (n : Note) → Contains (a.notes 0) n → ⊥
  not_zero n i = none_in n (subst (λ ns. Contains ns n) (ap a.notes (sym number) ∙ sym (a.each_share first there).1 ∙ notes) i)

  -- nobody else met anything
  no_other : (by : ℕ) (n : Note) → by ≢ 1 → Contains (a.notes by) n → ⊥
  no_other zero n other i = not_zero n i
  no_other (suc zero) n other i = other refl
  no_other (suc (suc k)) n other i = none_in n (subst (λ ns. Contains ns n) (a.unused (suc (suc k)) (omega arith)) i)

  all_sole : AreSole f w (a.notes 1)
  all_sole n i = go n (a.true_notes 1 n i)
    where
      go : (n : Note) → IsTrueNote f w a.notes 1 n → IsSole f w n
      go (Got x cs n) (j, (r, e), is, long) = (j, (r, e), is, sym (own_of j (own_front j r (subst (All IsOwn) (sym e) all_own))) ∙ long)
      go (GotTurn j) front = front
      go (Met x by) (other, (cs, n, i)) = no_other by (Got x cs n) other i
      go (MetTurn by) (other, (j, i)) = no_other by (GotTurn j) other i

  module _ (s : WorkerShift) (is : shifts ≡ s ∷ []) where
    at_first : shift_at 1 0 0 shifts ≡ Some s
    at_first = ap (shift_at 1 0 0) is

    of_first : of_round 1 0 shifts ≡ s ∷ []
    of_first = ap (of_round 1 0) is

    team : AreShiftsOf f 1 limit w shares 1 t.begun (λ r. shift_at 1 r 0 shifts)
    team = t.each 0 (omega arith)

    in_round : IsShiftIn f 1 limit 1 0 team.noted (posts_in_round w 1 1) s
    in_round = team.each 0 s at_first

    same_notes : in_round.notes ≡ a.notes 1
    same_notes =
        let (ns, one) = one_item team.noted (team.rounds ∙ begun_one) in
        let these : ns ≡ in_round.notes = same_Some ns in_round.notes (sym (ap (λ l. slice_get l 0) one) ∙ in_round.there) in
        sym these ∙ sym (append-nil ns) ∙ sym (ap all_notes one) ∙ sym team.notes ∙ (a.each_share team.share team.there).1 ∙ ap a.notes team.whose

    count : length s.taken.items ≡ length in_round.shift.visits
    count = ap length in_round.shift.visited ∙ length-map in_round.shift.visits (λ (z : Visited). z.at)

    taken : s.taken.items ≡ range_with_len 1 (length in_round.shift.visits)
    taken = t.in_order refl 0 s at_first ∙ ap (range_with_len 1) count

    times : (x : ℕ) → times_taken x (of_round 1 0 shifts) ≡ count_by (λ y. y == x) (range_with_len 1 (length in_round.shift.visits))
    times x = ap (times_taken x) of_first ∙ ap (count_by (λ y. y == x)) (append-nil s.taken.items ∙ taken)

    few_taken : length in_round.shift.visits ≤ f.formula.variables
    few_taken = elim (cases_eq (length in_round.shift.visits) 0) [
      | inl none ↦ omega arith
      | inr some ↦
          let x = length in_round.shift.visits in
          let once = t.taken_once 0 x in
          let here = row_counts 1 x x (omega (arith, some)) (omega arith) in
          let same = times x in
          once_within x f.formula.variables (omega arith)
    ]

    all_taken : s.stopped ≡ None → f.formula.variables ≤ length in_round.shift.visits
    all_taken none = elim (cases_eq f.formula.variables 0) [
      | inl e ↦ omega arith
      | inr some ↦
          let x = f.formula.variables in
          let nobody : NoneStopped (of_round 1 0 shifts) = subst NoneStopped (sym of_first) (All-cons (λ (z : WorkerShift). z.stopped ≡ None) s [] none (λ k d low. absurd (omega arith))) in
          let once = t.taken_all 0 x (omega (arith, begun_one)) nobody (omega (arith, some)) (omega arith) in
          let same = times x in
          let below = row_counted 1 (length in_round.shift.visits) x (omega arith) in
          omega arith
    ]

    sole_shift : IsSoleRun f limit w
    sole_shift = record {
      visits = in_round.shift.visits;
      stopped = s.stopped;
      rest = record {
        at = refl;
        whole = refl;
        each = subst (λ k. AreVisits f 1 1 limit k in_round.shift.visits) (in_round.first refl) in_round.shift.each;
        posted = sym (own_in_round w all_own) ∙ in_round.shift.posted_are;
        notes = subst (AreSole f w) (sym same_notes ∙ in_round.shift.notes) all_sole;
      };
      ends = in_round.shift.ends;
      row = sym in_round.shift.visited ∙ taken;
      legal = a.legal.1;
      few = few_taken;
      whole = all_taken;
    }

  sole_run : IsSoleRun f limit w
  sole_run = let (s, is) = one_item shifts (t.count ∙ ap (λ b. b * 1) begun_one) in sole_shift s is

runs_same : (f : Base) (limit : ℕ) (w v : List Post) → IsSoleRun f limit w → IsSoleRun f limit v → w ≡ v
runs_same f limit w v a b =
    shifts_same f limit w v a.legal b.legal a.visits b.visits [] w v 0 0 1 (length a.visits) (length b.visits) a.stopped b.stopped a.rest b.rest a.row b.row a.ends b.ends
    (λ e. let most = a.whole e in let few = b.few in omega arith) (λ e. let most = b.whole e in let few = a.few in omega arith)

of_teamwork : (limit : ℕ) (f : Formula) (rules : Rules) (w : List Post) (shifts : List WorkerShift) (kept : Option SeatView) → IsTeamwork 1 1 limit f rules w shifts kept → IsSoleRun (base_at f rules) limit w
of_teamwork limit f rules w shifts kept t =
    let (k, is, team) = t.team (omega arith) (omega arith) in
    let (j, too, account, number, posts, notes) = t.account (omega arith) (omega arith) in
    let same : j ≡ k = same_Some j k (sym too ∙ is) in
    sole_run (base_at f rules) limit w (all_shares j) shifts account (subst (λ (z : SeatView). AreShifts (base_at f rules) 1 1 limit w (all_shares z) shifts) (sym same) team)
    j.own (in_here j.own j.own j.others refl) number posts notes

pub posts_the_same : PostsTheSame
posts_the_same limit f rules worked again shifts more kept left one other =
    runs_same (base_at f rules) limit worked again (of_teamwork limit f rules worked shifts kept one) (of_teamwork limit f rules again more left other)

pub only_posts : (workers rounds limit : ℕ) (f : Formula) (rules : Rules) (worked : List Post) (shifts : List WorkerShift) (kept : Option SeatView)
    → IsTeamwork workers rounds limit f rules worked shifts kept → AreOnly workers rounds limit f rules worked
only_posts workers rounds limit f rules worked shifts kept t one once again more left other =
    posts_the_same limit f rules worked again shifts more kept left
    (subst (λ n. IsTeamwork n 1 limit f rules worked shifts kept) one (subst (λ n. IsTeamwork workers n limit f rules worked shifts kept) once t)) other
