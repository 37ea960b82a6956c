-- A shift, visit by visit.
use Rattle.std.proofs.Common.{◌≡◌, ℕ, ◌+◌, Bool, false, List, [], ◌∷◌, ◌++◌, length, length-append, append_assoc, append-nil, Option, Some, None, inl, inr, refl, sym, ◌∙◌, ap, subst, arith}
use Rattle.std.specs.Prelude.{◌⊎◌, is_some}
use Rattle.std.specs.List.{flat_map, All, Contains}
use Rattle.std.proofs.lemmas.Grind.{flat_map-append}
use Rattle.std.proofs.lemmas.Bool.{false≢true}
use Rattle.std.proofs.lemmas.List.{map-append}
use Rattle.std.proofs.lemmas.List.Elements.{All-nil, All-cons, All-append, All-weaker, All-same, Contains-append_left, Contains-append_right, Contains-push, Contains-push_cases}
use Rattle.std.proofs.lemmas.Option.{same_Some}
use Rattle.cp_logic.specs.declared.stop.Stop.{Stop}
use Rattle.cp_logic.specs.Entries.{Entry}
use Rattle.cp_logic.specs.Journals.{Post}
use Rattle.cp_logic.proofs.Members.{none_in}
use Rattle.cp_claim.specs.Views.{View, DrawsOnly}
use Rattle.cp_yard.specs.Views.{Base, Note, Got, GotTurn, Met, MetTurn, SeatView}
use Rattle.cp_hood.specs.Seats.{GoesOn, EndWith}
use Rattle.cp_hood.proofs.Going.{GoesOn-none, GoesOn-then}
use Rattle.cp_worker.specs.declared.answer.AtAnswer.{AtAnswer}
use Rattle.cp_worker.specs.declared.answer.AtAnswer.TheVariants.{Settled, Busy, Wide, TurnHeld, Stopped}
use Rattle.cp_worker.specs.declared.lists.BusyAt.{BusyAt}
use Rattle.cp_worker.specs.declared.lists.LateAt.{LateAt}
use Rattle.cp_worker.specs.declared.lists.WideAt.{WideAt}
use Rattle.cp_worker.specs.declared.lists.WorkerShift.{WorkerShift}
use Rattle.cp_worker.specs.Visits.{IsVisit, IsPostOf, positions, commits_of}
use Rattle.cp_worker.specs.Listing.{IsListing, busy_of, late_of, wide_of, stop_of, stopped_after}
use Rattle.cp_worker.specs.Candidates.{candidate_of, candidates_of}
use Rattle.cp_worker.specs.Shifts.{IsShift, Visited, AreVisits, EndsIn, Gives, IsSettled, IsBusy, IsLate, IsWide, IsAccounted, IsLast, IsStopped}
use Rattle.cp_worker.proofs.Commits.{EndWith-later, IsSeen, seen, commits_are, posts_are}

in_end : (n : Note) (before noted : List Note) → EndWith n noted → Contains (before ++ noted) n
in_end n before noted (first, e) = Contains-append_right before noted n (subst (λ (ns : List Note). Contains ns n) (sym e) (Contains-push first n))

none_some : {X : Type 0} (o : Option X) (x : X) → o ≡ None → o ≡ Some x → ⊥
none_some o x e h = cc

pub none_from : {X : Type 0} (o : Option X) (b : Bool) → b ≡ is_some o → b ≡ false → o ≡ None
none_from None b e f = refl
none_from (Some x) b e f = absurd (false≢true (sym f ∙ e))

module _ (f : Base) (number x in_round limit : ℕ) (noted more : List Note) (posted posts : List (ℕ × Post)) where
  busy_here : (answer : AtAnswer) → IsSeen f x limit more posts answer → All (IsBusy (noted ++ more)) (busy_of x answer)
  busy_here (Settled commits) h = All-nil (IsBusy (noted ++ more))
  busy_here (Busy var by) h = All-cons (IsBusy (noted ++ more)) (record { at = x; var = var; by = by }) [] (in_end (Met var by) noted more h) (All-nil (IsBusy (noted ++ more)))
  busy_here (Wide count) h = All-nil (IsBusy (noted ++ more))
  busy_here (TurnHeld by commits) h = All-nil (IsBusy (noted ++ more))
  busy_here (Stopped stop commits) h = All-nil (IsBusy (noted ++ more))

  late_here : (answer : AtAnswer) → IsSeen f x limit more posts answer → All (IsLate (noted ++ more)) (late_of x answer)
  late_here (Settled commits) h = All-nil (IsLate (noted ++ more))
  late_here (Busy var by) h = All-nil (IsLate (noted ++ more))
  late_here (Wide count) h = All-nil (IsLate (noted ++ more))
  late_here (TurnHeld by commits) h = All-cons (IsLate (noted ++ more)) (record { at = x; by = by }) [] (in_end (MetTurn by) noted more h) (All-nil (IsLate (noted ++ more)))
  late_here (Stopped stop commits) h = All-nil (IsLate (noted ++ more))

  wide_here : (answer : AtAnswer) → IsSeen f x limit more posts answer → All (IsWide limit (noted ++ more)) (wide_of x answer)
  wide_here (Settled commits) h = All-nil (IsWide limit (noted ++ more))
  wide_here (Busy var by) h = All-nil (IsWide limit (noted ++ more))
  wide_here (Wide count) (cs, k, e, n, l) =
      All-cons (IsWide limit (noted ++ more)) (record { at = x; count = count }) [] (cs, k, in_end (Got x cs k) noted more e, n, l) (All-nil (IsWide limit (noted ++ more)))
  wide_here (TurnHeld by commits) h = All-nil (IsWide limit (noted ++ more))
  wide_here (Stopped stop commits) h = All-nil (IsWide limit (noted ++ more))

  gives_later : (y : ℕ) (own : List (ℕ × Post)) (o : Option Entry) → Gives f y more own o → Gives f y (noted ++ more) own o
  gives_later y own o (before, cs, n, after, e, found) = (noted ++ before, cs, n, after, ap (λ (ns : List Note). noted ++ ns) e ∙ sym (append_assoc noted before (Got y cs n ∷ after)), found)

  stopped_here : (answer : AtAnswer) (stop : Stop) (earlier : List ℕ) (o now : Option Stop) → IsSeen f x limit more posts answer → o ≡ None → now ≡ stopped_after answer o → now ≡ Some stop
      → IsStopped f (noted ++ more) (posted ++ posts) (earlier ++ x ∷ []) stop
  stopped_here (Settled commits) stop earlier o now h n e s = absurd (none_some o stop n (sym e ∙ s))
  stopped_here (Busy var by) stop earlier o now h n e s = absurd (none_some o stop n (sym e ∙ s))
  stopped_here (Wide count) stop earlier o now h n e s = absurd (none_some o stop n (sym e ∙ s))
  stopped_here (TurnHeld by commits) stop earlier o now h n e s = absurd (none_some o stop n (sym e ∙ s))
  stopped_here (Stopped found commits) stop earlier o now (j, entry, ended, gives, refused) n e s =
      subst (IsStopped f (noted ++ more) (posted ++ posts) (earlier ++ x ∷ [])) (same_Some found stop (sym e ∙ s))
      (x, (earlier, refl), (posted, posts, refl, (j, entry, EndWith-later (GotTurn j) noted more ended, gives_later x posts (Some entry) gives, refused)))

  -- the candidate itself
  account_here : (answer : AtAnswer) (old new : WorkerShift) → IsSeen f x limit more posts answer → IsListing x answer old new
      → IsAccounted f (noted ++ more) (posted ++ posts) new x ⊎ (IsLast x new.taken.items × ((stop : Stop) × (new.stopped ≡ Some stop)))
  account_here (Settled commits) old new h l =
      inl (inr (inr (inr (posted, posts, [], ap (λ (ps : List (ℕ × Post)). posted ++ ps) (sym (append-nil posts)), gives_later x posts None h))))
  account_here (Busy var by) old new h l =
      let b : BusyAt = record { at = x; var = var; by = by } in
      inl (inl (b, subst (λ (bs : List BusyAt). Contains bs b) (sym l.busy) (Contains-push old.busy.items b), refl))
  account_here (Wide count) old new h l =
      let w : WideAt = record { at = x; count = count } in
      inl (inr (inr (inl (w, subst (λ (ws : List WideAt). Contains ws w) (sym l.wide) (Contains-push old.wide.items w), refl))))
  account_here (TurnHeld by commits) old new h l =
      let b : LateAt = record { at = x; by = by } in
      inl (inr (inl (b, subst (λ (bs : List LateAt). Contains bs b) (sym l.late) (Contains-push old.late.items b), refl)))
  account_here (Stopped stop commits) old new h l = inr ((old.taken.items, l.taken), (stop, l.stopped))

  settled_later : (y : ℕ) (own : List (ℕ × Post)) → IsSettled f y noted own → IsSettled f y (noted ++ more) own
  settled_later y own (before, cs, n, after, e, none) = (before, cs, n, after ++ more, ap (λ (ns : List Note). ns ++ more) e ∙ append_assoc before (Got y cs n ∷ after) more, none)

  -- a candidate that was drawn before
  account_later : (answer : AtAnswer) (old new : WorkerShift) (y : ℕ) → IsListing x answer old new → IsAccounted f noted posted old y → IsAccounted f (noted ++ more) (posted ++ posts) new y
  account_later answer old new y l (inl (b, i, e)) = inl (b, subst (λ (bs : List BusyAt). Contains bs b) (sym l.busy) (Contains-append_left old.busy.items (busy_of x answer) b i), e)
  account_later answer old new y l (inr (inl (b, i, e))) = inr (inl (b, subst (λ (bs : List LateAt). Contains bs b) (sym l.late) (Contains-append_left old.late.items (late_of x answer) b i), e))
  account_later answer old new y l (inr (inr (inl (w, i, e)))) = inr (inr (inl (w, subst (λ (ws : List WideAt). Contains ws w) (sym l.wide) (Contains-append_left old.wide.items (wide_of x answer) w i), e)))
  account_later answer old new y l (inr (inr (inr (before, own, after, e, s)))) =
      inr (inr (inr (
        before,
        own,
        after ++ posts,
        ap (λ (ps : List (ℕ × Post)). ps ++ posts) e ∙ append_assoc before (own ++ after) posts ∙ ap (λ (ps : List (ℕ × Post)). before ++ ps) (append_assoc own after posts),
        settled_later y own s,
      )))

-- what one visit more lists
all_more : {A : Type 0} (f : Visited → List A) (visits : List Visited) (v : Visited) → flat_map f visits ++ f v ≡ flat_map f (visits ++ v ∷ [])
all_more f visits v = ap (λ xs. flat_map f visits ++ xs) (sym (append-nil (f v))) ∙ sym (flat_map-append f visits (v ∷ []))

-- one visit more, after the posts of those before it
visits-then : (f : Base) (number in_round limit before : ℕ) (visits : List Visited) (v : Visited) → AreVisits f number in_round limit before visits
    → IsVisit f number v.at in_round limit (before + length (flat_map (λ (w : Visited). w.posted) visits)) v.noted v.posted v.answer → AreVisits f number in_round limit before (visits ++ v ∷ [])
visits-then f number in_round limit before [] v each h = (subst (λ n. IsVisit f number v.at in_round limit n v.noted v.posted v.answer) (let e : before + 0 ≡ before = omega arith in e) h, tt)
visits-then f number in_round limit before (w ∷ ws) v each h =
    let rest : List (ℕ × Post) = flat_map (λ (u : Visited). u.posted) ws in
    let long : length (w.posted ++ rest) ≡ length w.posted + length rest = length-append w.posted rest in (
      each.0,
      visits-then f number in_round limit (before + length w.posted) ws v each.1
          (subst (λ n. IsVisit f number v.at in_round limit n v.noted v.posted v.answer)
          (let e : before + length (w.posted ++ rest) ≡ before + length w.posted + length rest = omega (arith, long) in e) h),
    )

-- where none stopped before it
ends-then : (visits : List Visited) (v : Visited) (o now : Option Stop) → o ≡ None → EndsIn o visits → now ≡ stop_of v.answer → EndsIn now (visits ++ v ∷ [])
ends-then [] v o now n e h = h
ends-then (w ∷ []) v o now n e h = (sym e ∙ n, h)
ends-then (w ∷ u ∷ us) v o now n e h = (e.0, ends-then (u ∷ us) v o now n e.1 h)

stop-only : (answer : AtAnswer) (o : Option Stop) → o ≡ None → stopped_after answer o ≡ stop_of answer
stop-only (Settled commits) o n = n
stop-only (Busy var by) o n = n
stop-only (Wide count) o n = n
stop-only (TurnHeld by commits) o n = n
stop-only (Stopped stop commits) o n = refl

-- nothing was drawn yet
pub starts-shift : (f : Base) (number in_round workers limit before : ℕ) (s : WorkerShift) → s.worker ≡ number → s.round ≡ in_round → s.taken.items ≡ [] → s.commits.items ≡ [] → s.busy.items ≡ [] → s.late.items ≡ []
    → s.wide.items ≡ [] → s.stopped ≡ None → IsShift f number in_round workers limit before [] [] [] s
starts-shift f number in_round workers limit before s w r t c b l d n = record {
  worker = w;
  round = r;
  taken = t;
  visits = [];
  each = tt;
  ends = n;
  visited = t;
  notes = refl;
  posted_are = refl;
  busy_are = b;
  late_are = l;
  wide_are = d;
  commits = c;
  posts = All-nil (IsPostOf number in_round);
  busy = All-same (IsBusy []) s.busy.items [] b (All-nil (IsBusy []));
  late = All-same (IsLate []) s.late.items [] l (All-nil (IsLate []));
  wide = All-same (IsWide limit []) s.wide.items [] d (All-nil (IsWide limit []));
  accounted = λ x i. absurd (none_in x (subst (λ (xs : List ℕ). Contains xs x) t i));
  stopped = λ stop e. absurd (none_some s.stopped stop n e);
}

-- one visit more
pub visits-more : (f : Base) (number in_round workers limit before : ℕ) (noted more : List Note) (posted posts : List (ℕ × Post)) (drawn : List ℕ) (n c : ℕ) (answer : AtAnswer) (old new : WorkerShift)
    → c ≡ candidate_of workers f.formula.variables n → old.stopped ≡ None → IsShift f number in_round workers limit before noted posted drawn old → IsVisit f number c in_round limit (before + length posted) more posts answer → IsListing c answer old new
    → IsShift f number in_round workers limit before (noted ++ more) (posted ++ posts) (drawn ++ n ∷ []) new
visits-more f number in_round workers limit before noted more posted posts drawn n c answer old new is unstopped s v l =
    let see = seen f number c in_round limit (before + length posted) more posts answer v in
    let one : Visited = record { at = c; answer = answer; noted = more; posted = posts } in
    record {
      worker = l.worker ∙ s.worker;
      round = l.round ∙ s.round;
      taken = l.taken ∙ ap (λ (xs : List ℕ). xs ++ c ∷ []) s.taken ∙ ap (λ z. candidates_of workers f.formula.variables drawn ++ z ∷ []) is
          ∙ sym (map-append (λ k. candidate_of workers f.formula.variables k) drawn (n ∷ []));
      visits = s.visits ++ one ∷ [];
      each = visits-then f number in_round limit before s.visits one s.each
          (subst (λ (ps : List (ℕ × Post)). IsVisit f number c in_round limit (before + length ps) more posts answer) s.posted_are v);
      ends = ends-then s.visits one old.stopped new.stopped unstopped s.ends (l.stopped ∙ stop-only answer old.stopped unstopped);
      visited = l.taken ∙ ap (λ (xs : List ℕ). xs ++ c ∷ []) s.visited ∙ sym (map-append (λ (w : Visited). w.at) s.visits (one ∷ []));
      notes = ap (λ (ns : List Note). ns ++ more) s.notes ∙ all_more (λ w. w.noted) s.visits one;
      posted_are = ap (λ (ps : List (ℕ × Post)). ps ++ posts) s.posted_are ∙ all_more (λ w. w.posted) s.visits one;
      busy_are = l.busy ∙ ap (λ (bs : List BusyAt). bs ++ busy_of c answer) s.busy_are ∙ all_more (λ w. busy_of w.at w.answer) s.visits one;
      late_are = l.late ∙ ap (λ (bs : List LateAt). bs ++ late_of c answer) s.late_are ∙ all_more (λ w. late_of w.at w.answer) s.visits one;
      wide_are = l.wide ∙ ap (λ (bs : List WideAt). bs ++ wide_of c answer) s.wide_are ∙ all_more (λ w. wide_of w.at w.answer) s.visits one;
      commits = l.commits ∙ ap (λ (ns : List ℕ). ns ++ commits_of answer) s.commits ∙ ap (λ (ns : List ℕ). positions posted ++ ns) (commits_are f number c in_round limit (before + length posted) more posts answer v)
          ∙ sym (map-append (λ (q : ℕ × Post). q.0) posted posts);
      posts = All-append (IsPostOf number in_round) posted posts s.posts (posts_are f number c in_round limit (before + length posted) more posts answer v);
      busy = All-same (IsBusy (noted ++ more)) new.busy.items (old.busy.items ++ busy_of c answer) l.busy
          (All-append (IsBusy (noted ++ more)) old.busy.items (busy_of c answer)
          (All-weaker (IsBusy noted) (IsBusy (noted ++ more)) (λ b i. Contains-append_left noted more (Met b.var b.by) i) old.busy.items s.busy)
          (busy_here f number c in_round limit noted more posted posts answer see));
      late = All-same (IsLate (noted ++ more)) new.late.items (old.late.items ++ late_of c answer) l.late
          (All-append (IsLate (noted ++ more)) old.late.items (late_of c answer)
          (All-weaker (IsLate noted) (IsLate (noted ++ more)) (λ b i. Contains-append_left noted more (MetTurn b.by) i) old.late.items s.late)
          (late_here f number c in_round limit noted more posted posts answer see));
      wide = All-same (IsWide limit (noted ++ more)) new.wide.items (old.wide.items ++ wide_of c answer) l.wide
          (All-append (IsWide limit (noted ++ more)) old.wide.items (wide_of c answer)
          (All-weaker (IsWide limit noted) (IsWide limit (noted ++ more)) (λ w h. (h.0, h.1, Contains-append_left noted more (Got w.at h.0 h.1) h.2, h.3, h.4)) old.wide.items s.wide)
          (wide_here f number c in_round limit noted more posted posts answer see));
      accounted = λ x i. elim (Contains-push_cases old.taken.items c x (subst (λ (xs : List ℕ). Contains xs x) l.taken i)) [
        | inl j ↦ elim (s.accounted x j) [
          | inl a ↦ inl (account_later f number c in_round limit noted more posted posts answer old new x l a)
          | inr e ↦ absurd (none_some old.stopped e.1.0 unstopped e.1.1)
        ]
        | inr e ↦ subst (λ z. IsAccounted f (noted ++ more) (posted ++ posts) new z ⊎ (IsLast z new.taken.items × ((stop : Stop) × (new.stopped ≡ Some stop)))) e
            (account_here f number c in_round limit noted more posted posts answer old new see l)
      ];
      stopped = λ stop e. subst (λ (xs : List ℕ). IsStopped f (noted ++ more) (posted ++ posts) xs stop) (sym l.taken)
          (stopped_here f number c in_round limit noted more posted posts answer stop old.taken.items old.stopped new.stopped see unstopped l.stopped e);
    }

-- a shift under way: what was noted, posted and drawn, and what is listed of it
pub record IsGoing (v w : SeatView) (first now : List ℕ) (in_round workers limit : ℕ) (s : WorkerShift) : Type 0 where
  pub noted : List Note
  pub posted : List (ℕ × Post)
  pub drawn : List ℕ
  pub goes : GoesOn v w noted posted
  pub draws : now ≡ first ++ drawn
  pub shift : IsShift v.base v.number in_round workers limit (length v.own.posts) noted posted drawn s

pub starts : (v : SeatView) (first : List ℕ) (in_round workers limit : ℕ) (s : WorkerShift) → IsShift v.base v.number in_round workers limit (length v.own.posts) [] [] [] s → IsGoing v v first first in_round workers limit s
starts v first in_round workers limit s h = record { noted = []; posted = []; drawn = []; goes = GoesOn-none v; draws = sym (append-nil first); shift = h }

pub more_going : (v w u : SeatView) (first now : List ℕ) (in_round workers limit n c : ℕ) (answer : AtAnswer) (old new : WorkerShift) (more : List Note) (posts : List (ℕ × Post))
    → c ≡ candidate_of workers v.base.formula.variables n → old.stopped ≡ None → IsGoing v w first now in_round workers limit old → GoesOn w u more posts → IsVisit w.base w.number c old.round limit (length w.own.posts) more posts answer → IsListing c answer old new
    → IsGoing v u first (now ++ n ∷ []) in_round workers limit new
more_going v w u first now in_round workers limit n c answer old new more posts is unstopped i go h l = record {
  noted = i.noted ++ more;
  posted = i.posted ++ posts;
  drawn = i.drawn ++ n ∷ [];
  goes = GoesOn-then v w u i.noted more i.posted posts i.goes go;
  draws = ap (λ (ns : List ℕ). ns ++ n ∷ []) i.draws ∙ append_assoc first i.drawn (n ∷ []);
  shift = visits-more v.base v.number in_round workers limit (length v.own.posts) i.noted more i.posted posts i.drawn n c answer old new is unstopped i.shift
      (subst (λ (f : Base). IsVisit f v.number c in_round limit (length v.own.posts + length i.posted) more posts answer) i.goes.base
      (subst (λ k. IsVisit w.base k c in_round limit (length v.own.posts + length i.posted) more posts answer) i.goes.number
      (subst (λ k. IsVisit w.base w.number c k limit (length v.own.posts + length i.posted) more posts answer) i.shift.round
      (subst (λ n. IsVisit w.base w.number c old.round limit n more posts answer) (ap length i.goes.posts ∙ length-append v.own.posts i.posted) h))))
      l;
}

pub draws-then : (u v w : View) → DrawsOnly u v → DrawsOnly v w → DrawsOnly u w
draws-then u v w g h = h ∙ ap (λ (z : View). record z { drawn = w.drawn; mine = record z.mine { end = w.mine.end } }) g
