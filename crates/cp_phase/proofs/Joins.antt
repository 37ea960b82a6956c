-- Seats and claim seats that take in others.
use Rattle.std.proofs.Common.{◌≡◌, ◌≢◌, ℕ, zero, suc, ◌+◌, ◌<◌, Bool, true, false, ◌||◌, MatchBool, Option, is_some, List, [], ◌∷◌, ◌++◌, length, map, flat_map, slice_get, Some, None, All, Contains, refl, sym, ap, subst, ◌∙◌, ⊎_elim, arith, append-nil, append_assoc, length-append}
use Rattle.std.proofs.lemmas.List.Elements.{All-cons, All-push, Contains-append_right}
use Rattle.std.proofs.lemmas.Option.{slice_get_within}
use Rattle.cp_logic.proofs.Members.{at_place, in_here, in_later, in_flat_map}
use Rattle.cp_yard.specs.Views.{Base, SeatView, Share, all_shares, joined, child, times}
use Rattle.cp_yard.specs.Rule.{IsAlone, Account}
use Rattle.cp_yard.specs.Sitting.{Sitting, YardView}
use Rattle.cp_yard.proofs.Lists.{times_in}
use Rattle.cp_logic.specs.Journals.{Post, posts_of}
use Rattle.cp_logic.specs.declared.stop.Stop.{Stop}
use Rattle.cp_hood.specs.Hoods.{IsIdle}
use Rattle.cp_claim.specs.Views.{Counter}
use Rattle.cp_claim.specs.Views as claims
use Rattle.cp_worker.specs.declared.lists.WorkerShift.{WorkerShift}
use Rattle.cp_phase.specs.declared.team.Member.{Member}
use Rattle.cp_phase.specs.Rounds.{NoneStopped, OneStopped, IsFirstSeat}
use Rattle.cp_phase.specs.Teams.{IsSeatOf, AreSeats, IsNew, AreNew, joined_all, founder_of, claim_of, members_from, claims_joined}
use Rattle.cp_phase.proofs.Lists.{at_end, at_front, at_back, some_at}

-- ---- seats

pub seats_more : (y : YardView) (seats : List Sitting) (s : Sitting) → AreSeats y seats → IsSeatOf y (length seats) s → AreSeats y (seats ++ s ∷ [])
seats_more y seats s old new i t at = ⊎_elim (λ front. old i t front) (λ (e : (i ≡ length seats) × (s ≡ t)). subst (λ (z : ℕ × Sitting). IsSeatOf y z.0 z.1) (λ k. (sym e.0 k, e.1 k)) new) (at_end seats s t i at)

pub new_more : (seats : List Sitting) (s : Sitting) → AreNew seats → IsNew s → AreNew (seats ++ s ∷ [])
new_more seats s old new i t at = ⊎_elim (λ front. old i t front) (λ (e : (i ≡ length seats) × (s ≡ t)). subst IsNew e.1 new) (at_end seats s t i at)

-- a seat that another may take in
pub record IsOut (y : YardView) (s : Sitting) : Type 0 where
  pub table : s.table ≡ y.table
  pub base : s.view.base ≡ y.base
  pub number : s.view.number ≢ 0
  pub idle : IsIdle s.view

pub out_from : (y : YardView) (k : ℕ) (seats : List Sitting) → ((i : ℕ) (s : Sitting) → slice_get seats i ≡ Some s → IsSeatOf y (k + i) s) → All (IsOut y) seats
out_from y k [] each = λ i d low. absurd (omega arith)
out_from y k (s ∷ ss) each =
    let one = each 0 s refl in
    All-cons (IsOut y) s ss (record { table = one.table; base = one.base; number = (λ e. let n = one.number in omega arith); idle = one.idle })
    (out_from y (k + 1) ss (λ i t at. subst (λ (n : ℕ). IsSeatOf y n t) (let e : k + suc i ≡ k + 1 + i = omega arith in e) (each (suc i) t at)))

pub all_out : (y : YardView) (seats : List Sitting) → AreSeats y seats → All (IsOut y) seats
all_out y seats each = out_from y 0 seats (λ i s at. subst (λ (n : ℕ). IsSeatOf y n s) (let e : i ≡ 0 + i = omega arith in e) (each i s at))

abbrev pub shares_of_all : List Sitting → List Share
shares_of_all seats = flat_map (λ s. all_shares s.view) seats

pub joined_all-is : (v : SeatView) (seats : List Sitting) → joined_all v seats ≡ record v { others = v.others ++ shares_of_all seats }
joined_all-is v [] = sym (λ i. record v { others = append-nil v.others i })
joined_all-is v (s ∷ ss) = joined_all-is (joined v s.view) ss ∙ (λ i. record v { others = append_assoc v.others (all_shares s.view) (shares_of_all ss) i })

pub own_of_all : (seats : List Sitting) (i : ℕ) (s : Sitting) → slice_get seats i ≡ Some s → Contains (shares_of_all seats) s.view.own
own_of_all seats i s at = in_flat_map (λ (t : Sitting). all_shares t.view) seats s s.view.own (at_place seats i s at) (in_here s.view.own s.view.own s.view.others refl)

-- ---- claim seats

abbrev pub drawn_of_all : List Member → List ℕ
drawn_of_all ms = flat_map (λ m. m.claim.view.drawn) ms

abbrev pub claim_shares : List Member → List claims.Share
claim_shares ms = flat_map (λ m. claims.all_shares m.claim.view) ms

pub claims_joined-is : (v : claims.View) (ms : List Member) → claims_joined v ms ≡ record v { drawn = v.drawn ++ drawn_of_all ms; others = v.others ++ claim_shares ms }
claims_joined-is v [] = sym (λ i. record v { drawn = append-nil v.drawn i; others = append-nil v.others i })
claims_joined-is v (m ∷ ms) =
    claims_joined-is (claims.joined v m.claim.view) ms
    ∙ (λ i. record v { drawn = append_assoc v.drawn m.claim.view.drawn (drawn_of_all ms) i; others = append_assoc v.others (claims.all_shares m.claim.view) (claim_shares ms) i })

-- ---- new seats

pub child_is : (y : YardView) (v : SeatView) (s : Sitting) (k : ℕ) → v.base ≡ y.base → v.made ≡ k + 1 → s.table ≡ y.table → s.view ≡ child v → IsSeatOf y k s
child_is y v s k base made table is = record {
  table = table;
  base = ap (λ z. z.base) is ∙ base;
  number = ap (λ z. z.number) is ∙ made;
  own = ap (λ z. z.own.number) is ∙ made;
  others = ap (λ z. z.others) is;
  idle = record { turn = ap (λ z. z.turn) is; held = ap (λ z. z.held) is };
}

pub child_new : (v : SeatView) (s : Sitting) → s.view ≡ child v → IsNew s
child_new v s is = record { posts = ap (λ z. z.own.posts) is; notes = ap (λ z. z.own.notes) is }

pub seats_next : (y : YardView) (old new : List Sitting) (s : Sitting) (k : ℕ) → new ≡ old ++ s ∷ [] → length old ≡ k → AreSeats y old → IsSeatOf y k s → AreSeats y new
seats_next y old new s k e n are is = subst (AreSeats y) (sym e) (seats_more y old s are (subst (λ (j : ℕ). IsSeatOf y j s) (sym n) is))

pub new_next : (old new : List Sitting) (s : Sitting) → new ≡ old ++ s ∷ [] → AreNew old → IsNew s → AreNew new
new_next old new s e are is = subst AreNew (sym e) (new_more old s are is)

-- ---- members

pub member_is : (c : Counter) (v : claims.View) (s : Sitting) (claim : claims.Sitting) (k : ℕ) → v ≡ founder_of c.limit k → claim.counter ≡ c → claim.view ≡ claims.child v
    → ◌≡◌ {A = Member} (record { seat = s; claim = claim; shift = None }) (record { seat = s; claim = claim_of c k; shift = None })
member_is c v s claim k made counter view = λ i. record { seat = s; claim = record { counter = counter i; view = (view ∙ ap claims.child made) i }; shift = None }

pub members_more : (c : Counter) (old new : List Member) (s : Sitting) (m : Member) (rest items : List Sitting) (all : List Member) → new ≡ old ++ m ∷ [] → m ≡ record { seat = s; claim = claim_of c (length old + 1); shift = None }
    → items ≡ s ∷ rest → old ++ members_from c (length old + 1) items ≡ all → new ++ members_from c (length new + 1) rest ≡ all
members_more c old new s m rest items all e is left h =
    let long : length new ≡ length old + 1 = ap length e ∙ length-append old (m ∷ []) in
    let n : length new + 1 ≡ length old + 1 + 1 = omega arith in
    (λ i. e i ++ members_from c (n i) rest)
    ∙ (append_assoc old (m ∷ []) (members_from c (length old + 1 + 1) rest)
    ∙ (ap (λ (z : Member). old ++ z ∷ members_from c (length old + 1 + 1) rest) is
    ∙ (ap (λ l. old ++ members_from c (length old + 1) l) (sym left) ∙ h)))

-- ---- members taken apart

pub seat_more : (old new : List Sitting) (m : Member) (rest items : List Member) (all : List Sitting) → new ≡ old ++ m.seat ∷ [] → items ≡ m ∷ rest → old ++ map (λ z. z.seat) items ≡ all → new ++ map (λ z. z.seat) rest ≡ all
seat_more old new m rest items all e left h =
    ap (λ l. l ++ map (λ z. z.seat) rest) e ∙ (append_assoc old (m.seat ∷ []) (map (λ z. z.seat) rest) ∙ (ap (λ l. old ++ map (λ z. z.seat) l) (sym left) ∙ h))

map_more : (ss : List WorkerShift) (s : WorkerShift) (rest : List (Option WorkerShift)) → map Some (ss ++ s ∷ []) ++ rest ≡ map Some ss ++ Some s ∷ rest
map_more [] s rest = refl
map_more (t ∷ ts) s rest = ap (λ l. Some t ∷ l) (map_more ts s rest)

pub shift_more : (ss : List WorkerShift) (s : WorkerShift) (m : Member) (rest items : List Member) (all : List (Option WorkerShift)) → m.shift ≡ Some s → items ≡ m ∷ rest
    → map Some ss ++ map (λ z. z.shift) items ≡ all → map Some (ss ++ s ∷ []) ++ map (λ z. z.shift) rest ≡ all
shift_more ss s m rest items all is left h =
    map_more ss s (map (λ z. z.shift) rest)
    ∙ (ap (λ (o : Option WorkerShift). map Some ss ++ o ∷ map (λ z. z.shift) rest) (sym is) ∙ (ap (λ l. map Some ss ++ map (λ z. z.shift) l) (sym left) ∙ h))

pub stopped_more : (b : Bool) (ss : List WorkerShift) (s : WorkerShift) → MatchBool b (OneStopped ss) (NoneStopped ss) → MatchBool (b || is_some s.stopped) (OneStopped (ss ++ s ∷ [])) (NoneStopped (ss ++ s ∷ []))
stopped_more true ss s h = let at : slice_get (ss ++ s ∷ []) h.0 ≡ Some h.1 = at_front ss (s ∷ []) h.0 (slice_get_within ss h.0 h.1 h.3) ∙ h.3 in (h.0, h.1, h.2, at, h.4)
stopped_more false ss s h = go s.stopped refl
  where
    go : (o : Option Stop) → s.stopped ≡ o → MatchBool (is_some s.stopped) (OneStopped (ss ++ s ∷ [])) (NoneStopped (ss ++ s ∷ []))
    go None e = subst (λ (o : Option Stop). MatchBool (is_some o) (OneStopped (ss ++ s ∷ [])) (NoneStopped (ss ++ s ∷ []))) (sym e) (All-push (λ (t : WorkerShift). t.stopped ≡ None) ss s h e)
    go (Some stop) e = subst (λ (o : Option Stop). MatchBool (is_some o) (OneStopped (ss ++ s ∷ [])) (NoneStopped (ss ++ s ∷ []))) (sym e)
        (length ss, s, stop, at_back ss (s ∷ []) 0 (length ss) (omega arith), e)

-- ---- the first seat at the end

pub joined_is : (u v w : SeatView) (seats : List Sitting) (made : ℕ) → v ≡ record u { made = made } → w ≡ joined_all v seats → w ≡ record u { made = made; others = u.others ++ shares_of_all seats }
joined_is u v w seats made e f = f ∙ (ap (λ (z : SeatView). joined_all z seats) e ∙ joined_all-is (record u { made = made }) seats)

pub alone_is : (y : YardView) (u w : SeatView) (seats : List Sitting) (n : ℕ) → IsFirstSeat u → AreSeats y seats → length seats ≡ n → w ≡ record u { made = n + 1; others = u.others ++ shares_of_all seats } → IsAlone w
alone_is y u w seats n first are long e = subst IsAlone (sym e) (first.number, first.idle.held, first.idle.turn, each)
  where
    each : (k : ℕ) → k < n + 1 → 0 < times k (u.own ∷ (u.others ++ shares_of_all seats))
    each zero low = times_in 0 u.own (u.own ∷ (u.others ++ shares_of_all seats)) (in_here u.own u.own (u.others ++ shares_of_all seats) refl) first.own
    each (suc k) low = let s = some_at seats k (omega arith) in let own = (are k s.0 s.1).own in
        times_in (suc k) s.0.view.own (u.own ∷ (u.others ++ shares_of_all seats)) (in_later s.0.view.own u.own (u.others ++ shares_of_all seats) (Contains-append_right u.others (shares_of_all seats) s.0.view.own (own_of_all seats k s.0 s.1)))
        (own ∙ (let m : k + 1 ≡ suc k = omega arith in m))

-- each seat's share is one of those at the end, with the posts of its number
pub own_shares : (y : YardView) (u w : SeatView) (seats : List Sitting) (made count : ℕ) (f : Base) (h : List Post) → AreSeats y seats → w ≡ record u { made = made; others = u.others ++ shares_of_all seats } → Account f h (all_shares w) count
    → (i : ℕ) (s : Sitting) → slice_get seats i ≡ Some s → (s.view.own.posts ≡ posts_of h (i + 1)) × Contains (all_shares w) s.view.own
own_shares y u w seats made count f h are e a i s at =
    let there : Contains (all_shares w) s.view.own = subst (λ (z : SeatView). Contains (all_shares z) s.view.own) (sym e) (in_later s.view.own u.own (u.others ++ shares_of_all seats) (Contains-append_right u.others (shares_of_all seats) s.view.own (own_of_all seats i s at))) in
    ((a.each_share s.view.own there).0 ∙ ap (posts_of h) (are i s at).own, there)
