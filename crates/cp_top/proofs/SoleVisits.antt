-- A visit by the only worker: its notes say that it met nobody, and what it got were the clauses and the journal of its own posts.
use Rattle.std.proofs.Common.{◌≡◌, ℕ, suc, ◌+◌, ◌<◌, ◌≤◌, List, [], ◌∷◌, ◌++◌, length, Option, Some, None, refl, sym, ◌∙◌, ap, subst, inl, inr, arith, append-nil, append_assoc, length-append}
use Rattle.std.specs.Prelude.{◌⊎◌, is_some}
use Rattle.std.specs.List.{All, Contains, enumerate_from}
use Rattle.std.proofs.lemmas.List.{length-map}
use Rattle.std.proofs.lemmas.List.Elements.{Contains-append_left, Contains-append_right}
use Rattle.cp_logic.specs.declared.named.Named.{Named}
use Rattle.cp_logic.specs.declared.stop.Stop.{Stop}
use Rattle.cp_logic.specs.Formulas.{neighbourhood}
use Rattle.cp_logic.specs.Entries.{numbered}
use Rattle.cp_logic.specs.Journals.{Post, IsLegalJournal}
use Rattle.cp_logic.specs.Locality.{after}
use Rattle.cp_logic.proofs.Members.{in_here}
use Rattle.cp_occ.specs.Cells.{CellView}
use Rattle.cp_hood.specs.Hoods.{HoodView, centre_clauses}
use Rattle.cp_worker.specs.declared.answer.AtAnswer.{AtAnswer}
use Rattle.cp_worker.specs.declared.answer.AtAnswer.TheVariants.{Settled, Busy, Wide, TurnHeld, Stopped}
use Rattle.cp_yard.specs.Views.{Base, Note, Got, GotTurn, Met, MetTurn}
use Rattle.cp_yard.specs.Rule.{IsPrefix, clauses_at}
use Rattle.cp_hood.specs.Seats.{met_turns}
use Rattle.cp_hood.specs.Tries.{IsCut, IsWhole, gots, other_cells}
use Rattle.cp_hood.specs.Commits.{left_by, GetsTurn, MeetsTurn}
use Rattle.cp_worker.specs.Visits.{turn_tries, IsPostOf, AreFound, clauses_after, EndsVisit, IsVisit, notes_of}
use Rattle.cp_worker.specs.Listing.{stop_of}
use Rattle.cp_top.proofs.Following.{prefix_through, prefixes_same}
use Rattle.cp_top.proofs.VisitSteps.{IsEnd, AreSteps, prefix_rest, steps_same}

-- a note of the only worker, whose posts are the journal w
abbrev pub IsSole : Base → List Post → Note → Type 0
IsSole f w (Got x cs n) = (j : List Post) × IsPrefix j w × (cs ≡ clauses_at f j x) × (length j ≡ n)
IsSole f w (GotTurn j) = IsPrefix j w
IsSole f w (Met x by) = ⊥
IsSole f w (MetTurn by) = ⊥

abbrev pub AreSole : Base → List Post → List Note → Type 0
AreSole f w notes = (n : Note) → Contains notes n → IsSole f w n

-- what a visit of x does after the posts h: nothing where its neighbourhood is above the limit, and else such steps
abbrev pub IsSoleVisit : Base → ℕ → ℕ → List Post → List Post → Option Stop → Type 0
IsSoleVisit f x limit h ps stop =
    ((limit < length (neighbourhood (clauses_at f h x) x)) × (ps ≡ []) × (stop ≡ None))
    ⊎ ((length (neighbourhood (clauses_at f h x) x) ≤ limit) × AreSteps f x (clauses_at f h x) h ps stop)

pub enumerate-none : (n : ℕ) (ps : List Post) → enumerate_from n ps ≡ [] → ps ≡ []
enumerate-none n [] e = refl
enumerate-none n (p ∷ ps) e = cc

module _ (f : Base) (w : List Post) where
  pub sole_front : (ns ms : List Note) → AreSole f w (ns ++ ms) → AreSole f w ns
  sole_front ns ms sole n i = sole n (Contains-append_left ns ms n i)

  pub sole_back : (ns ms : List Note) → AreSole f w (ns ++ ms) → AreSole f w ms
  sole_back ns ms sole n i = sole n (Contains-append_right ns ms n i)

  sole_last : (ns : List Note) (n : Note) → AreSole f w (ns ++ n ∷ []) → IsSole f w n
  sole_last ns n sole = sole n (Contains-append_right ns (n ∷ []) n (in_here n n [] refl))

  turn_got : (tries : ℕ) (notes : List Note) (j : List Post) → AreSole f w notes → GetsTurn tries notes j → IsPrefix j w
  turn_got tries notes j sole (met, few, is) = sole_last (met_turns met) (GotTurn j) (subst (AreSole f w) is sole)

  turn_met : (tries : ℕ) (notes : List Note) (by : ℕ) → AreSole f w notes → MeetsTurn tries notes by → ⊥
  turn_met tries notes by sole (met, few, is) = sole_last (met_turns met) (MetTurn by) (subst (AreSole f w) is sole)

  not_cut : (x limit n : ℕ) (notes : List Note) (var by : ℕ) → AreSole f w notes → IsCut x limit n notes var by → ⊥
  not_cut x limit n notes var by sole (inl (here, is)) = sole_last [] (Met x by) (subst (AreSole f w) is sole)
  not_cut x limit n notes var by sole (inr (cs, got, left, small, some, is)) = sole_last (Got x cs n ∷ gots n got) (Met var by) (subst (AreSole f w) is sole)

  -- the clauses that were got are those after the posts that there were
  got_now : (h : List Post) (x : ℕ) (cs : List Named) (n : ℕ) → IsPrefix h w → n ≡ length h → IsSole f w (Got x cs n) → cs ≡ clauses_at f h x
  got_now h x cs n front at (j, there, is, long) = is ∙ ap (λ l. clauses_at f l x) (prefixes_same j h w there front (long ∙ at))

  module _ (x : ℕ) where
    found_steps : (qs h : List Post) (n : ℕ) (cs : List Named) (noted : List Note) (stop : Option Stop) → n ≡ length h → IsPrefix (h ++ qs) w → AreSole f w noted
        → All (IsPostOf 1 1) (enumerate_from n qs) → AreFound f x cs (enumerate_from n qs) noted → IsEnd f x (clauses_after x cs (enumerate_from n qs)) (h ++ qs) stop
        → AreSteps f x cs h qs stop
    found_steps [] h n cs noted stop at front sole posts found end = subst (λ l. IsEnd f x cs l stop) (append-nil h) end
    found_steps (p ∷ ps) h n cs noted stop at front sole posts (j, turn, rest, is, got, found, more) end =
        let notes : AreSole f w (turn ++ rest) = subst (AreSole f w) is sole in
        let there = turn_got turn_tries turn j (sole_front turn rest notes) got in
        let same : j ≡ h = prefixes_same j h w there (prefix_through h (h ++ p ∷ ps) w (p ∷ ps, refl) front) (sym found.position ∙ at) in
        let own : IsPostOf 1 1 (n, p) = posts 0 (n, p) (omega arith) in
        let entry = found.entry ∙ ap (λ l. numbered (left_by f l).next found.found) same in (
          found.found,
          found.first,
          (λ i. record { worker = own.0 i; round = own.1 i; entry = entry i }),
          found_steps ps (h ++ p ∷ []) (n + 1) (after cs x p.entry) rest stop (omega (arith, length-append h (p ∷ []))) (prefix_rest h p ps w front) (sole_back turn rest notes)
              (λ k d low. posts (suc k) d (omega arith)) more (subst (λ l. IsEnd f x (clauses_after x (after cs x p.entry) (enumerate_from (n + 1) ps)) l stop) (sym (append_assoc h (p ∷ []) ps)) end),
        )

    -- posts that end so, at a variable that was got
    located : (h : List Post) (n limit : ℕ) (notes : List Note) (hood : HoodView) → IsPrefix h w → n ≡ length h → AreSole f w notes → IsWhole x limit n notes hood
        → (length (neighbourhood (clauses_at f h x) x) ≤ limit) × (centre_clauses hood ≡ clauses_at f h x)
    located h n limit notes hood front at sole whole =
        let cs = centre_clauses hood in
        let got : Contains notes (Got x cs n) = subst (λ ns. Contains ns (Got x cs n)) (sym whole.notes) (in_here (Got x cs n) (Got x cs n) (gots n (other_cells x hood.cells)) refl) in
        let now = got_now h x cs n front at (sole (Got x cs n) got) in
        let few : length hood.cells ≤ limit = whole.within in
        let long : length (neighbourhood (clauses_at f h x) x) ≡ length hood.cells =
        ap (λ ds. length (neighbourhood ds x)) (sym now) ∙ ap length (sym whole.variables) ∙ length-map hood.cells (λ (c : CellView). c.variable) in
        (omega arith, now)

    steps_located : (qs h : List Post) (n limit : ℕ) (last later : List Note) (answer : AtAnswer) (hood : HoodView) → n ≡ length h → IsPrefix (h ++ qs) w
        → AreSole f w (last ++ later) → IsWhole x limit n last hood → AreSteps f x (centre_clauses hood) h qs (stop_of answer) → IsSoleVisit f x limit h qs (stop_of answer)
    steps_located qs h n limit last later answer hood at front sole whole steps =
        let is = located h n limit last hood (prefix_through h (h ++ qs) w (qs, refl) front) at (sole_front last later sole) whole in
        inr (is.0, subst (λ cs. AreSteps f x cs h qs (stop_of answer)) is.1 steps)

    -- the last posts before the run stops are the last of all
    ends_sole : (answer : AtAnswer) (qs h : List Post) (n limit held : ℕ) (last later : List Note) → n ≡ length h → IsPrefix (h ++ qs) w
        → ((s : Stop) → stop_of answer ≡ Some s → h ++ qs ≡ w) → AreSole f w (last ++ later) → EndsVisit f 1 x 1 limit n held last later (enumerate_from n qs) answer
        → IsSoleVisit f x limit h qs (stop_of answer)
    ends_sole (Settled commits) qs h n limit held last later at front whole sole (hood, got, c) =
        steps_located qs h n limit last later (Settled commits) hood at front sole got
        (found_steps qs h n (centre_clauses hood) later None at front (sole_back last later sole) c.posts c.cause.0 (inl (c.cause.1, refl)))
    ends_sole (Busy var by) qs h n limit held last later at front whole sole (many, cut, none, nothing) = absurd (not_cut x limit n last var by (sole_front last later sole) cut)
    ends_sole (Wide count) qs h n limit held last later at front whole sole ((cs, is, counted, above), none, nothing) =
        let now = got_now h x cs n (prefix_through h (h ++ qs) w (qs, refl) front) at (sole_last [] (Got x cs n) (subst (AreSole f w) is (sole_front last later sole))) in
        let wide : limit < length (neighbourhood (clauses_at f h x) x) = subst (λ m. limit < m) (counted ∙ ap (λ ds. length (neighbourhood ds x)) now) above in
        inl (wide, enumerate-none n qs nothing, refl)
    ends_sole (TurnHeld by commits) qs h n limit held last later at front whole sole (hood, got, c) =
        absurd (turn_met turn_tries c.cause.2 by (sole_back c.cause.1 c.cause.2 (subst (AreSole f w) c.cause.3 (sole_back last later sole))) c.cause.5)
    ends_sole (Stopped stop commits) qs h n limit held last later at front whole sole (hood, got, c) =
        let (e, j, turns, turn, is, found, reached, current, gives, refused) = c.cause in
        let notes : AreSole f w (turns ++ turn) = subst (AreSole f w) is (sole_back last later sole) in
        let there = subst (IsPrefix j) (sym (whole stop refl)) (turn_got turn_tries turn j (sole_back turns turn notes) reached) in
        steps_located qs h n limit last later (Stopped stop commits) hood at front sole got
        (found_steps qs h n (centre_clauses hood) turns (Some stop) at front (sole_front turns turn notes) c.posts found (inr (e, stop, j, gives, refl, there, refused)))

    pub visit_sole : (answer : AtAnswer) (qs h : List Post) (n limit : ℕ) (noted : List Note) → n ≡ length h → IsPrefix (h ++ qs) w
        → ((s : Stop) → stop_of answer ≡ Some s → h ++ qs ≡ w) → AreSole f w noted → IsVisit f 1 x 1 limit n noted (enumerate_from n qs) answer
        → IsSoleVisit f x limit h qs (stop_of answer)
    visit_sole answer qs h n limit noted at front whole sole v =
        ends_sole answer qs h n limit (length v.held) v.last v.later at front whole (sole_back (notes_of v.held) (v.last ++ v.later) (subst (AreSole f w) v.notes sole)) v.ended

-- two runs with the same posts before do the same at x
pub visits_same : (f : Base) (w v : List Post) → IsLegalJournal f.formula f.rules w → IsLegalJournal f.formula f.rules v
    → (x limit : ℕ) (h ps qs : List Post) (stop more : Option Stop) → IsSoleVisit f x limit h ps stop → IsSoleVisit f x limit h qs more
    → IsPrefix (h ++ ps) w → IsPrefix (h ++ qs) v → (ps ≡ qs) × (is_some stop ≡ is_some more)
visits_same f w v wl vl x limit h ps qs stop more (inl (above, none, is)) (inl (wide, nil, too)) front second = (none ∙ sym nil, ap is_some (is ∙ sym too))
visits_same f w v wl vl x limit h ps qs stop more (inl (above, none, is)) (inr (within, steps)) front second = absurd (omega arith)
visits_same f w v wl vl x limit h ps qs stop more (inr (within, steps)) (inl (above, none, is)) front second = absurd (omega arith)
visits_same f w v wl vl x limit h ps qs stop more (inr (within, steps)) (inr (small, other)) front second =
    steps_same f x w v wl vl ps qs (clauses_at f h x) h stop more steps other front second
