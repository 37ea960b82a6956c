-- A visit, commit by commit.
use Rattle.std.proofs.Common.{◌≡◌, ◌<◌, ℕ, ◌+◌, List, [], ◌∷◌, ◌++◌, length, append_assoc, append-nil, Option, Some, None, inl, inr, refl, sym, ◌∙◌, ap, subst}
use Rattle.std.specs.Prelude.{IsTrue, Result, IfOk}
use Rattle.std.specs.List.{All}
use Rattle.std.proofs.lemmas.List.{map-append}
use Rattle.std.proofs.lemmas.Grind.{flat_map-append}
use Rattle.std.proofs.lemmas.List.Elements.{All-nil, All-cons, All-append, All-push, All-same}
use Rattle.std.proofs.lemmas.Result.{IfOk-weaker}
use Rattle.cp_logic.specs.declared.named.Named.{Named}
use Rattle.cp_logic.specs.declared.settings.Rules.{Rules}
use Rattle.cp_logic.specs.declared.stop.Stop.TheVariants.{Spent as ForBudget, Numbers as ForNumbers, Refuted as ForRefutation}
use Rattle.cp_logic.specs.Lists.{Roomy}
use Rattle.cp_logic.specs.Formulas.{neighbourhood}
use Rattle.cp_logic.specs.Entries.{Entry, is_at, numbered}
use Rattle.cp_logic.specs.Legality.{first_in}
use Rattle.cp_logic.specs.Journals.{Post}
use Rattle.cp_logic.specs.Locality.{after}
use Rattle.cp_yard.specs.Views.{Base, Note, Got, GotTurn, Met, MetTurn, SeatView}
use Rattle.cp_yard.specs.Rule.{clauses_at}
use Rattle.cp_hood.specs.Hoods.{HoodView, centre_clauses}
use Rattle.cp_hood.specs.Seats.{GoesOn, EndWith, met_turns}
use Rattle.cp_hood.specs.Commits.{left_by, post_after, GetsTurn, IsSameHood, IsCurrent}
use Rattle.cp_hood.proofs.Going.{GoesOn-none, GoesOn-then}
use Rattle.cp_hood.specs.Tries.{IsWhole, IsCut, IsTooWide, gots, other_cells}
use Rattle.cp_hood.specs.declared.answers.CommitAnswer.{CommitAnswer}
use Rattle.cp_hood.specs.declared.answers.CommitAnswer.TheVariants.{TurnHeld, Refuted, Spent, Numbers}
use Rattle.cp_worker.specs.declared.answer.AtAnswer.{AtAnswer}
use Rattle.cp_worker.specs.declared.answer.AtAnswer.TheVariants.{Settled, Busy, Wide, TurnHeld as Late, Stopped}
use Rattle.cp_worker.specs.Visits.{positions, commits_of, clauses_after, hood_tries, turn_tries, IsPostOf, IsFound, AreFound, AreCommits, IsHeld, notes_of, EndsLocked, EndsVisit, IsVisit}
use Rattle.cp_worker.specs.Shifts.{Gives, IsSettled, EndsStopped}
use Rattle.cp_worker.specs.Posting.{HasPosted, IsRefusal, IsCauseOf}
use Rattle.cp_worker.proofs.Centres.{posted-at, centre-after}

-- a visit of x under way: what was noted and posted; the posts are listed, and the clauses of x are those after them
pub record IsUnderWay (v w : SeatView) (x in_round : ℕ) (cs now : List Named) (listed : List ℕ) : Type 0 where
  pub noted : List Note
  pub posted : List (ℕ × Post)
  pub goes : GoesOn v w noted posted
  pub commits : listed ≡ positions posted
  pub posts : All (IsPostOf v.number in_round) posted
  pub at : All (λ q. IsTrue (is_at x q.1.entry)) posted
  pub clauses : now ≡ clauses_after x cs posted
  pub each : AreFound v.base x cs posted noted

pub begins : (v : SeatView) (x in_round : ℕ) (cs : List Named) (listed : List ℕ) → listed ≡ [] → IsUnderWay v v x in_round cs cs listed
begins v x in_round cs listed e = record {
  noted = [];
  posted = [];
  goes = GoesOn-none v;
  commits = e;
  posts = All-nil (IsPostOf v.number in_round);
  at = All-nil (λ (q : ℕ × Post). IsTrue (is_at x q.1.entry));
  clauses = refl;
  each = refl;
}

clauses_after-more : (x : ℕ) (cs : List Named) (ps qs : List (ℕ × Post)) → clauses_after x cs (ps ++ qs) ≡ clauses_after x (clauses_after x cs ps) qs
clauses_after-more x cs [] qs = refl
clauses_after-more x cs (p ∷ ps) qs = clauses_after-more x (after cs x p.1.entry) ps qs

-- one post more, for which the turn was got
found-more : (f : Base) (x : ℕ) (cs : List Named) (posted : List (ℕ × Post)) (q : ℕ × Post) (turns row : List Note) (h : List Post) → AreFound f x cs posted turns → GetsTurn turn_tries row h
    → IsFound f x (clauses_after x cs posted) h q → AreFound f x cs (posted ++ q ∷ []) (turns ++ row)
found-more f x cs [] q turns row h e g n = (h, row, [], ap (λ (ns : List Note). ns ++ row) e ∙ sym (append-nil row), g, n, refl)
found-more f x cs (p ∷ ps) q turns row h (j, first, rest, e, g, n, more) k m =
    (j, first, rest ++ row, ap (λ (ns : List Note). ns ++ row) e ∙ append_assoc first rest row, g, n, found-more f x (after cs x p.1.entry) ps q rest row h more k m)

-- one commit more
pub goes_on : (v w u : SeatView) (x in_round : ℕ) (cs : List Named) (rules : Rules) (old new : HoodView) (e : Entry) (listed now : List ℕ) (noted : List Note) (posted : List (ℕ × Post))
    → old.centre ≡ x → rules ≡ v.base.rules → first_in (centre_clauses old) rules 1 old.centre ≡ Some e → IsUnderWay v w x in_round cs (centre_clauses old) listed
    → GoesOn w u noted posted → HasPosted w.base w.number in_round e old new listed now noted posted → IsUnderWay v u x in_round cs (centre_clauses new) now
goes_on v w u x in_round cs rules old new e listed now noted posted at same found way go p =
    let n = (left_by w.base p.before).next in
    let q : ℕ × Post = (length p.before, post_after w.base p.before w.number in_round e) in
    let searched : first_in (clauses_after x cs way.posted) v.base.rules 1 x ≡ Some e = ap (λ (ds : List Named). first_in ds v.base.rules 1 x) (sym way.clauses)
    ∙ ap (λ z. first_in (centre_clauses old) v.base.rules 1 z) (sym at) ∙ ap (λ (z : Rules). first_in (centre_clauses old) z 1 old.centre) (sym same) ∙ found in
    let is_at_x : is_at x (numbered n e) ≡ _ = subst (λ z. IsTrue (is_at z (numbered n e))) at (posted-at rules n e old new found p.hood) in
    record {
      noted = way.noted ++ noted;
      posted = way.posted ++ q ∷ [];
      goes = GoesOn-then v w u way.noted noted way.posted (q ∷ []) way.goes (subst (GoesOn w u noted) p.post go);
      commits = p.position ∙ ap (λ (ns : List ℕ). ns ++ length p.before ∷ []) way.commits ∙ sym (map-append (λ (z : ℕ × Post). z.0) way.posted (q ∷ []));
      posts = All-append (IsPostOf v.number in_round) way.posted (q ∷ []) way.posts (All-cons (IsPostOf v.number in_round) q [] (way.goes.number, refl) (All-nil (IsPostOf v.number in_round)));
      at = All-append (λ (z : ℕ × Post). IsTrue (is_at x z.1.entry)) way.posted (q ∷ []) way.at
          (All-cons (λ (z : ℕ × Post). IsTrue (is_at x z.1.entry)) q [] is_at_x (All-nil (λ (z : ℕ × Post). IsTrue (is_at x z.1.entry))));
      clauses = centre-after rules n e old new found p.hood ∙ ap (λ (ds : List Named). after ds old.centre (numbered n e)) way.clauses
          ∙ ap (λ z. after (clauses_after x cs way.posted) z (numbered n e)) at ∙ sym (clauses_after-more x cs way.posted (q ∷ []));
      each = found-more v.base x cs way.posted q way.noted noted p.before way.each p.turn (record {
        position = refl;
        clauses = sym way.clauses ∙ p.current ∙ ap (λ (f : Base). clauses_at f p.before old.centre) way.goes.base ∙ ap (clauses_at v.base p.before) at;
        found = e;
        first = searched;
        entry = ap (λ (f : Base). numbered (left_by f p.before).next e) way.goes.base;
      });
    }

-- where nothing applies at last
pub settles : (v w : SeatView) (x in_round : ℕ) (cs now : List Named) (commits : Roomy ℕ) (way : IsUnderWay v w x in_round cs now commits.items)
    → first_in now v.base.rules 1 x ≡ None → AreCommits v.base v.number x in_round cs way.noted way.posted (Settled commits)
settles v w x in_round cs now commits way none = record {
  commits = way.commits;
  posts = way.posts;
  at = way.at;
  cause = (way.each, ap (λ (ds : List Named). first_in ds v.base.rules 1 x) (sym way.clauses) ∙ none);
}

-- ---- a refusal

pub EndWith-later : (n : Note) (before noted : List Note) → EndWith n noted → EndWith n (before ++ noted)
EndWith-later n before noted (first, e) = (before ++ first, ap (λ (ns : List Note). before ++ ns) e ∙ sym (append_assoc before first (n ∷ [])))

-- where an entry is refused at last
pub refuses : (v w : SeatView) (x in_round : ℕ) (cs now : List Named) (listed : List ℕ) (noted : List Note) (way : IsUnderWay v w x in_round cs now listed)
    (e : Entry) (a : CommitAnswer) (answer : AtAnswer) → first_in now v.base.rules 1 x ≡ Some e → IsRefusal w.base x now e noted a → commits_of answer ≡ listed → IsCauseOf a answer
    → AreCommits v.base v.number x in_round cs (way.noted ++ noted) way.posted answer
refuses v w x in_round cs now listed noted way e a answer found r lists cause = record {
  commits = lists ∙ way.commits;
  posts = way.posts;
  at = way.at;
  cause = cause v.base x cs e way.noted noted way.posted way.each (ap (λ (ds : List Named). first_in ds v.base.rules 1 x) (sym way.clauses) ∙ found)
      (subst (λ (f : Base). IsRefusal f x (clauses_after x cs way.posted) e noted a) way.goes.base (subst (λ (ds : List Named). IsRefusal w.base x ds e noted a) way.clauses r));
}

-- each refusal of an entry, as a cause
pub caused-late : (by : ℕ) (commits : Roomy ℕ) → IsCauseOf (TurnHeld by) (Late by commits)
caused-late by commits f x cs e turns last posted all found r = (e, turns, last, refl, all, r, found)

pub caused-refuted : (empty : ℕ) (commits : Roomy ℕ) → IsCauseOf (Refuted empty) (Stopped ForRefutation commits)
caused-refuted empty commits f x cs e turns last posted all found (h, r, same, stop) = (e, h, turns, last, refl, all, r, same, found, stop)

pub caused-spent : (len : ℕ) (commits : Roomy ℕ) → IsCauseOf (Spent len) (Stopped ForBudget commits)
caused-spent len commits f x cs e turns last posted all found (h, r, same, stop) = (e, h, turns, last, refl, all, r, same, found, stop)

pub caused-numbers : (next : ℕ) (commits : Roomy ℕ) → IsCauseOf (Numbers next) (Stopped ForNumbers commits)
caused-numbers next commits f x cs e turns last posted all found (h, r, same, stop) = (e, h, turns, last, refl, all, r, same, found, stop)

pub refused-goes : (v w u : SeatView) (x in_round : ℕ) (cs now : List Named) (listed : List ℕ) (noted : List Note) (posted : List (ℕ × Post)) (way : IsUnderWay v w x in_round cs now listed)
    → GoesOn w u noted posted → posted ≡ [] → GoesOn v u (way.noted ++ noted) way.posted
refused-goes v w u x in_round cs now listed noted posted way go e =
    subst (GoesOn v u (way.noted ++ noted)) (ap (λ (ps : List (ℕ × Post)). way.posted ++ ps) e ∙ append-nil way.posted) (GoesOn-then v w u way.noted noted way.posted posted way.goes go)

-- a hood that is prepared keeps the clauses of its centre
pub current-same : (f : Base) (h : List Post) (old between : HoodView) → IsSameHood old between → IsCurrent f h between → IsCurrent f h old
current-same f h old between s c = sym s.clauses ∙ c ∙ ap (clauses_at f h) s.centre

-- ---- a whole visit

-- a try of the neighbourhood posts nothing
pub unposted : (v w : SeatView) (noted : List Note) → GoesOn v w noted [] → length w.own.posts ≡ length v.own.posts
unposted v w noted go = ap length (go.posts ∙ append-nil v.own.posts)

-- one try more, which met a held lock
pub tried_again : (u v w : SeatView) (x limit before : ℕ) (held : List (List Note)) (notes : List Note) (var by : ℕ) → All (IsHeld x limit before) held → GoesOn u v (notes_of held) [] → GoesOn v w notes [] → IsCut x limit before notes var by
    → All (IsHeld x limit before) (held ++ notes ∷ []) × GoesOn u w (notes_of (held ++ notes ∷ [])) []
tried_again u v w x limit before held notes var by all g h cut = (
  All-push (IsHeld x limit before) held notes all (var, by, cut),
  subst (λ (ns : List Note). GoesOn u w ns []) (ap (λ (ns : List Note). notes_of held ++ ns) (sym (append-nil notes)) ∙ sym (flat_map-append (λ (t : List Note). t) held (notes ∷ [])))
      (GoesOn-then u v w (notes_of held) notes [] [] g h),
)

module _ (f : Base) (number x in_round limit before : ℕ) (held : List (List Note)) (last : List Note) (few : length held < hood_tries) (each : All (IsHeld x limit before) held) where
  -- the whole neighbourhood was got
  visit-locked : (noted : List Note) (posted : List (ℕ × Post)) (answer : AtAnswer) → EndsLocked f number x in_round limit before last noted posted answer → EndsVisit f number x in_round limit before (length held) last noted posted answer
  visit-locked noted posted (Settled commits) h = h
  visit-locked noted posted (Busy var by) h = absurd (h.2.cause)
  visit-locked noted posted (Wide count) h = absurd (h.2.cause)
  visit-locked noted posted (Late by commits) h = h
  visit-locked noted posted (Stopped stop commits) h = h

  pub visit-of : (noted : List Note) (posted : List (ℕ × Post)) (answer : AtAnswer) → EndsLocked f number x in_round limit before last noted posted answer
      → IsVisit f number x in_round limit before ((notes_of held ++ last) ++ noted) posted answer
  visit-of noted posted answer h = record {
    held = held;
    last = last;
    later = noted;
    notes = append_assoc (notes_of held) last noted;
    few = few;
    each = each;
    ended = visit-locked noted posted answer h;
  }

  notes-are : notes_of held ++ last ≡ notes_of held ++ (last ++ [])
  notes-are = ap (λ (ns : List Note). notes_of held ++ ns) (sym (append-nil last))

  pub visit-busy : (var by : ℕ) → length held + 1 ≡ hood_tries → IsCut x limit before last var by → IsVisit f number x in_round limit before (notes_of held ++ last) [] (Busy var by)
  visit-busy var by enough cut = record { held = held; last = last; later = []; notes = notes-are; few = few; each = each; ended = (enough, cut, refl, refl) }

  pub visit-wide : (count : ℕ) → IsTooWide x limit before last count → IsVisit f number x in_round limit before (notes_of held ++ last) [] (Wide count)
  visit-wide count wide = record { held = held; last = last; later = []; notes = notes-are; few = few; each = each; ended = (wide, refl, refl) }

pub visited : (v w : SeatView) (x in_round limit before : ℕ) (held : List (List Note)) (last noted : List Note) (posted : List (ℕ × Post)) (h : HoodView) {E : Type 0} (r : Result AtAnswer E)
    → GoesOn v w (notes_of held ++ last) [] → length held < hood_tries → All (IsHeld x limit before) held → IsWhole x limit before last h
    → IfOk r (AreCommits w.base w.number h.centre in_round (centre_clauses h) noted posted)
    → IfOk r (IsVisit v.base v.number x in_round limit before ((notes_of held ++ last) ++ noted) posted)
visited v w x in_round limit before held last noted posted h r go few each whole under =
    let cs = centre_clauses h in
    IfOk-weaker r (AreCommits w.base w.number h.centre in_round cs noted posted) (IsVisit v.base v.number x in_round limit before ((notes_of held ++ last) ++ noted) posted)
    (λ a c. visit-of v.base v.number x in_round limit before held last few each noted posted a (
      h,
      whole,
      subst (λ (z : Base × (ℕ × ℕ)). AreCommits z.0 z.1.0 z.1.1 in_round cs noted posted a) (λ i. (go.base i, (go.number i, whole.centre i))) c,
    ))
    under

-- ---- what a shift needs of a visit

cut-end : (x limit before : ℕ) (notes : List Note) (var by : ℕ) → IsCut x limit before notes var by → EndWith (Met var by) notes
cut-end x limit before notes var by (inl (e, n)) = ([], n ∙ ap (λ z. Met z by ∷ []) (sym e))
cut-end x limit before notes var by (inr (cs, got, left, within, order, n)) = (Got x cs before ∷ gots before got, n)

-- the cause of its end, among its notes
abbrev pub IsSeen : Base → ℕ → ℕ → List Note → List (ℕ × Post) → AtAnswer → Type 0
IsSeen f x limit noted posted (Settled commits) = IsSettled f x noted posted
IsSeen f x limit noted posted (Busy var by) = EndWith (Met var by) noted
IsSeen f x limit noted posted (Wide count) = (cs : List Named) × (n : ℕ) × EndWith (Got x cs n) noted × (count ≡ length (neighbourhood cs x)) × (limit < count)
IsSeen f x limit noted posted (Late by commits) = EndWith (MetTurn by) noted
IsSeen f x limit noted posted (Stopped stop commits) = EndsStopped f x noted posted stop

module _ (f : Base) (number x in_round limit before : ℕ) (noted : List Note) (posted : List (ℕ × Post)) where
  abbrev Front : AtAnswer → Type 0
  Front answer = IsVisit f number x in_round limit before noted posted answer

  ends : (answer : AtAnswer) (v : Front answer) (n : Note) (turns last : List Note) → v.later ≡ turns ++ last → EndWith n last → EndWith n noted
  ends answer v n turns last e w = subst (EndWith n) (sym v.notes)
      (EndWith-later n (notes_of v.held) (v.last ++ v.later) (EndWith-later n v.last v.later (subst (EndWith n) (sym e) (EndWith-later n turns last w))))

  ends-last : (answer : AtAnswer) (v : Front answer) (n : Note) → v.later ≡ [] → EndWith n v.last → EndWith n noted
  ends-last answer v n e w = subst (EndWith n) (sym (v.notes ∙ ap (λ (ns : List Note). notes_of v.held ++ ns) (ap (λ (ns : List Note). v.last ++ ns) e ∙ append-nil v.last)))
      (EndWith-later n (notes_of v.held) v.last w)

  gives : (answer : AtAnswer) (v : Front answer) (h : HoodView) (o : Option Entry) → IsWhole x limit before v.last h → first_in (clauses_after x (centre_clauses h) posted) f.rules 1 x ≡ o → Gives f x noted posted o
  gives answer v h o whole found =
      (notes_of v.held, centre_clauses h, before, gots before (other_cells x h.cells) ++ v.later, v.notes ∙ ap (λ (ns : List Note). notes_of v.held ++ (ns ++ v.later)) whole.notes, found)

  pub seen : (answer : AtAnswer) → Front answer → IsSeen f x limit noted posted answer
  seen (Settled commits) v = let (h, whole, c) = v.ended in gives (Settled commits) v h None whole c.cause.1
  seen (Busy var by) v = ends-last (Busy var by) v (Met var by) v.ended.2 (cut-end x limit before v.last var by v.ended.1)
  seen (Wide count) v = let (cs, n, e, l) = v.ended.0 in (cs, before, ends-last (Wide count) v (Got x cs before) v.ended.1 ([], n), e, l)
  seen (Late by commits) v = let (h, whole, c) = v.ended in let (e, turns, last, n, all, t, found) = c.cause in
      ends (Late by commits) v (MetTurn by) turns last n (met_turns t.0, t.2)
  seen (Stopped stop commits) v = let (h, whole, c) = v.ended in let (e, j, turns, last, n, all, t, same, found, refused) = c.cause in
      (j, e, ends (Stopped stop commits) v (GotTurn j) turns last n (met_turns t.0, t.2), gives (Stopped stop commits) v h (Some e) whole found, refused)

  pub commits_are : (answer : AtAnswer) → Front answer → commits_of answer ≡ positions posted
  commits_are (Settled commits) v = v.ended.2.commits
  commits_are (Busy var by) v = sym (ap positions v.ended.3)
  commits_are (Wide count) v = sym (ap positions v.ended.2)
  commits_are (Late by commits) v = v.ended.2.commits
  commits_are (Stopped stop commits) v = v.ended.2.commits

  pub posts_are : (answer : AtAnswer) → Front answer → All (IsPostOf number in_round) posted
  posts_are (Settled commits) v = v.ended.2.posts
  posts_are (Busy var by) v = All-same (IsPostOf number in_round) posted [] v.ended.3 (All-nil (IsPostOf number in_round))
  posts_are (Wide count) v = All-same (IsPostOf number in_round) posted [] v.ended.2 (All-nil (IsPostOf number in_round))
  posts_are (Late by commits) v = v.ended.2.posts
  posts_are (Stopped stop commits) v = v.ended.2.posts
