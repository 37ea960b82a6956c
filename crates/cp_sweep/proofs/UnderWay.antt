-- A sweep under way: what holds between its turns, that a turn keeps it, and what it comes to.
use Rattle.std.proofs.Common.{◌≡◌, ℕ, zero, suc, ◌+◌, ◌-◌, ◌*◌, ◌<◌, ◌≤◌, Bool, true, false, cond, not, List, [], ◌∷◌, ◌++◌, length, take, set, Option, Some, None, refl, sym, ap, ◌∙◌, subst, inl, inr, arith, append_assoc}
use Rattle.std.specs.Prelude.{is_some, nat_le}
use Rattle.std.specs.List.{list_any, range_with_len}
use Rattle.std.proofs.lemmas.Bool.{cases_eq, cases_lt, false_from_ne_true, false≢true}
use Rattle.std.proofs.lemmas.List.{append-nil, length-set}
use Rattle.std.proofs.lemmas.List.Sums.{sum_by-append}
use Rattle.std.proofs.Math.Nat.{suc-mul}
use Rattle.std.proofs.Math.Seq.{take-length}
use Rattle.std.proofs.lemmas.Option.{none-some}
use Rattle.cp_logic.specs.declared.settings.Rules.{Rules}
use Rattle.cp_logic.specs.declared.stop.Stop.{Stop}
use Rattle.cp_logic.specs.declared.stop.Stop.TheVariants.{Refuted, Spent, Numbers}
use Rattle.cp_logic.specs.Formulas.{Formula, IsFormula, has_empty}
use Rattle.cp_logic.specs.Rules.{State}
use Rattle.cp_logic.specs.Entries.{Entry, new_clauses, is_look, numbered}
use Rattle.cp_logic.specs.Legality.{first, is_legal}
use Rattle.cp_logic.specs.Journals.{Post, IsLegalJournal, folded, commits, number_limit}
use Rattle.cp_logic.specs.Sweeps.{is_applicable, is_spent, variables_from, next_variable, next_of_sweep, IsSweep, stop_of, enough}
use Rattle.cp_logic.proofs.Members.{any_member, any_from}
use Rattle.cp_logic.proofs.Locals.{find_none}
use Rattle.cp_logic.proofs.Totals.{in_range}
use Rattle.cp_logic.proofs.Bounds.{commits-bounded}
use Rattle.cp_logic.proofs.JournalRuns.{journal-formula, folded-push, post-may_follow, take-one_more}
use Rattle.cp_sweep.specs.Marks.{is_marked, marked, with_marks, IsFirstAround}
use Rattle.cp_sweep.specs.Cursor.{Cursor, Turn, left_at, touched_by, sweep_post, moved, after_post, after_nothing, turn_for, next_turn}
use Rattle.cp_sweep.specs.Swept.{IsSweptAfter}
use Rattle.cp_sweep.proofs.MarkFacts.{length-with_marks, marks-kept, marks-put, marks-of, taken-other, taken-same, marked-taken, marked-most}
use Rattle.cp_occ.proofs.Posted.{of_range}
use Rattle.cp_sweep.proofs.Rounds.{of_round, round-head, round-up, round-over}
use Rattle.cp_sweep.proofs.Touching.{touched-within, untouched-silent}
use Rattle.cp_sweep.proofs.Entries.{first-no_look, first-legal, first-numbered}

-- ---- the posts so far

-- the posts go on from those before, and what the sweep posts after them, from the mark on, completes the new ones to a sweep
abbrev pub LeadsTo : Formula → Rules → List Post → List Post → ℕ → Type 0
LeadsTo f rules before posts mark =
    (own : List Post) × (posts ≡ before ++ own) × ((rest : List Post) → IsSweep f rules posts mark rest → IsSweep f rules before 1 (own ++ rest))

leads-start : (f : Formula) (rules : Rules) (before : List Post) → LeadsTo f rules before before 1
leads-start f rules before = ([], sym (append-nil before), λ rest s. s)

leads-push : (f : Formula) (rules : Rules) (before posts : List Post) (mark x : ℕ) (e : Entry) → LeadsTo f rules before posts mark
    → next_of_sweep (folded f posts).formula rules (commits posts) mark ≡ Some (x, e) → LeadsTo f rules before (posts ++ sweep_post e ∷ []) x
leads-push f rules before posts mark x e h n = (
  h.0 ++ sweep_post e ∷ [],
  ap (λ ps. ps ++ sweep_post e ∷ []) h.1 ∙ append_assoc before h.0 (sweep_post e ∷ []),
  λ rest s. subst (IsSweep f rules before 1) (sym (append_assoc h.0 (sweep_post e ∷ []) rest)) (h.2 (sweep_post e ∷ rest) (x, n, refl, refl, s)),
)

leads-end : (f : Formula) (rules : Rules) (before posts : List Post) (mark : ℕ) → LeadsTo f rules before posts mark
    → next_of_sweep (folded f posts).formula rules (commits posts) mark ≡ None → (own : List Post) × (posts ≡ before ++ own) × IsSweep f rules before 1 own
leads-end f rules before posts mark h n = (h.0, h.1, subst (IsSweep f rules before 1) (append-nil h.0) (h.2 [] n))

-- from another mark the sweep goes on in the same way, if what comes next is the same
goes-on : (f : Formula) (rules : Rules) (posts : List Post) (mark x : ℕ)
    → next_of_sweep (folded f posts).formula rules (commits posts) mark ≡ next_of_sweep (folded f posts).formula rules (commits posts) x
    → (rest : List Post) → IsSweep f rules posts x rest → IsSweep f rules posts mark rest
goes-on f rules posts mark x e [] s = e ∙ s
goes-on f rules posts mark x e (p ∷ ps) s = (s.0, e ∙ s.1, s.2, s.3, s.4)

leads-moved : (f : Formula) (rules : Rules) (before posts : List Post) (mark x : ℕ) → LeadsTo f rules before posts mark
    → next_variable (folded f posts).formula rules mark ≡ next_variable (folded f posts).formula rules x → LeadsTo f rules before posts x
leads-moved f rules before posts mark x h e = (
  h.0,
  h.1,
  λ rest s. h.2 rest (goes-on f rules posts mark x (rw e refl) rest s),
)

-- ---- what the sweep posts next

-- where no clause is empty and the budget isn't spent, what is found next is posted if its numbers fit
next-found : (f : Formula) (rules : Rules) (count mark x : ℕ) (e : Entry) (fits : Bool) → has_empty f.clauses ≡ false → is_spent rules count ≡ false
    → next_variable f rules mark ≡ Some x → first f rules x ≡ Some e → nat_le (f.next + length (new_clauses e)) number_limit ≡ fits
    → next_of_sweep f rules count mark ≡ cond fits (Some (x, e)) None
next-found f rules count mark x e fits filled left v s h = rw (filled, left, v, s, h) refl

next-none : (f : Formula) (rules : Rules) (count mark : ℕ) → has_empty f.clauses ≡ false → is_spent rules count ≡ false
    → next_variable f rules mark ≡ None → next_of_sweep f rules count mark ≡ None
next-none f rules count mark filled left v = rw (filled, left, v) refl

next-refuted : (f : Formula) (rules : Rules) (count mark : ℕ) → has_empty f.clauses ≡ true → next_of_sweep f rules count mark ≡ None
next-refuted f rules count mark h = rw h refl

next-spent : (f : Formula) (rules : Rules) (count mark : ℕ) → has_empty f.clauses ≡ false → is_spent rules count ≡ true → next_of_sweep f rules count mark ≡ None
next-spent f rules count mark filled h = rw (filled, h) refl

-- ---- a sweep under way

-- the posts are those of the sweep so far; what is touched are variables; and nothing is applicable at another one
pub record IsUnderWay (f : Formula) (rules : Rules) (before : List Post) (c : Cursor) : Type 0 where
  pub legal : IsLegalJournal f rules c.posts
  pub leads : LeadsTo f rules before c.posts c.mark
  pub low : 1 ≤ c.mark
  pub high : c.mark ≤ f.variables + 1
  pub numbers : (left_at f c).next ≤ number_limit
  pub room : f.variables < length c.touched
  pub within : (x : ℕ) → is_marked c.touched x ≡ true → (1 ≤ x) × (x ≤ f.variables)
  pub silent : (x : ℕ) → is_marked c.touched x ≡ false → 1 ≤ x → x ≤ f.variables → first (left_at f c) rules x ≡ None

-- numbers are to spare after a legal journal where they were before it
pub numbers-left : (f : Formula) (rules : Rules) (posts : List Post) → f.next ≤ number_limit → IsLegalJournal f rules posts → (folded f posts).formula.next ≤ number_limit
unfolding folded
numbers-left f rules posts h legal = subst (λ (ps : List Post). (folded f ps).formula.next ≤ number_limit) (take-length posts) (up_to (length posts) (omega arith))
  where
    up_to : (n : ℕ) → n ≤ length posts → (folded f (take n posts)).formula.next ≤ number_limit
    up_to zero m = h
    up_to (suc n) m =
        let r = take-one_more posts n m in
        subst (λ (s : State). s.formula.next ≤ number_limit) (sym (ap (folded f) r.2 ∙ folded-push f (take n posts) r.0)) (legal n r.0 r.1).in_range

pub under_way-start : (f : Formula) (rules : Rules) (before : List Post) (touched : List Bool) → f.next ≤ number_limit → IsLegalJournal f rules before
    → f.variables < length touched → ((x : ℕ) → is_marked touched x ≡ true → (1 ≤ x) × (x ≤ f.variables)) → ((x : ℕ) → is_marked touched x ≡ false → 1 ≤ x → x ≤ f.variables → first (folded f before).formula rules x ≡ None)
    → IsUnderWay f rules before (record { posts = before; mark = 1; touched = touched })
under_way-start f rules before touched n legal room within silent = record {
  legal = legal;
  leads = leads-start f rules before;
  low = omega arith;
  high = omega arith;
  numbers = numbers-left f rules before n legal;
  room = room;
  within = within;
  silent = silent;
}

module _ (f : Formula) (rules : Rules) (v : IsFormula f) (before : List Post) (c : Cursor) (w : IsUnderWay f rules before c) where
  left : Formula
  left = left_at f c

  -- what is left has the variables of the formula
  pub same_variables : (left_at f c).variables ≡ f.variables
  same_variables = (journal-formula f rules c.posts v w.legal).1

  pub left-valid : IsFormula (left_at f c)
  left-valid = (journal-formula f rules c.posts v w.legal).0

  -- nothing is applicable at a variable that is not touched
  fails : (x : ℕ) → is_marked c.touched x ≡ false → 1 ≤ x → x ≤ (left_at f c).variables → is_applicable (left_at f c) rules x ≡ false
  fails x u l h = ap is_some (w.silent x u l (omega (arith, h, same_variables)))

  -- a sweep that stops here for the reason
  stops : (reason : Option Stop) → next_of_sweep (left_at f c) rules (commits c.posts) c.mark ≡ None → reason ≡ stop_of f rules c.posts → IsSweptAfter f rules before c.posts (left_at f c) reason
  stops reason n h = record { legal = w.legal; swept = leads-end f rules before c.posts c.mark w.leads n; stop = h; folded = refl }

  pub stops-refuted : has_empty (left_at f c).clauses ≡ true → IsSweptAfter f rules before c.posts (left_at f c) (Some Refuted)
  stops-refuted h = stops (Some Refuted) (next-refuted (left_at f c) rules (commits c.posts) c.mark h) (rw h refl)

  pub stops-spent : has_empty (left_at f c).clauses ≡ false → is_spent rules (commits c.posts) ≡ true → IsSweptAfter f rules before c.posts (left_at f c) (Some Spent)
  stops-spent filled h = stops (Some Spent) (next-spent (left_at f c) rules (commits c.posts) c.mark filled h) (rw (filled, h) refl)

  -- where nothing is touched the sweep ends
  pub stops-settled : has_empty (left_at f c).clauses ≡ false → is_spent rules (commits c.posts) ≡ false → ((x : ℕ) → is_marked c.touched x ≡ false)
      → IsSweptAfter f rules before c.posts (left_at f c) None
  stops-settled filled unspent none =
      let vs = (left_at f c).variables in
      let none_next : next_variable (left_at f c) rules c.mark ≡ None = find_none (is_applicable (left_at f c) rules) (variables_from vs c.mark)
      (λ x i. let r = of_round vs c.mark x w.low (rw same_variables w.high) i in fails x (none x) r.0 r.1) in
      let none_left : list_any (is_applicable (left_at f c) rules) (range_with_len 1 vs) ≡ false =
      false_from_ne_true (list_any (is_applicable (left_at f c) rules) (range_with_len 1 vs)) (λ t.
      let m = any_member (is_applicable (left_at f c) rules) (range_with_len 1 vs) t in
      let r = of_range vs 1 m.0 m.1 in
      false≢true (sym (fails m.0 (none m.0) r.0 (omega (arith, r.1))) ∙ m.2)) in
      stops None (next-none (left_at f c) rules (commits c.posts) c.mark filled unspent none_next) (rw (filled, unspent, none_left) refl)

  -- the next variable that is touched: nothing is applicable at those before it
  module _ (x : ℕ) (around : IsFirstAround (is_marked c.touched) c.mark (Some x)) where
    touched-there : is_marked c.touched x ≡ true
    touched-there = elim around [ inl h ↦ h.1 | inr h ↦ h.1.1 ]

    same-next : next_variable (left_at f c) rules c.mark ≡ next_variable (left_at f c) rules x
    same-next = elim around [
      | inl h ↦ round-up (is_applicable (left_at f c) rules) vs c.mark x w.low h.0 high (λ k i j. fails k (h.2 k i j) (omega (arith, w.low)) (omega (arith, high)))
      | inr h ↦ round-over (is_applicable (left_at f c) rules) vs c.mark x (rw same_variables w.high) (w.within x touched-there).0 (before-mark h.0)
          (λ k i j. fails k (h.0 k i) (omega (arith, w.low)) j) (λ k i j. fails k (h.1.2 k (omega arith) j) i (omega (arith, high)))
    ]
      where
        vs : ℕ
        vs = (left_at f c).variables

        high : x ≤ (left_at f c).variables
        high = rw same_variables (w.within x touched-there).1

        before-mark : ((k : ℕ) → c.mark ≤ k → is_marked c.touched k ≡ false) → x < c.mark
        before-mark none = elim (cases_lt x c.mark) [ inl h ↦ h | inr h ↦ absurd (false≢true (sym (none x h) ∙ touched-there)) ]

    pub under_way-moved : IsUnderWay f rules before (moved c x) × (is_marked c.touched x ≡ true)
    under_way-moved = (
      record {
        legal = w.legal;
        leads = leads-moved f rules before c.posts c.mark x w.leads same-next;
        low = (w.within x touched-there).0;
        high = omega (arith, (w.within x touched-there).1);
        numbers = w.numbers;
        room = w.room;
        within = w.within;
        silent = w.silent;
      },
      touched-there,
    )

  module _ (there : is_marked c.touched c.mark ≡ true) where
    high-there : c.mark ≤ f.variables
    high-there = (w.within c.mark there).1

    in_room : c.mark < length c.touched
    in_room = omega (arith, high-there, w.room)

    -- the search gave nothing
    pub turn-quiet : first (left_at f c) rules c.mark ≡ None → IsUnderWay f rules before (after_nothing c)
    turn-quiet n = record {
      legal = w.legal;
      leads = w.leads;
      low = w.low;
      high = w.high;
      numbers = w.numbers;
      room = omega (arith, w.room, length-set c.touched c.mark false);
      within = λ x m. elim (cases_eq x c.mark) [
        | inl e ↦ absurd (false≢true (sym (ap (is_marked (set c.touched c.mark false)) e ∙ taken-same c.touched c.mark in_room) ∙ m))
        | inr o ↦ w.within x (sym (taken-other c.touched c.mark x o) ∙ m)
      ];
      silent = λ x u l h. elim (cases_eq x c.mark) [
        | inl e ↦ ap (first (left_at f c) rules) e ∙ n
        | inr o ↦ w.silent x (sym (taken-other c.touched c.mark x o) ∙ u) l h
      ];
    }

    module _ (filled : has_empty (left_at f c).clauses ≡ false) (unspent : is_spent rules (commits c.posts) ≡ false) where
      -- the search gave an entry, and so the variable is the next of the sweep
      found-next : (e : Entry) → first (left_at f c) rules c.mark ≡ Some e → next_variable (left_at f c) rules c.mark ≡ Some c.mark
      found-next e s = round-head (is_applicable (left_at f c) rules) (left_at f c).variables c.mark (rw same_variables high-there) (ap is_some s)

      -- it was posted
      pub turn-posted : (e : Entry) → first (left_at f c) rules c.mark ≡ Some e → nat_le ((left_at f c).next + length (new_clauses e)) number_limit ≡ true
          → IsLegalJournal f rules (c.posts ++ sweep_post e ∷ []) → IsUnderWay f rules before (after_post c e)
      turn-posted e s fits legal = record {
        legal = legal;
        leads = leads-push f rules before c.posts c.mark c.mark e w.leads
            (next-found (left_at f c) rules (commits c.posts) c.mark c.mark e true filled unspent (found-next e s) s fits);
        low = w.low;
        high = w.high;
        numbers = subst (λ (s : State). s.formula.next ≤ number_limit) (sym (folded-push f c.posts (sweep_post e))) ((post-may_follow f rules c.posts (sweep_post e) w.legal).0 legal).in_range;
        room = omega (arith, w.room, length-with_marks c.touched (touched_by e));
        within = λ x m. elim (marks-of c.touched (touched_by e) x m) [
          | inl old ↦ w.within x old
          | inr i ↦ let r = touched-within (folded f c.posts) rules e left-valid applies numbers x i in (r.0, omega (arith, r.1, same_variables))
        ];
        silent = λ x u l h.
            subst (λ (s : State). first s.formula rules x ≡ None) (sym (folded-push f c.posts (sweep_post e)))
            (untouched-silent (folded f c.posts) rules e left-valid applies numbers x filled
            (λ i. false≢true (sym u ∙ marks-put c.touched (touched_by e) x (omega (arith, w.room)) i))
            (w.silent x (false_from_ne_true (is_marked c.touched x) (λ t. false≢true (sym u ∙ marks-kept c.touched (touched_by e) x t))) l h));
      }
        where
          applies : is_legal (left_at f c) rules e ≡ true
          applies = first-legal (left_at f c) rules c.mark e s

          numbers : e ≡ numbered (left_at f c).next e
          numbers = first-numbered (left_at f c) rules c.mark e s

      -- its numbers don't fit
      pub stops-numbers : (e : Entry) → first (left_at f c) rules c.mark ≡ Some e → nat_le ((left_at f c).next + length (new_clauses e)) number_limit ≡ false
          → IsSweptAfter f rules before c.posts (left_at f c) (Some Numbers)
      stops-numbers e s fits =
          let i = in_range (left_at f c).variables 1 c.mark w.low (rw same_variables (omega (arith, high-there))) in
          let some_left : list_any (is_applicable (left_at f c) rules) (range_with_len 1 (left_at f c).variables) ≡ true =
          any_from (is_applicable (left_at f c) rules) (range_with_len 1 (left_at f c).variables) c.mark i (ap is_some s) in
          stops (Some Numbers) (next-found (left_at f c) rules (commits c.posts) c.mark c.mark e false filled unspent (found-next e s) s fits)
          (rw (filled, unspent, some_left) refl)

-- ---- the sweep ends

-- searches that may follow: for each commit that is left one at each number, and one at each that is touched
abbrev pub searches_left : Formula → Rules → Cursor → ℕ
searches_left f rules c = (enough f.variables (length f.clauses) rules.bound - commits c.posts) * (length c.touched + 1) + marked c.touched

commits-push : (posts : List Post) (e : Entry) → is_look e ≡ false → commits (posts ++ sweep_post e ∷ []) ≡ commits posts + 1
commits-push posts e h =
    sum_by-append (λ (p : Post). cond (not (is_look p.entry)) 1 0) posts (sweep_post e ∷ []) ∙ ap (λ b. commits posts + (0 + cond (not b) 1 0)) h

fewer : (most made room after now : ℕ) → made < most → after ≤ room → (most - (made + 1)) * (room + 1) + after < (most - made) * (room + 1) + now
fewer most made room after now h q =
    let e : most - made ≡ suc (most - (made + 1)) = omega arith in
    let p = suc-mul (most - (made + 1)) (room + 1) in
    rw (e, p) (omega arith)

-- a turn, without the names of what it leaves
abbrev turn_of : Option Stop → Cursor → Turn
turn_of s c = record { stop = s; cursor = c }

-- a turn at a touched variable that doesn't stop the sweep leaves fewer searches
pub searches-fewer : (f : Formula) (rules : Rules) (before : List Post) (c d : Cursor) → IsFormula f → IsUnderWay f rules before c → is_marked c.touched c.mark ≡ true
    → next_turn f rules c ≡ turn_of None d → searches_left f rules d < searches_left f rules c
searches-fewer f rules before c d v w there h = at_empty (has_empty (left_at f c).clauses) h
  where
    posted : (e : Entry) (b : Bool) → first (left_at f c) rules c.mark ≡ Some e → cond b (turn_of None (after_post c e)) (turn_of (Some Numbers) c) ≡ turn_of None d
        → searches_left f rules d < searches_left f rules c
    posted e false s t = absurd (none-some Numbers (sym (ap (λ (t : Turn). t.stop) t)))
    posted e true s t =
        let at : after_post c e ≡ d = ap (λ (t : Turn). t.cursor) t in
        let one = commits-push c.posts e (first-no_look (left_at f c) rules c.mark e s) in
        let few = commits-bounded f rules c.posts v w.legal in
        let long = length-with_marks c.touched (touched_by e) in
        let most : marked (with_marks c.touched (touched_by e)) ≤ length c.touched = omega (arith, marked-most (with_marks c.touched (touched_by e)), long) in
        subst (λ k. searches_left f rules k < searches_left f rules c) at
        (rw (one, long) (fewer (enough f.variables (length f.clauses) rules.bound) (commits c.posts) (length c.touched) (marked (with_marks c.touched (touched_by e))) (marked c.touched) few most))

    found : (o : Option Entry) → first (left_at f c) rules c.mark ≡ o → turn_for (left_at f c) c o ≡ turn_of None d
        → searches_left f rules d < searches_left f rules c
    found None s t =
        let at : after_nothing c ≡ d = ap (λ (t : Turn). t.cursor) t in
        let in_room : c.mark < length c.touched = omega (arith, (w.within c.mark there).1, w.room) in
        let one = marked-taken c.touched c.mark in_room there in
        subst (λ k. searches_left f rules k < searches_left f rules c) at (rw (length-set c.touched c.mark false) (omega (arith, one)))
    found (Some e) s t = posted e (nat_le ((left_at f c).next + length (new_clauses e)) number_limit) s t

    at_spent : (b : Bool) → cond b (turn_of (Some Spent) c) (turn_for (left_at f c) c (first (left_at f c) rules c.mark)) ≡ turn_of None d
        → searches_left f rules d < searches_left f rules c
    at_spent true t = absurd (none-some Spent (sym (ap (λ (t : Turn). t.stop) t)))
    at_spent false t = found (first (left_at f c) rules c.mark) refl t

    at_empty : (b : Bool) → cond b (turn_of (Some Refuted) c) (cond (is_spent rules (commits c.posts)) (turn_of (Some Spent) c) (turn_for (left_at f c) c (first (left_at f c) rules c.mark))) ≡ turn_of None d
        → searches_left f rules d < searches_left f rules c
    at_empty true t = absurd (none-some Refuted (sym (ap (λ (t : Turn). t.stop) t)))
    at_empty false t = at_spent (is_spent rules (commits c.posts)) t

-- ---- what a turn comes to

-- a turn that goes on leaves a sweep under way
pub under_way-next : (f : Formula) (rules : Rules) (before : List Post) (c d : Cursor) → IsFormula f → IsUnderWay f rules before c → is_marked c.touched c.mark ≡ true
    → next_turn f rules c ≡ turn_of None d → IsLegalJournal f rules d.posts → IsUnderWay f rules before d
under_way-next f rules before c d v w there h legal = at_empty (has_empty (left_at f c).clauses) refl h
  where
    posted : (e : Entry) (b : Bool) → has_empty (left_at f c).clauses ≡ false → is_spent rules (commits c.posts) ≡ false → first (left_at f c) rules c.mark ≡ Some e
        → nat_le ((left_at f c).next + length (new_clauses e)) number_limit ≡ b
        → cond b (turn_of None (after_post c e)) (turn_of (Some Numbers) c) ≡ turn_of None d → IsUnderWay f rules before d
    posted e false filled unspent s fits t = absurd (none-some Numbers (sym (ap (λ (t : Turn). t.stop) t)))
    posted e true filled unspent s fits t =
        let at : after_post c e ≡ d = ap (λ (t : Turn). t.cursor) t in
        subst (IsUnderWay f rules before) at (turn-posted f rules v before c w there filled unspent e s fits (subst (λ (k : Cursor). IsLegalJournal f rules k.posts) (sym at) legal))

    found : (o : Option Entry) → has_empty (left_at f c).clauses ≡ false → is_spent rules (commits c.posts) ≡ false → first (left_at f c) rules c.mark ≡ o
        → turn_for (left_at f c) c o ≡ turn_of None d → IsUnderWay f rules before d
    found None filled unspent s t = subst (IsUnderWay f rules before) (ap (λ (t : Turn). t.cursor) t) (turn-quiet f rules v before c w there s)
    found (Some e) filled unspent s t = posted e (nat_le ((left_at f c).next + length (new_clauses e)) number_limit) filled unspent s refl t

    at_spent : (b : Bool) → has_empty (left_at f c).clauses ≡ false → is_spent rules (commits c.posts) ≡ b
        → cond b (turn_of (Some Spent) c) (turn_for (left_at f c) c (first (left_at f c) rules c.mark)) ≡ turn_of None d → IsUnderWay f rules before d
    at_spent true filled unspent t = absurd (none-some Spent (sym (ap (λ (t : Turn). t.stop) t)))
    at_spent false filled unspent t = found (first (left_at f c) rules c.mark) filled unspent refl t

    at_empty : (b : Bool) → has_empty (left_at f c).clauses ≡ b
        → cond b (turn_of (Some Refuted) c) (cond (is_spent rules (commits c.posts)) (turn_of (Some Spent) c) (turn_for (left_at f c) c (first (left_at f c) rules c.mark))) ≡ turn_of None d
        → IsUnderWay f rules before d
    at_empty true e t = absurd (none-some Refuted (sym (ap (λ (t : Turn). t.stop) t)))
    at_empty false e t = at_spent (is_spent rules (commits c.posts)) e refl t

-- a turn that stops ends the sweep
pub under_way-stop : (f : Formula) (rules : Rules) (before : List Post) (c d : Cursor) (r : Stop) → IsFormula f → IsUnderWay f rules before c → is_marked c.touched c.mark ≡ true
    → next_turn f rules c ≡ turn_of (Some r) d → IsSweptAfter f rules before d.posts (left_at f d) (Some r)
under_way-stop f rules before c d r v w there h = at_empty (has_empty (left_at f c).clauses) refl h
  where
    carried : (s : Stop) → turn_of (Some s) c ≡ turn_of (Some r) d → IsSweptAfter f rules before c.posts (left_at f c) (Some s) → IsSweptAfter f rules before d.posts (left_at f d) (Some r)
    carried s t i = subst (λ (u : Turn). IsSweptAfter f rules before u.cursor.posts (left_at f u.cursor) u.stop) t i

    going : (k : Cursor) → turn_of None k ≡ turn_of (Some r) d → ⊥
    going k t = none-some r (ap (λ (u : Turn). u.stop) t)

    posted : (e : Entry) (b : Bool) → has_empty (left_at f c).clauses ≡ false → is_spent rules (commits c.posts) ≡ false → first (left_at f c) rules c.mark ≡ Some e
        → nat_le ((left_at f c).next + length (new_clauses e)) number_limit ≡ b
        → cond b (turn_of None (after_post c e)) (turn_of (Some Numbers) c) ≡ turn_of (Some r) d → IsSweptAfter f rules before d.posts (left_at f d) (Some r)
    posted e true filled unspent s fits t = absurd (going (after_post c e) t)
    posted e false filled unspent s fits t = carried Numbers t (stops-numbers f rules v before c w there filled unspent e s fits)

    found : (o : Option Entry) → has_empty (left_at f c).clauses ≡ false → is_spent rules (commits c.posts) ≡ false → first (left_at f c) rules c.mark ≡ o
        → turn_for (left_at f c) c o ≡ turn_of (Some r) d → IsSweptAfter f rules before d.posts (left_at f d) (Some r)
    found None filled unspent s t = absurd (going (after_nothing c) t)
    found (Some e) filled unspent s t = posted e (nat_le ((left_at f c).next + length (new_clauses e)) number_limit) filled unspent s refl t

    at_spent : (b : Bool) → has_empty (left_at f c).clauses ≡ false → is_spent rules (commits c.posts) ≡ b
        → cond b (turn_of (Some Spent) c) (turn_for (left_at f c) c (first (left_at f c) rules c.mark)) ≡ turn_of (Some r) d
        → IsSweptAfter f rules before d.posts (left_at f d) (Some r)
    at_spent true filled spent t = carried Spent t (stops-spent f rules v before c w filled spent)
    at_spent false filled unspent t = found (first (left_at f c) rules c.mark) filled unspent refl t

    at_empty : (b : Bool) → has_empty (left_at f c).clauses ≡ b
        → cond b (turn_of (Some Refuted) c) (cond (is_spent rules (commits c.posts)) (turn_of (Some Spent) c) (turn_for (left_at f c) c (first (left_at f c) rules c.mark))) ≡ turn_of (Some r) d
        → IsSweptAfter f rules before d.posts (left_at f d) (Some r)
    at_empty true e t = carried Refuted t (stops-refuted f rules v before c w e)
    at_empty false e t = at_spent (is_spent rules (commits c.posts)) e refl t

-- where nothing is touched the sweep ends, for whatever reason there is besides
pub under_way-end : (f : Formula) (rules : Rules) (before : List Post) (c : Cursor) → IsFormula f → IsUnderWay f rules before c → ((x : ℕ) → is_marked c.touched x ≡ false)
    → IsSweptAfter f rules before c.posts (left_at f c) (cond (has_empty (left_at f c).clauses) (Some Refuted) (cond (is_spent rules (commits c.posts)) (Some Spent) None))
under_way-end f rules before c v w done = go (has_empty (left_at f c).clauses) (is_spent rules (commits c.posts)) refl refl
  where
    go : (e s : Bool) → has_empty (left_at f c).clauses ≡ e → is_spent rules (commits c.posts) ≡ s → IsSweptAfter f rules before c.posts (left_at f c) (cond e (Some Refuted) (cond s (Some Spent) None))
    go true s h k = stops-refuted f rules v before c w h
    go false true h k = stops-spent f rules v before c w h k
    go false false h k = stops-settled f rules v before c w h k done
