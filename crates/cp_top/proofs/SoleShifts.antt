-- Two shifts of the only worker, visit by visit: after the same posts each pair of visits does the same, so the shifts post the same.
use Rattle.std.proofs.Common.{◌≡◌, ℕ, zero, suc, ◌+◌, ◌≤◌, false, List, [], ◌∷◌, ◌++◌, map, length, Option, Some, None, refl, sym, ◌∙◌, ap, subst, arith, append-nil, append_assoc, length-append}
use Rattle.std.specs.Prelude.{is_some}
use Rattle.std.specs.List.{enumerate_from, flat_map, range_with_len}
use Rattle.std.proofs.lemmas.Bool.{false≢true}
use Rattle.std.proofs.lemmas.List.FromFn.{length-enumerate_from}
use Rattle.std.proofs.lemmas.Option.{none-some}
use Rattle.cp_logic.specs.declared.stop.Stop.{Stop}
use Rattle.cp_logic.specs.Journals.{Post, IsLegalJournal}
use Rattle.cp_yard.specs.Views.{Base}
use Rattle.cp_worker.specs.Visits.{IsVisit}
use Rattle.cp_worker.specs.Listing.{stop_of}
use Rattle.cp_worker.specs.Shifts.{Visited, AreVisits, EndsIn}
use Rattle.cp_top.proofs.SoleVisits.{AreSole, IsSoleVisit, sole_front, sole_back, enumerate-none, visit_sole, visits_same}

-- ---- lists

-- an enumeration in two parts is that of two lists
pub enumerate_split : {X : Type 0} (n : ℕ) (xs : List X) (front back : List (ℕ × X)) → enumerate_from n xs ≡ front ++ back
    → (ys zs : List X) × (xs ≡ ys ++ zs) × (front ≡ enumerate_from n ys) × (back ≡ enumerate_from (n + length ys) zs)
enumerate_split n xs [] back e = ([], xs, refl, refl, sym e ∙ ap (λ k. enumerate_from k xs) (let z : n ≡ n + 0 = omega arith in z))
enumerate_split n [] (q ∷ qs) back e = cc
enumerate_split {X} n (x ∷ xs) (q ∷ qs) back e = longer (enumerate_split (n + 1) xs qs back (cc))
  where
    longer : (ys zs : List X) × (xs ≡ ys ++ zs) × (qs ≡ enumerate_from (n + 1) ys) × (back ≡ enumerate_from (n + 1 + length ys) zs)
        → (ys zs : List X) × (x ∷ xs ≡ ys ++ zs) × (q ∷ qs ≡ enumerate_from n ys) × (back ≡ enumerate_from (n + length ys) zs)
    longer (ys, zs, is, front, later) =
        (x ∷ ys, zs, ap (λ l. x ∷ l) is, (cc), later ∙ ap (λ k. enumerate_from k zs) (let z : n + 1 + length ys ≡ n + suc (length ys) = omega arith in z))

-- the first of numbers in a row
row_first : (x : ℕ) (xs : List ℕ) (a m : ℕ) → x ∷ xs ≡ range_with_len a m → (x ≡ a) × ((k : ℕ) × (xs ≡ range_with_len (a + 1) k))
row_first x xs a zero e = cc
row_first x xs a (suc m) e = (cc, (m, cc))

-- ---- visits one after the other

-- of the journal w the posts after h are those of the visits, where those before them had made so many
pub record IsRest (f : Base) (limit : ℕ) (w h ps : List Post) (before : ℕ) (vs : List Visited) : Type 0 where
  pub at : before ≡ length h
  pub whole : h ++ ps ≡ w
  pub each : AreVisits f 1 1 limit before vs
  pub posted : enumerate_from before ps ≡ flat_map (λ v. v.posted) vs
  pub notes : AreSole f w (flat_map (λ v. v.noted) vs)

module _ (f : Base) (limit : ℕ) (w : List Post) where
  pub none_left : (h ps : List Post) (n : ℕ) → IsRest f limit w h ps n [] → ps ≡ []
  none_left h ps n r = enumerate-none n ps r.posted

  -- the first visit, and the rest after it
  pub record IsFirst (h ps : List Post) (v : Visited) (vs : List Visited) : Type 0 where
    pub own : List Post
    pub more : List Post
    pub parts : ps ≡ own ++ more
    pub visit : IsSoleVisit f v.at limit h own (stop_of v.answer)
    pub rest : IsRest f limit w (h ++ own) more (length (h ++ own)) vs

  first_of_rest : (h ps : List Post) (n : ℕ) (v : Visited) (vs : List Visited) → IsRest f limit w h ps n (v ∷ vs) → ((s : Stop) → stop_of v.answer ≡ Some s → vs ≡ []) → IsFirst h ps v vs
  first_of_rest h ps n v vs r last =
      let (own, more, parts, mine, later) = enumerate_split n ps v.posted (flat_map (λ u. u.posted) vs) r.posted in
      let whole : (h ++ own) ++ more ≡ w = append_assoc h own more ∙ ap (λ l. h ++ l) (sym parts) ∙ r.whole in
      let long : n + length own ≡ length (h ++ own) = omega (arith, length-append h own, r.at) in
      let count : n + length v.posted ≡ length (h ++ own) = omega (arith, ap length mine ∙ length-enumerate_from n own, long) in
      record {
        own = own;
        more = more;
        parts = parts;
        visit = visit_sole f w v.at v.answer own h n limit v.noted r.at (more, whole)
            (λ s e. sym (append-nil (h ++ own))
            ∙ ap (λ l. (h ++ own) ++ l) (sym (enumerate-none (n + length own) more (sym later ∙ ap (λ us. flat_map (λ (u : Visited). u.posted) us) (last s e)))) ∙ whole)
            (sole_front f w v.noted (flat_map (λ u. u.noted) vs) r.notes)
            (subst (λ qs. IsVisit f 1 v.at 1 limit n v.noted qs v.answer) mine r.each.0);
        rest = record {
          at = refl;
          whole = whole;
          each = subst (λ k. AreVisits f 1 1 limit k vs) count r.each.1;
          posted = ap (λ k. enumerate_from k more) (sym long) ∙ sym later;
          notes = sole_back f w v.noted (flat_map (λ u. u.noted) vs) r.notes;
        };
      }

-- ---- two shifts

some_not : (o : Option Stop) → is_some o ≡ false → o ≡ None
some_not None e = refl
some_not (Some s) e = absurd (false≢true (sym e))

-- who has a visit after it stops nothing
not_last : (v u : Visited) (us : List Visited) (stopped : Option Stop) → EndsIn stopped (v ∷ u ∷ us) → (s : Stop) → stop_of v.answer ≡ Some s → u ∷ us ≡ []
not_last v u us stopped ends s e = absurd (none-some s (sym ends.0 ∙ e))

module _ (f : Base) (limit : ℕ) (w v : List Post) (w_legal : IsLegalJournal f.formula f.rules w) (v_legal : IsLegalJournal f.formula f.rules v) where
  pair_same : (h ps qs : List Post) (a b : Visited) (vs us : List Visited) (c : IsFirst f limit w h ps a vs) (d : IsFirst f limit v h qs b us) → a.at ≡ b.at
      → (c.own ≡ d.own) × (is_some (stop_of a.answer) ≡ is_some (stop_of b.answer))
  pair_same h ps qs a b vs us c d e =
      visits_same f w v w_legal v_legal a.at limit h c.own d.own (stop_of a.answer) (stop_of b.answer) c.visit
      (subst (λ x. IsSoleVisit f x limit h d.own (stop_of b.answer)) (sym e) d.visit) (c.more, c.rest.whole) (d.more, d.rest.whole)

  -- two shifts with the same posts before, the same next candidate, and as many candidates as there are where they did not stop
  pub shifts_same : (vs us : List Visited) (h ps qs : List Post) (n m a k l : ℕ) (stopped ended : Option Stop) → IsRest f limit w h ps n vs → IsRest f limit v h qs m us
      → map (λ (z : Visited). z.at) vs ≡ range_with_len a k → map (λ (z : Visited). z.at) us ≡ range_with_len a l → EndsIn stopped vs → EndsIn ended us
      → (stopped ≡ None → length us ≤ length vs) → (ended ≡ None → length vs ≤ length us) → ps ≡ qs
  shifts_same [] [] h ps qs n m a k l stopped ended one other row line ends closes full whole = none_left f limit w h ps n one ∙ sym (none_left f limit v h qs m other)
  shifts_same [] (u ∷ us) h ps qs n m a k l stopped ended one other row line ends closes full whole = let most = full ends in absurd (omega arith)
  shifts_same (z ∷ vs) [] h ps qs n m a k l stopped ended one other row line ends closes full whole = let most = whole closes in absurd (omega arith)
  shifts_same (z ∷ []) (u ∷ []) h ps qs n m a k l stopped ended one other row line ends closes full whole =
      let c = first_of_rest f limit w h ps n z [] one (λ s e. refl) in
      let d = first_of_rest f limit v h qs m u [] other (λ s e. refl) in
      let same = pair_same h ps qs z u [] [] c d ((row_first z.at [] a k row).0 ∙ sym (row_first u.at [] a l line).0) in
      let more : c.more ≡ d.more = none_left f limit w (h ++ c.own) c.more (length (h ++ c.own)) c.rest ∙ sym (none_left f limit v (h ++ d.own) d.more (length (h ++ d.own)) d.rest) in
      c.parts ∙ (λ i. same.0 i ++ more i) ∙ sym d.parts
  shifts_same (z ∷ []) (u ∷ y ∷ us) h ps qs n m a k l stopped ended one other row line ends closes full whole =
      let c = first_of_rest f limit w h ps n z [] one (λ s e. refl) in
      let d = first_of_rest f limit v h qs m u (y ∷ us) other (not_last u y us ended closes) in
      let same = pair_same h ps qs z u [] (y ∷ us) c d ((row_first z.at [] a k row).0 ∙ sym (row_first u.at (map (λ (z : Visited). z.at) (y ∷ us)) a l line).0) in
      let most = full (ends ∙ some_not (stop_of z.answer) (same.1 ∙ ap is_some closes.0)) in
      absurd (omega arith)
  shifts_same (z ∷ x ∷ vs) (u ∷ []) h ps qs n m a k l stopped ended one other row line ends closes full whole =
      let c = first_of_rest f limit w h ps n z (x ∷ vs) one (not_last z x vs stopped ends) in
      let d = first_of_rest f limit v h qs m u [] other (λ s e. refl) in
      let same = pair_same h ps qs z u (x ∷ vs) [] c d ((row_first z.at (map (λ (z : Visited). z.at) (x ∷ vs)) a k row).0 ∙ sym (row_first u.at [] a l line).0) in
      let most = whole (closes ∙ some_not (stop_of u.answer) (sym same.1 ∙ ap is_some ends.0)) in
      absurd (omega arith)
  shifts_same (z ∷ x ∷ vs) (u ∷ y ∷ us) h ps qs n m a k l stopped ended one other row line ends closes full whole =
      let c = first_of_rest f limit w h ps n z (x ∷ vs) one (not_last z x vs stopped ends) in
      let d = first_of_rest f limit v h qs m u (y ∷ us) other (not_last u y us ended closes) in
      let this = row_first z.at (map (λ (z : Visited). z.at) (x ∷ vs)) a k row in
      let that = row_first u.at (map (λ (z : Visited). z.at) (y ∷ us)) a l line in
      let same = pair_same h ps qs z u (x ∷ vs) (y ∷ us) c d (this.0 ∙ sym that.0) in
      let more : c.more ≡ d.more = shifts_same (x ∷ vs) (y ∷ us) (h ++ c.own) c.more d.more (length (h ++ c.own)) (length (h ++ c.own)) (a + 1) this.1.0 that.1.0 stopped ended c.rest
      (subst (λ own. IsRest f limit v (h ++ own) d.more (length (h ++ own)) (y ∷ us)) (sym same.0) d.rest) this.1.1 that.1.1 ends.1 closes.1
      (λ e. let most = full e in omega arith) (λ e. let most = whole e in omega arith) in
      c.parts ∙ (λ i. same.0 i ++ more i) ∙ sym d.parts
