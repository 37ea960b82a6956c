-- Journals that go on from the same posts: what stands next in each, and that a stop and a post exclude each other.
use Rattle.std.proofs.Common.{◌≡◌, ◌+◌, ◌<◌, ◌≤◌, true, not, ◌&&◌, List, [], ◌∷◌, ◌++◌, length, take, slice_get, Some, refl, sym, ◌∙◌, ap, subst, inl, inr, arith, append-nil, append_assoc}
use Rattle.std.specs.Prelude.{◌⊎◌, ◌==◌, nat_lt}
use Rattle.std.proofs.lemmas.Bool.{and_parts, eqb-true, false≢true, ltb-true}
use Rattle.std.proofs.Math.Seq.{take-append_seam}
use Rattle.cp_logic.specs.declared.stop.Stop.{Stop}
use Rattle.cp_logic.specs.declared.stop.Stop.TheVariants.{Spent, Numbers, Refuted}
use Rattle.cp_logic.specs.Formulas.{Formula, has_empty}
use Rattle.cp_logic.specs.Rules.{State}
use Rattle.cp_logic.specs.Entries.{Entry, numbered, new_clauses}
use Rattle.cp_logic.specs.Legality.{is_legal, is_legal_in}
use Rattle.cp_logic.specs.Journals.{Post, MayFollow, IsLegalJournal, folded, commits, number_limit}
use Rattle.cp_logic.specs.Sweeps.{is_spent}
use Rattle.cp_logic.proofs.JournalRuns.{folded-push}
use Rattle.cp_book.proofs.Commits.{after-next, count-numbered}
use Rattle.cp_yard.specs.Views.{Base}
use Rattle.cp_yard.specs.Rule.{IsPrefix}
use Rattle.cp_hood.specs.Commits.{left_by, IsStopAfter}

-- ---- prefixes

module _ {X : Type 0} where
  pub prefix_through : (xs ys zs : List X) → IsPrefix xs ys → IsPrefix ys zs → IsPrefix xs zs
  prefix_through xs ys zs (r, e) (s, g) = (r ++ s, sym (append_assoc xs r s) ∙ ap (λ l. l ++ s) e ∙ g)

  fronts_same : (xs ys r s : List X) → xs ++ r ≡ ys ++ s → length xs ≡ length ys → xs ≡ ys
  fronts_same [] [] r s e n = refl
  fronts_same [] (y ∷ ys) r s e n = absurd (omega arith)
  fronts_same (x ∷ xs) [] r s e n = absurd (omega arith)
  fronts_same (x ∷ xs) (y ∷ ys) r s e n =
      let head : x ≡ y = cc in
      let rest : xs ≡ ys = fronts_same xs ys r s (cc) (omega arith) in
      λ i. head i ∷ rest i

  -- two prefixes of one length are the same
  pub prefixes_same : (xs ys zs : List X) → IsPrefix xs zs → IsPrefix ys zs → length xs ≡ length ys → xs ≡ ys
  prefixes_same xs ys zs (r, e) (s, g) n = fronts_same xs ys r s (e ∙ sym g) n

  at_seam : (xs : List X) (x : X) (rest : List X) → slice_get (xs ++ x ∷ rest) (length xs) ≡ Some x
  at_seam [] x rest = refl
  at_seam (y ∷ ys) x rest = at_seam ys x rest

  -- what comes next after a shorter prefix
  pub next_after : (xs ys zs : List X) (x : X) → IsPrefix xs ys → IsPrefix (ys ++ x ∷ []) zs → (y : X) × IsPrefix (xs ++ y ∷ []) zs
  next_after xs ys zs x ([], e) (s, g) = (x, (s, ap (λ l. (l ++ x ∷ []) ++ s) (sym (append-nil xs) ∙ e) ∙ g))
  next_after xs ys zs x (y ∷ r, e) (s, g) = (
    y,
    (
      (r ++ x ∷ []) ++ s,
      append_assoc xs (y ∷ []) ((r ++ x ∷ []) ++ s) ∙ sym (append_assoc xs (y ∷ (r ++ x ∷ [])) s)
          ∙ ap (λ l. l ++ s) (sym (append_assoc xs (y ∷ r) (x ∷ [])) ∙ ap (λ l. l ++ x ∷ []) e) ∙ g,
    ),
  )

-- ---- what a legal journal says of the posts in it

module _ (f : Base) (w : List Post) (legal : IsLegalJournal f.formula f.rules w) where
  pub follows : (h : List Post) (p : Post) → IsPrefix (h ++ p ∷ []) w → MayFollow f.formula f.rules h p
  follows h p (rest, e) =
      let is : h ++ p ∷ rest ≡ w = sym (append_assoc h (p ∷ []) rest) ∙ e in
      subst (λ l. MayFollow f.formula f.rules l p) (ap (take (length h)) (sym is) ∙ take-append_seam h (p ∷ rest))
      (legal (length h) p (ap (λ l. slice_get l (length h)) (sym is) ∙ at_seam h p rest))

-- the next number never falls
next_grows : (f : Formula) (h more : List Post) → (folded f h).formula.next ≤ (folded f (h ++ more)).formula.next
next_grows f h [] = let e = ap (λ l. (folded f l).formula.next) (append-nil h) in omega arith
next_grows f h (p ∷ ps) =
    let rest : (folded f (h ++ p ∷ [])).formula.next ≤ (folded f ((h ++ p ∷ []) ++ ps)).formula.next = next_grows f (h ++ p ∷ []) ps in
    let push = ap (λ (s : State). s.formula.next) (folded-push f h p) ∙ after-next (folded f h) p.entry in
    let is = ap (λ l. (folded f l).formula.next) (append_assoc h (p ∷ []) ps) in
    omega arith

-- ---- stops

-- no empty clause, no spent budget and no end of the numbers before a post
refuted_not : (f : Base) (h : List Post) (p : Post) → MayFollow f.formula f.rules h p → has_empty (left_by f h).clauses ≡ true → ⊥
unfolding is_legal
refuted_not f h p may empty =
    let t = (and_parts (not (has_empty (left_by f h).clauses)) (is_legal_in (left_by f h).clauses f.rules p.entry) may.legal).0 in
    false≢true (sym (ap not empty) ∙ t)

spent_not : (f : Base) (h : List Post) (p : Post) → MayFollow f.formula f.rules h p → is_spent f.rules (commits h) ≡ true → ⊥
spent_not f h p may spent = go may.in_budget
  where
    go : (f.rules.budget ≡ 0) ⊎ (commits h < f.rules.budget) → ⊥
    go (inl none) = false≢true (ap (λ n. not (n == 0) && (commits h == n)) (sym none) ∙ spent)
    go (inr below) = let same = eqb-true (commits h) f.rules.budget (and_parts (not (f.rules.budget == 0)) (commits h == f.rules.budget) spent).1 in omega arith

module _ (f : Base) (w h : List Post) (p : Post) (e : Entry) (legal : IsLegalJournal f.formula f.rules w) (there : IsPrefix (h ++ p ∷ []) w) (entry : p.entry ≡ numbered (left_by f h).next e) where
  numbers_not : (hh : List Post) → IsPrefix hh h → nat_lt number_limit ((left_by f hh).next + length (new_clauses e)) ≡ true → ⊥
  numbers_not hh (more, is) past =
      let may = follows f w legal h p there in
      let grows = next_grows f.formula hh more in
      let same = ap (λ l. (folded f.formula l).formula.next) is in
      let after = after-next (folded f.formula h) p.entry in
      let count = ap (λ (d : Entry). length (new_clauses d)) entry ∙ count-numbered (left_by f h).next e in
      let beyond : number_limit < (left_by f hh).next + length (new_clauses e) = ltb-true number_limit ((left_by f hh).next + length (new_clauses e)) past in
      let most = may.in_range in
      omega arith

  -- an entry that was posted after h was not refused before
  pub no_stop : (hh : List Post) (s : Stop) → IsPrefix hh h → IsStopAfter f hh e s → ⊥
  no_stop hh Refuted front stop = let n = next_after hh h w p front there in refuted_not f hh n.0 (follows f w legal hh n.0 n.1) stop
  no_stop hh Spent front stop = let n = next_after hh h w p front there in spent_not f hh n.0 (follows f w legal hh n.0 n.1) stop.1
  no_stop hh Numbers front stop = numbers_not hh front stop.2
