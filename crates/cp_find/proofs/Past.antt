-- What a search has passed: of each list at the start, of a part of the clauses where of all, and after what was found.
use Rattle.std.proofs.Common.{◌≡◌, ℕ, ◌<◌, ◌≤◌, Bool, true, false, cond, List, [], ◌∷◌, Option, Some, None, refl, sym, ◌∙◌, ap, subst, inl, inr, arith}
use Rattle.std.specs.Prelude.{◌⊎◌, nat_le}
use Rattle.std.specs.Option.{option_map, option_and_then, option_or}
use Rattle.std.specs.List.{Contains, find, filter}
use Rattle.std.proofs.lemmas.Bool.{eq-eqb, ne_eqb, cases_eq}
use Rattle.std.proofs.lemmas.Bool.Decides.{nat_tests}
use Rattle.std.proofs.lemmas.Option.{none-some, same_Some}
use Rattle.std.proofs.lemmas.List.Elements.{Contains-append_cases}
use Rattle.cp_logic.specs.declared.named.Named.{Named}
use Rattle.cp_logic.specs.Clauses.{is_tautology, has_variable, IsAscending}
use Rattle.cp_logic.specs.Formulas.{numbers_of, without_numbers, occurrences}
use Rattle.cp_logic.specs.Entries.{Entry, Subsume, gone_clauses, new_clauses}
use Rattle.cp_logic.specs.Legality.{strengthening, rank_of}
use Rattle.cp_logic.proofs.Members.{none_in, in_here, in_later, in_cases, in_map}
use Rattle.cp_logic.proofs.Ascending.{below_others, same_number}
use Rattle.cp_logic.specs.Locality.{after}
use Rattle.cp_logic.proofs.Eliminations.{filter_all, of_without_numbers}
use Rattle.cp_logic.proofs.Locals.{find_none}
use Rattle.cp_occ.specs.Cells.{from_number}
use Rattle.cp_find.specs.declared.reached.Pair.{Pair}
use Rattle.cp_find.specs.declared.reached.Reached.{Reached}
use Rattle.cp_find.specs.Finds.{subsumes, struck, strengthens}
use Rattle.cp_find.specs.Lookups.{LookupView, Covers}
use Rattle.cp_find.specs.Past.{IsBelow, ArePassed, IsPast, strengthens_at, strengthens_by, first_other}
use Rattle.cp_find.proofs.Firsts.{subsumption_by, strengthening_by}
use Rattle.cp_find.proofs.Scans.{first_some}

-- ---- the clauses that a search is of

-- what is passed among some clauses is passed among some of these
pub past-within : (x : ℕ) (cs ds : List Named) (r : Reached) → ((c : Named) → Contains ds c → Contains cs c) → IsPast x cs r → IsPast x ds r
past-within x cs ds r h p = record {
  tautologies = λ c i. p.tautologies c (h c i);
  subsumptions = λ by other i j. p.subsumptions by other (h by i) (h other j);
  strengthenings = λ by other i j. p.strengthenings by other (h by i) (h other j);
  covers = λ c i. p.covers c (h c i);
}

-- nothing is passed at the start
pub past-start : (x : ℕ) (cs : List Named) (lookup : LookupView) → Covers x cs lookup
    → (let first : Pair = record { by = 0; other = 0 } in IsPast x cs (record { tautology = Some 0; subsumption = Some first; strengthening = Some first; lookup = lookup }))
past-start x cs lookup h = record {
  tautologies = λ c i l. absurd (omega (arith, l));
  subsumptions = λ by other i j l. absurd (none by.number other.number l);
  strengthenings = λ by other i j l. absurd (none by.number other.number l);
  covers = h;
}
  where
    none : (n m : ℕ) → (n < 0) ⊎ ((n ≡ 0) × (m < 0)) → ⊥
    none n m (inl l) = omega (arith, l)
    none n m (inr t) = let l = t.1 in omega (arith, l)

-- and so it is passed after an entry that has no new clause of the variable
pub past-after : (x : ℕ) (cs : List Named) (r : Reached) (e : Entry) → occurrences (new_clauses e) x ≡ [] → IsPast x cs r → IsPast x (after cs x e) r
past-after x cs r e h p = past-within x cs (after cs x e) r
    (λ c i. elim (Contains-append_cases (without_numbers cs (numbers_of (gone_clauses e))) (occurrences (new_clauses e) x) c i) [
      | inl j ↦ (of_without_numbers cs (numbers_of (gone_clauses e)) c j).0
      | inr j ↦ absurd (none_in c (subst (λ ds. Contains ds c) h j))
    ]) p

-- a clause without the variable is no new clause of it
pub no_new : (x : ℕ) (n : Named) → has_variable x n.clause ≡ false → occurrences (n ∷ []) x ≡ []
no_new x n e = ap (λ b. cond b (n ∷ []) []) e

-- ---- the first answer over clauses by ascending number

module _ {X : Type 0} (f : Named → Option X) where
  -- it is of one of the clauses, and those of lesser numbers give none
  pub first-owner : (cs : List Named) (e : X) → IsAscending (numbers_of cs) → first_some f cs ≡ Some e
      → (c : Named) × Contains cs c × (f c ≡ Some e) × ((b : Named) → Contains cs b → b.number < c.number → f b ≡ None)
  first-owner [] e a h = absurd (none-some e h)
  first-owner (c ∷ cs) e a h = go (f c) refl h (first-owner cs e a.1)
    where
      below : (b : Named) → Contains cs b → c.number < b.number
      below b i = below_others c.number (numbers_of cs) b.number a (in_map (λ (d : Named). d.number) cs b i)

      go : (o : Option X) → f c ≡ o → option_or o (first_some f cs) ≡ Some e
          → (first_some f cs ≡ Some e → (d : Named) × Contains cs d × (f d ≡ Some e) × ((b : Named) → Contains cs b → b.number < d.number → f b ≡ None))
          → (d : Named) × Contains (c ∷ cs) d × (f d ≡ Some e) × ((b : Named) → Contains (c ∷ cs) b → b.number < d.number → f b ≡ None)
      go (Some d) p q more = (
        c,
        in_here c c cs refl,
        p ∙ q,
        λ b i l. elim (in_cases b c cs i) [
          | inl s ↦ let same : c.number ≡ b.number = ap (λ (n : Named). n.number) s in absurd (omega arith)
          | inr j ↦ let less = below b j in absurd (omega (arith, less))
        ],
      )
      go None p q more = let m = more q in (
        m.0,
        in_later m.0 c cs m.1,
        m.2,
        λ b i l. elim (in_cases b c cs i) [
          | inl s ↦ subst (λ z. f z ≡ None) s p
          | inr j ↦ m.3 b j l
        ],
      )

  -- where there is none, each gives none
  pub first-none : (cs : List Named) → first_some f cs ≡ None → (b : Named) → Contains cs b → f b ≡ None
  first-none [] h b i = absurd (none_in b i)
  first-none (c ∷ cs) h b i = go (f c) refl h (λ q. first-none cs q b)
    where
      go : (o : Option X) → f c ≡ o → option_or o (first_some f cs) ≡ None → (first_some f cs ≡ None → Contains cs b → f b ≡ None) → f b ≡ None
      go (Some d) p q more = absurd (none-some d (sym q))
      go None p q more = elim (in_cases b c cs i) [
        | inl s ↦ subst (λ z. f z ≡ None) s p
        | inr j ↦ more q j
      ]

  -- where each gives none, there is none
  pub none-first : (cs : List Named) → ((b : Named) → Contains cs b → f b ≡ None) → first_some f cs ≡ None
  none-first [] h = refl
  none-first (c ∷ cs) h = ap (λ o. option_or o (first_some f cs)) (h c (in_here c c cs refl)) ∙ none-first cs (λ b i. h b (in_later b c cs i))

-- among those that pass a test, where the others give none
pub first-kept : {X : Type 0} (f g : Named → Option X) (q : Named → Bool) (cs : List Named) → ((b : Named) → Contains cs b → q b ≡ false → g b ≡ None)
    → ((b : Named) → Contains cs b → q b ≡ true → f b ≡ g b) → first_some f (filter q cs) ≡ first_some g cs
first-kept f g q [] n h = refl
first-kept f g q (c ∷ cs) n h = go (q c) refl (first-kept f g q cs (λ b i. n b (in_later b c cs i)) (λ b i. h b (in_later b c cs i)))
  where
    here : Contains (c ∷ cs) c
    here = in_here c c cs refl

    go : (b : Bool) → q c ≡ b → first_some f (filter q cs) ≡ first_some g cs → first_some f (cond (q c) (c ∷ filter q cs) (filter q cs)) ≡ option_or (g c) (first_some g cs)
    go true p e = ap (λ b. first_some f (cond b (c ∷ filter q cs) (filter q cs))) p ∙ ap (λ o. option_or o (first_some f (filter q cs))) (h c here p) ∙ ap (option_or (g c)) e
    go false p e = ap (λ b. first_some f (cond b (c ∷ filter q cs) (filter q cs))) p ∙ e ∙ ap (λ o. option_or o (first_some g cs)) (sym (n c here p))

-- a search for the first that passes is such a search
chosen : (Named → Bool) → Named → Option Named
chosen p c = cond (p c) (Some c) None

find-chosen : (p : Named → Bool) (cs : List Named) → first_some (chosen p) cs ≡ find p cs
unfolding chosen
find-chosen p [] = refl
find-chosen p (c ∷ cs) = go (p c) (find-chosen p cs)
  where
    go : (b : Bool) → first_some (chosen p) cs ≡ find p cs → option_or (cond b (Some c) None) (first_some (chosen p) cs) ≡ cond b (Some c) (find p cs)
    go true e = refl
    go false e = e

chosen-none : (p : Named → Bool) (c : Named) → chosen p c ≡ None → p c ≡ false
unfolding chosen
chosen-none p c h = go (p c) refl h
  where
    go : (b : Bool) → p c ≡ b → cond b (Some c) None ≡ None → p c ≡ false
    go true e n = absurd (none-some c (sym n))
    go false e n = e

not_chosen : (p : Named → Bool) (c : Named) → p c ≡ false → chosen p c ≡ None
unfolding chosen
not_chosen p c e = ap (λ b. cond b (Some c) None) e

module _ (p : Named → Bool) where
  pub find-before : (cs : List Named) (d : Named) → IsAscending (numbers_of cs) → find p cs ≡ Some d → (b : Named) → Contains cs b → b.number < d.number → p b ≡ false
  unfolding chosen
  find-before cs d a h b i l =
      let m = first-owner (chosen p) cs d a (find-chosen p cs ∙ h) in
      chosen-none p b (m.3 b i (subst (λ (z : Named). b.number < z.number) (sym (same m.0 (p m.0) m.2)) l))
    where
      same : (c : Named) (b : Bool) → cond b (Some c) None ≡ Some d → c ≡ d
      same c true q = same_Some c d q
      same c false q = absurd (none-some d q)

  pub find-each : (cs : List Named) → find p cs ≡ None → (b : Named) → Contains cs b → p b ≡ false
  find-each cs h b i = chosen-none p b (first-none (chosen p) cs (find-chosen p cs ∙ h) b i)

  -- among those that pass another test, where none of the rest passes
  pub find-kept : (q : Named → Bool) (cs : List Named) → ((b : Named) → Contains cs b → q b ≡ false → p b ≡ false) → find p (filter q cs) ≡ find p cs
  find-kept q cs n = sym (find-chosen p (filter q cs)) ∙ first-kept (chosen p) (chosen p) q cs (λ b i e. not_chosen p b (n b i e)) (λ b i e. refl) ∙ find-chosen p cs

-- a number that is not from n on is below it
below-from : (n m : ℕ) → nat_le n m ≡ false → m < n
below-from n m e = grind (arith, nat_tests)

-- ---- tautologies

module _ (x : ℕ) (cs : List Named) where
  -- the first tautology is the first from the number on
  pub taut-left : (r : Reached) (n : ℕ) → r.tautology ≡ Some n → IsPast x cs r
      → find (λ (c : Named). is_tautology c.clause) (from_number n cs) ≡ find (λ (c : Named). is_tautology c.clause) cs
  taut-left r n e p = find-kept (λ (c : Named). is_tautology c.clause) (λ (c : Named). nat_le n c.number) cs
      (λ c i q. p.tautologies c i (subst (λ o. IsBelow o c.number) (sym e) (below-from n c.number q)))

  pub taut-none : (r : Reached) → r.tautology ≡ None → IsPast x cs r → find (λ (c : Named). is_tautology c.clause) cs ≡ None
  taut-none r e p = find_none (λ (c : Named). is_tautology c.clause) cs (λ c i. p.tautologies c i (subst (λ o. IsBelow o c.number) (sym e) tt))

  -- what is passed once the search has found one, or none
  pub taut-found : (r : Reached) (c : Named) → IsAscending (numbers_of cs) → find (λ (c : Named). is_tautology c.clause) cs ≡ Some c → IsPast x cs r
      → IsPast x cs (record { tautology = Some c.number; subsumption = r.subsumption; strengthening = r.strengthening; lookup = r.lookup })
  taut-found r c a h p = record {
    tautologies = λ b i l. find-before (λ (d : Named). is_tautology d.clause) cs c a h b i l;
    subsumptions = p.subsumptions;
    strengthenings = p.strengthenings;
    covers = p.covers;
  }

  pub taut-gone : (r : Reached) → find (λ (c : Named). is_tautology c.clause) cs ≡ None → IsPast x cs r
      → IsPast x cs (record { tautology = None; subsumption = r.subsumption; strengthening = r.strengthening; lookup = r.lookup })
  taut-gone r h p = record {
    tautologies = λ b i l. find-each (λ (d : Named). is_tautology d.clause) cs h b i;
    subsumptions = p.subsumptions;
    strengthenings = p.strengthenings;
    covers = p.covers;
  }

-- ---- pairs

-- the numbers of the pair that an entry of a kind with pairs names
abbrev pub pair_of : Entry → Pair
pair_of e = record { by = (rank_of e).major; other = (rank_of e).minor }

-- what a clause gives goes with the first of the others that passes: none with none, and an entry of the two with it
pub record Ties (test : Named → Named → Bool) (answer : List Named → Named → Option Entry) : Type 0 where
  pub none : (cs : List Named) (b : Named) → find (test b) cs ≡ None → answer cs b ≡ None
  pub some : (cs : List Named) (b o : Named) → find (test b) cs ≡ Some o → (e : Entry) × (answer cs b ≡ Some e) × (pair_of e ≡ (let p : Pair = record { by = b.number; other = o.number } in p))
  pub same : (cs ds : List Named) (b : Named) → find (test b) cs ≡ find (test b) ds → answer cs b ≡ answer ds b

module _ (test : Named → Named → Bool) (answer : List Named → Named → Option Entry) (ties : Ties test answer) (cs : List Named) where
  -- where all pairs are passed, there is no answer
  pub pairs-none : ArePassed test cs None → first_some (answer cs) cs ≡ None
  pairs-none p = none-first (answer cs) cs (λ b i. ties.none cs b (find_none (test b) cs (λ o j. p b o i j tt)))

  -- where those before an end are, the first answer is that of the clauses and others from the end on
  pub pairs-left : (end : Pair) → ArePassed test cs (Some end)
      → first_some (λ (b : Named). answer (from_number (first_other end b.number) cs) b) (from_number end.by cs) ≡ first_some (answer cs) cs
  pairs-left end p = first-kept (λ (b : Named). answer (from_number (first_other end b.number) cs) b) (answer cs) (λ (b : Named). nat_le end.by b.number) cs
      (λ b i e. ties.none cs b (find_none (test b) cs (λ o j. p b o i j (inl (below-from end.by b.number e)))))
      (λ b i e. ties.same (from_number (first_other end b.number) cs) cs b (find-kept (test b) (λ (o : Named). nat_le (first_other end b.number) o.number) cs
      (λ o j l. elim (cases_eq b.number end.by) [
        | inl s ↦ p b o i j (inr (s, subst (λ n. o.number < n) (ap (λ c. cond c end.other 0) (eq-eqb b.number end.by s)) (below-from (first_other end b.number) o.number l)))
        | inr n ↦
            let less : o.number < 0 = subst (λ n. o.number < n) (ap (λ c. cond c end.other 0) (ne_eqb b.number end.by n)) (below-from (first_other end b.number) o.number l) in
            absurd (omega arith)
      ])))

  -- no answer: all are passed
  pub pairs-gone : first_some (answer cs) cs ≡ None → ArePassed test cs None
  pairs-gone h by other i j l = go (find (test by) cs) refl
    where
      go : (o : Option Named) → find (test by) cs ≡ o → test by other ≡ false
      go None e = find-each (test by) cs e other j
      go (Some o) e = let m = ties.some cs by o e in absurd (none-some m.0 (sym (first-none (answer cs) cs h by i) ∙ m.1))

  -- an answer: all before its pair are
  pub pairs-found : (e : Entry) → IsAscending (numbers_of cs) → first_some (answer cs) cs ≡ Some e → ArePassed test cs (Some (pair_of e))
  pairs-found e a h by other i j l =
      let m = first-owner (answer cs) cs e a h in go m.0 m.1 m.2 m.3 (find (test m.0) cs) refl
    where
      earlier : (o : Option Named) → find (test by) cs ≡ o → answer cs by ≡ None → test by other ≡ false
      earlier None q n = find-each (test by) cs q other j
      earlier (Some o) q n = let m = ties.some cs by o q in absurd (none-some m.0 (sym n ∙ m.1))

      go : (c : Named) → Contains cs c → answer cs c ≡ Some e → ((b : Named) → Contains cs b → b.number < c.number → answer cs b ≡ None)
          → (o : Option Named) → find (test c) cs ≡ o → test by other ≡ false
      go c k q before None s = absurd (none-some e (sym (ties.none cs c s) ∙ q))
      go c k q before (Some o) s =
          let m = ties.some cs c o s in
          let pair : pair_of e ≡ (let p : Pair = record { by = c.number; other = o.number } in p) = ap pair_of (sym (same_Some m.0 e (sym m.1 ∙ q))) ∙ m.2 in
          elim (subst (λ (p : Pair). (by.number < p.by) ⊎ ((by.number ≡ p.by) × (other.number < p.other))) pair l) [
            | inl less ↦ earlier (find (test by) cs) refl (before by i less)
            | inr t ↦ subst (λ (b : Named). test b other ≡ false) (sym (same_number cs by c a i k t.0)) (find-before (test c) cs o a s other j t.1)
          ]

-- ---- subsumptions and strengthenings

pub subsumptions-tie : Ties subsumes subsumption_by
subsumptions-tie = record {
  none = λ cs b e. ap (option_map (Subsume b)) e;
  some = λ cs b o e. (Subsume b o, ap (option_map (Subsume b)) e, refl);
  same = λ cs ds b e. ap (option_map (Subsume b)) e;
}

pub strengthenings-tie : (x next : ℕ) → Ties (strengthens_at x) (strengthening_by x next)
strengthenings-tie x next = record {
  none = λ cs b e. none cs b (struck x b.clause) e;
  some = λ cs b o e. some cs b o (struck x b.clause) e;
  same = λ cs ds b e. same cs ds b (struck x b.clause) e;
}
  where
    none : (cs : List Named) (b : Named) (s : Option ℕ) → find (strengthens_by s b) cs ≡ None
        → option_and_then (λ l. option_map (λ on. strengthening next b on l) (find (strengthens l b) cs)) s ≡ None
    none cs b None e = refl
    none cs b (Some l) e = ap (option_map (λ on. strengthening next b on l)) e

    some : (cs : List Named) (b o : Named) (s : Option ℕ) → find (strengthens_by s b) cs ≡ Some o
        → (e : Entry) × (option_and_then (λ l. option_map (λ on. strengthening next b on l) (find (strengthens l b) cs)) s ≡ Some e) × (pair_of e ≡ (let p : Pair = record { by = b.number; other = o.number } in p))
    some cs b o None e = absurd (none-some o (sym (find_none (strengthens_by None b) cs (λ c i. refl)) ∙ e))
    some cs b o (Some l) e = (strengthening next b o l, ap (option_map (λ on. strengthening next b on l)) e, refl)

    same : (cs ds : List Named) (b : Named) (s : Option ℕ) → find (strengthens_by s b) cs ≡ find (strengthens_by s b) ds
        → option_and_then (λ l. option_map (λ on. strengthening next b on l) (find (strengthens l b) cs)) s
        ≡ option_and_then (λ l. option_map (λ on. strengthening next b on l) (find (strengthens l b) ds)) s
    same cs ds b None e = refl
    same cs ds b (Some l) e = ap (option_map (λ on. strengthening next b on l)) e
