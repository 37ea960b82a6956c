-- Cells are changed, one variable of a clause after the other.
use Rattle.std.proofs.Common.{◌≡◌, ℕ, zero, suc, ◌+◌, ◌<◌, ◌≤◌, Bool, true, false, not, cond, List, [], ◌∷◌, ◌++◌, length, take, drop, map, set, get_or, add-zero, refl, sym, ◌∙◌, ap, subst, inl, inr, arith}
use Rattle.std.specs.Prelude.{◌==◌, ◌≢◌, ◌||◌, IsTrue}
use Rattle.std.specs.List.{All, Contains, filter}
use Rattle.std.proofs.Math.Seq.{take-suc, map-set_same}
use Rattle.std.proofs.lemmas.Bool.{eq-eqb, ne_eqb, eqb-true, false≢true, cases_eq}
use Rattle.std.proofs.lemmas.List.{append-nil, map-append, length-append, take_all, get_or-map, get_or_default, length-set, get_or-set_same, get_or-set_other}
use Rattle.std.proofs.lemmas.List.Elements.{All-append, All-contains, All-filter, Contains-append_right, Contains-append_cases, Contains-get_or, filter-append}
use Rattle.std.proofs.lemmas.Bool.{false_from_ne_true}
use Rattle.cp_logic.specs.declared.named.Named.{Named}
use Rattle.cp_logic.specs.Literals.{variable_of, IsLiteral}
use Rattle.cp_logic.specs.Clauses.{contains, has_variable, IsAscending}
use Rattle.cp_logic.specs.Formulas.{numbers_of, occurrences, without_numbers}
use Rattle.cp_logic.specs.Entries.{Entry, gone_clauses, new_clauses}
use Rattle.cp_logic.specs.Locality.{after}
use Rattle.cp_logic.proofs.Members.{any_member, contains-in, in_contains, in_here, in_later, in_cases, in_map, of_map, none_in, of_filter}
use Rattle.cp_logic.proofs.Ascending.{below_others}
use Rattle.cp_logic.proofs.Changes.{without_one, without_none, without_both}
use Rattle.cp_occ.specs.Cells.{CellView, variables_after, variables_of, lists_of}
use Rattle.cp_occ.specs.Changes.{AreOver, Each, IsRoomier, IsWithout, IsWith, IsChanged, lists_after}
use Rattle.cp_occ.proofs.Numbered.{same_place, without-absent}
use Rattle.cp_occ.proofs.Entered.{contains-after, rising-after, without-it, with-it, lent-back}

-- ---- the variables of a clause

-- no literal is of the variable 0
none-zero : (clause : List ℕ) → All IsLiteral clause → has_variable 0 clause ≡ false
none-zero clause literals = false_from_ne_true (has_variable 0 clause) (λ q.
    let m = any_member (λ l. variable_of l == 0) clause q in
    let zero-is : variable_of m.0 ≡ 0 = eqb-true (variable_of m.0) 0 m.2 in
    let low : 2 ≤ m.0 = (All-contains IsLiteral clause m.0 literals m.1).0 in
    omega arith)

-- they are those that the clause has
variables-has : (clause : List ℕ) (x : ℕ) → IsAscending clause → All IsLiteral clause → contains (variables_after 0 clause) x ≡ has_variable x clause
variables-has clause x ascending literals = elim (cases_eq x 0) [
  | inl e ↦
      let rest = rising-after 0 clause ascending (λ l i. omega arith) in
      rw e
      (false_from_ne_true (contains (variables_after 0 clause) 0) (λ q. let l : 0 < 0 = rest.1 0 (contains-in (variables_after 0 clause) 0 q) in omega arith)
      ∙ sym (none-zero clause literals))
  | inr ne ↦ contains-after 0 clause x ne
]

-- a clause over these variables has no other
over-has : (variables clause : List ℕ) (v : ℕ) → AreOver variables clause → has_variable v clause ≡ true → contains variables v ≡ true
over-has variables clause v over has =
    let m = any_member (λ l. variable_of l == v) clause has in
    subst (λ w. contains variables w ≡ true) (eqb-true (variable_of m.0) v m.2) (All-contains (λ l. IsTrue (contains variables (variable_of l))) clause m.0 over m.1)

-- a variable of the cells has a cell
pub has-cell : (cells : List CellView) (v : ℕ) → contains (variables_of cells) v ≡ true → All (λ (c : CellView). c.variable ≢ v) cells → ⊥
has-cell cells v has none =
    let m = of_map (λ (c : CellView). c.variable) cells v (contains-in (variables_of cells) v has) in
    All-contains (λ (c : CellView). c.variable ≢ v) cells m.0 none m.1 m.2

-- ---- one variable of a clause after the other

-- the cells of the variables that are left are as they were, and the others are changed
pub record Going (P : CellView → CellView → Type 0) (clause : List ℕ) (old cells : List CellView) (left : List ℕ) : Type 0 where
  pub len : length cells ≡ length old
  pub ascending : IsAscending (variables_of old)
  pub variables : variables_of cells ≡ variables_of old
  pub rising : IsAscending left
  pub over : (v : ℕ) → Contains left v → contains (variables_of old) v ≡ true
  pub has : (v : ℕ) → Contains left v → has_variable v clause ≡ true
  pub waiting : (k : ℕ) (d : CellView) → k < length old → contains left (get_or old k d).variable ≡ true → get_or cells k d ≡ get_or old k d
  pub done : (k : ℕ) (d : CellView) → k < length old → contains left (get_or old k d).variable ≡ false → P (get_or old k d) (get_or cells k d)

-- at first no cell is changed, which suits those of no variable of the clause
pub Going-start : (P : CellView → CellView → Type 0) (clause : List ℕ) (old : List CellView) → IsAscending (variables_of old) → IsAscending clause → All IsLiteral clause → AreOver (variables_of old) clause
    → ((k : ℕ) (d : CellView) → k < length old → has_variable (get_or old k d).variable clause ≡ false → P (get_or old k d) (get_or old k d))
    → Going P clause old old (variables_after 0 clause)
Going-start P clause old variables ascending literals over same =
    let has : (v : ℕ) → Contains (variables_after 0 clause) v → has_variable v clause ≡ true = λ v i. sym (variables-has clause v ascending literals) ∙ in_contains (variables_after 0 clause) v i in
    record {
      len = refl;
      ascending = variables;
      variables = refl;
      rising = (rising-after 0 clause ascending (λ l i. omega arith)).0;
      over = λ v i. over-has (variables_of old) clause v over (has v i);
      has = has;
      waiting = λ k d h e. refl;
      done = λ k d h e. same k d h (sym (variables-has clause (get_or old k d).variable ascending literals) ∙ e);
    }

-- the variables that are left begin with this one
pub Going-next : (P : CellView → CellView → Type 0) (clause : List ℕ) (old cells : List CellView) (items : List ℕ) (v : ℕ) (left : List ℕ) → Going P clause old cells items → items ≡ v ∷ left → Going P clause old cells (v ∷ left)
Going-next P clause old cells items v left s e = subst (Going P clause old cells) e s

module _ (P : CellView → CellView → Type 0) (clause : List ℕ) (old cells : List CellView) (v : ℕ) (left : List ℕ) (s : Going P clause old cells (v ∷ left)) where
  -- the next variable has a cell
  pub next-ascending : IsAscending (variables_of cells)
  next-ascending = subst IsAscending (sym s.variables) s.ascending

  pub next-over : contains (variables_of cells) v ≡ true
  next-over = ap (λ vs. contains vs v) s.variables ∙ s.over v (in_here v v left refl)

  -- its cell is changed
  module _ (i : ℕ) (bound : i < length cells) (at : (d : CellView) → (get_or cells i d).variable ≡ v) where
    pub next-old : i < length old
    next-old = let len : length cells ≡ length old = s.len in omega arith

    old-variable : (d : CellView) → (get_or old i d).variable ≡ v
    old-variable d =
        sym (get_or-map (λ (c : CellView). c.variable) old i d 0 next-old) ∙ ap (λ vs. get_or vs i 0) (sym s.variables)
        ∙ get_or-map (λ (c : CellView). c.variable) cells i d 0 bound ∙ at d

    next-gone : contains left v ≡ false
    next-gone = false_from_ne_true (contains left v) (λ q. let l : v < v = below_others v left v s.rising (contains-in left v q) in omega arith)

    -- it is as it was
    pub next-same : (d : CellView) → get_or cells i d ≡ get_or old i d
    next-same d = s.waiting i d next-old (ap (λ b. b || contains left (get_or old i d).variable) (eq-eqb v (get_or old i d).variable (sym (old-variable d))))

    pub next-has_cell : (d : CellView) → has_variable (get_or cells i d).variable clause ≡ true
    next-has_cell d = ap (λ x. has_variable x clause) (at d) ∙ s.has v (in_here v v left refl)

    other-left : (k : ℕ) (d : CellView) → k < length old → k ≢ i → contains (v ∷ left) (get_or old k d).variable ≡ contains left (get_or old k d).variable
    other-left k d h ne =
        ap (λ b. b || contains left (get_or old k d).variable)
        (ne_eqb v (get_or old k d).variable (λ e. ne (same_place (λ (c : CellView). c.variable) old k i d s.ascending h next-old (sym e ∙ sym (old-variable d)))))

    pub Going-step : (r e : CellView) → e.variable ≡ (get_or cells i r).variable → P (get_or cells i r) e → Going P clause old (set cells i e) left
    Going-step r e same p = record {
      len = length-set cells i e ∙ s.len;
      ascending = s.ascending;
      variables = map-set_same (λ (c : CellView). c.variable) cells i e r same ∙ s.variables;
      rising = s.rising.1;
      over = λ w j. s.over w (in_later w v left j);
      has = λ w j. s.has w (in_later w v left j);
      waiting = λ k d h t. elim (cases_eq k i) [
        | inl q ↦ absurd (false≢true (sym next-gone ∙ ap (contains left) (sym (old-variable d)) ∙ subst (λ j. contains left (get_or old j d).variable ≡ true) q t))
        | inr ne ↦ get_or-set_other cells i k e d ne ∙ s.waiting k d h (other-left k d h ne ∙ t)
      ];
      done = λ k d h f. elim (cases_eq k i) [
        | inl q ↦
            subst (λ j. P (get_or old j d) (get_or (set cells i e) j d)) (sym q)
            (subst (λ (c : CellView). P (get_or old i d) c) (sym (get_or-set_same cells i e d bound))
            (subst (λ (c : CellView). P c e) (get_or_default cells i r d bound ∙ next-same d) p))
        | inr ne ↦ subst (λ (c : CellView). P (get_or old k d) c) (sym (get_or-set_other cells i k e d ne)) (s.done k d h (other-left k d h ne ∙ f))
      ];
    }

-- ---- cells of no variable of the clause

pub same-room : (n : ℕ) (added : Named) (c : CellView) → has_variable c.variable added.clause ≡ false → IsRoomier n (added ∷ []) c c
same-room n added c f = record {
  variable = refl;
  clauses = refl;
  more = omega arith;
  room = λ d i t. elim (in_cases d added [] i) [
    | inl e ↦ absurd (false≢true (sym f ∙ subst (λ (z : Named). has_variable c.variable z.clause ≡ true) (sym e) t))
    | inr z ↦ absurd (none_in d z)
  ];
}

pub same-without : (gone : Named) (c : CellView) → All (λ (n : Named). n.number ≡ gone.number → IsTrue (has_variable c.variable gone.clause)) c.clauses → has_variable c.variable gone.clause ≡ false
    → IsWithout (gone ∷ []) c c
same-without gone c named f = record {
  variable = refl;
  clauses = sym (without-absent c.clauses gone.number (λ k d h e. false≢true (sym f ∙ named k d h e))) ∙ without_one c.clauses gone.number;
  spare = omega arith;
}

pub same-with : (added : Named) (c : CellView) → has_variable c.variable added.clause ≡ false → IsWith (added ∷ []) c c
same-with added c f = record {
  variable = refl;
  clauses = sym (ap (λ (ns : List Named). c.clauses ++ ns) (without-it added c.variable f) ∙ append-nil c.clauses);
  spare = ap (λ (ns : List Named). c.spare + length ns) (without-it added c.variable f) ∙ add-zero c.spare;
}

-- ---- a cell of a variable of the clause

pub one-with : (added : Named) (c e : CellView) (place : List ℕ) → has_variable c.variable added.clause ≡ true → place ≡ added.clause → e.variable ≡ c.variable
    → e.clauses ≡ c.clauses ++ record { number = added.number; clause = place } ∷ [] → e.spare + 1 ≡ c.spare → IsWith (added ∷ []) c e
one-with added c e place has same variable clauses spare = record {
  variable = variable;
  clauses =
      clauses ∙ ap (λ (ls : List ℕ). c.clauses ++ record { number = added.number; clause = ls } ∷ []) same
      ∙ ap (λ (ns : List Named). c.clauses ++ ns) (sym (with-it added c.variable has));
  spare = ap (λ (ns : List Named). e.spare + length ns) (with-it added c.variable has) ∙ spare;
}

-- ---- places of one clause

-- of as many places of a clause as there are variables, the last is of the clause, and the others are of the other variables
pub last-place : (clause : List ℕ) (v : ℕ) (left : List ℕ) (front : List (List ℕ)) (place : List ℕ) → map (λ w. clause) (v ∷ left) ≡ front ++ place ∷ []
    → (place ≡ clause) × (front ≡ map (λ w. clause) left)
last-place clause v [] [] place e = (sym (cc), refl)
last-place clause v [] (f ∷ []) place e = absurd (cc)
last-place clause v [] (f ∷ g ∷ fs) place e = absurd (cc)
last-place clause v (w ∷ left) [] place e = absurd (cc)
last-place clause v (w ∷ left) (f ∷ fs) place e =
    let rest : map (λ w. clause) (w ∷ left) ≡ fs ++ place ∷ [] = cc in
    let first : f ≡ clause = cc in
    let more = last-place clause w left fs place rest in
    (more.0, let m : fs ≡ map (λ w. clause) left = more.1 in cc)

-- the places of one clause more
pub places-more : (f : Named → List (List ℕ)) (all : List Named) (i : ℕ) (c : Named) (old new : List (List (List ℕ))) (place : List (List ℕ)) → i < length all → get_or all i c ≡ c
    → old ≡ map f (take i all) → place ≡ f c → new ≡ old ++ place ∷ [] → new ≡ map f (take (i + 1) all)
places-more f all i c old new place h is before here pushed =
    let e : i + 1 ≡ suc i = omega arith in
    pushed ∙ ap (λ (ps : List (List (List ℕ))). ps ++ place ∷ []) before ∙ ap (λ (p : List (List ℕ)). map f (take i all) ++ p ∷ []) here ∙ sym (map-append f (take i all) (c ∷ []))
    ∙ ap (map f) (sym (ap (λ m. take m all) e ∙ take-suc all i c h ∙ ap (λ (x : Named). take i all ++ x ∷ []) is))

-- ---- lists of cells

-- what each new cell has in common with the old one
pub Each-map : {X : Type 0} (P : CellView → CellView → Type 0) (h g : CellView → X) (old new : List CellView) → ((a b : CellView) → P a b → h b ≡ g a) → Each P old new → map h new ≡ map g old
Each-map P h g [] [] same e = refl
Each-map P h g [] (b ∷ new) same e = let l : suc (length new) ≡ 0 = e.len in absurd (omega arith)
Each-map P h g (a ∷ old) [] same e = let l : 0 ≡ suc (length old) = e.len in absurd (omega arith)
Each-map P h g (a ∷ old) (b ∷ new) same e =
    let l : suc (length new) ≡ suc (length old) = e.len in
    let first = same a b (e.at zero a (omega arith)) in
    let rest = Each-map P h g old new same (record { len = omega arith; at = λ k d h. e.at (suc k) d (omega arith) }) in
    cc (first, rest)

-- one change after another
pub Each-then : (P Q R : CellView → CellView → Type 0) (old mid new : List CellView) → ((a b c : CellView) → P a b → Q b c → R a c) → Each P old mid → Each Q mid new → Each R old new
Each-then P Q R old mid new joined p q =
    let l : length mid ≡ length old = p.len in
    record {
      len = q.len ∙ p.len;
      at = λ k d h. joined (get_or old k d) (get_or mid k d) (get_or new k d) (p.at k d h) (q.at k d (omega arith));
    }

-- cells of a list that was lent whole, of so many, and came back
pub Each-back : (P : CellView → CellView → Type 0) (n : ℕ) (items slice new : List CellView) → slice ≡ items → length slice ≡ n → Each P slice new → Each P items (take n (new ++ drop (length new) items))
Each-back P n items slice new same len e =
    let l : length new ≡ length slice = e.len in
    let m : length slice ≡ length items = ap length same in
    subst (Each P items) (sym (lent-back n items new (omega arith) (omega arith))) (subst (λ (xs : List CellView). Each P xs new) same e)

-- ---- one clause of a list after the other

pub none-without : (c : CellView) → IsWithout [] c c
none-without c = record { variable = refl; clauses = sym (without_none c.clauses); spare = omega arith }

pub roomier-then : (n : ℕ) (done more : List Named) (a b c : CellView) → IsRoomier n done a b → IsRoomier n more b c → IsRoomier n (done ++ more) a c
roomier-then n done more a b c p q = record {
  variable = q.variable ∙ p.variable;
  clauses = q.clauses ∙ p.clauses;
  more = let x : a.spare ≤ b.spare = p.more in let y : b.spare ≤ c.spare = q.more in omega arith;
  room = λ d i t. elim (Contains-append_cases done more d i) [
    | inl j ↦ let x : n ≤ b.spare = p.room d j t in let y : b.spare ≤ c.spare = q.more in omega arith
    | inr j ↦ q.room d j (subst (λ v. has_variable v d.clause ≡ true) (sym p.variable) t)
  ];
}

pub without-then : (done more : List Named) (a b c : CellView) → IsWithout done a b → IsWithout more b c → IsWithout (done ++ more) a c
without-then done more a b c p q = record {
  variable = q.variable ∙ p.variable;
  clauses =
      q.clauses ∙ ap (λ (cs : List Named). without_numbers cs (numbers_of more)) p.clauses
      ∙ without_both a.clauses (numbers_of done) (numbers_of more)
      ∙ ap (without_numbers a.clauses) (sym (map-append (λ (n : Named). n.number) done more));
  spare = let x : a.spare ≤ b.spare = p.spare in let y : b.spare ≤ c.spare = q.spare in omega arith;
}

occurrences-append : (done more : List Named) (x : ℕ) → occurrences (done ++ more) x ≡ occurrences done x ++ occurrences more x
occurrences-append done more x = filter-append (λ (n : Named). has_variable x n.clause) done more

many-append : (done more : List Named) (x : ℕ) → length (occurrences (done ++ more) x) ≡ length (occurrences done x) + length (occurrences more x)
many-append done more x = ap length (occurrences-append done more x) ∙ length-append (occurrences done x) (occurrences more x)

-- the clauses that go are gone, and then the new ones have come
pub changed-by : (gone added : List Named) (a b c : CellView) → IsWithout gone a b → IsWith added b c → IsChanged gone added a c
changed-by gone added a b c w i = record {
  variable = i.variable ∙ w.variable;
  clauses =
      i.clauses ∙ ap (λ (cs : List Named). cs ++ occurrences added b.variable) w.clauses
      ∙ ap (λ x. without_numbers a.clauses (numbers_of gone) ++ occurrences added x) w.variable;
}

module _ (R : List Named → CellView → CellView → Type 0) where
  pub Each-start : ((c : CellView) → R [] c c) → (old : List CellView) → Each (R []) old old
  Each-start same old = record { len = refl; at = λ k d h. same (get_or old k d) }

  pub Each-more : ((done more : List Named) (a b c : CellView) → R done a b → R more b c → R (done ++ more) a c)
      → (all : List Named) (i : ℕ) (c : Named) (old cells new : List CellView) → i < length all → get_or all i c ≡ c
      → Each (R (take i all)) old cells → Each (R (c ∷ [])) cells new → Each (R (take (i + 1) all)) old new
  Each-more joined all i c old cells new h is p q =
      subst (λ (cs : List Named). Each (R cs) old new) (sym (let e : i + 1 ≡ suc i = omega arith in ap (λ m. take m all) e ∙ take-suc all i c h ∙ ap (λ (x : Named). take i all ++ x ∷ []) is))
      (Each-then (R (take i all)) (R (c ∷ [])) (R (take i all ++ c ∷ [])) old cells new (joined (take i all) (c ∷ [])) p q)

  pub Each-all : (all : List Named) (i : ℕ) (old cells : List CellView) → length all ≤ i → Each (R (take i all)) old cells → Each (R all) old cells
  Each-all all i old cells h p = subst (λ (cs : List Named). Each (R cs) old cells) (take_all i all h) p

-- the cells stay those of their variables
module _ (P : CellView → CellView → Type 0) (old new : List CellView) (same : (a b : CellView) → P a b → b.variable ≡ a.variable) (e : Each P old new) where
  variables-kept : variables_of new ≡ variables_of old
  variables-kept = Each-map P (λ x. x.variable) (λ x. x.variable) old new same e

  pub ascending-kept : IsAscending (variables_of old) → IsAscending (variables_of new)
  ascending-kept a = subst IsAscending (sym variables-kept) a

  pub over-kept : (clauses : List Named) → All (λ (c : Named). AreOver (variables_of old) c.clause) clauses → All (λ (c : Named). AreOver (variables_of new) c.clause) clauses
  over-kept clauses held = subst (λ vs. All (λ (c : Named). AreOver vs c.clause) clauses) (sym variables-kept) held

-- what held of the clauses of each cell still does where clauses are gone
pub kept-without : (P : ℕ → Named → Type 0) (gone : List Named) (old new : List CellView) → Each (IsWithout gone) old new → All (λ (x : CellView). All (P x.variable) x.clauses) old
    → All (λ (x : CellView). All (P x.variable) x.clauses) new
kept-without P gone old new e held k d h =
    let l : length new ≡ length old = e.len in
    let here = e.at k d (omega arith) in
    subst (λ x. All (P x) (get_or new k d).clauses) (sym here.variable)
    (subst (All (P (get_or old k d).variable)) (sym here.clauses)
    (All-filter (λ (c : Named). not (contains (numbers_of gone) c.number)) (P (get_or old k d).variable) (get_or old k d).clauses (held k d (omega arith))))

-- what stands under the number of one of the clauses still is of that clause's variables
pub named-one : (all : List Named) (i : ℕ) (g : Named) (old cells : List CellView) → i < length all → get_or all i g ≡ g → Each (IsWithout (take i all)) old cells
    → All (λ (x : CellView). All (λ (c : Named). All (λ (g : Named). c.number ≡ g.number → IsTrue (has_variable x.variable g.clause)) all) x.clauses) old
    → All (λ (x : CellView). All (λ (c : Named). c.number ≡ g.number → IsTrue (has_variable x.variable g.clause)) x.clauses) cells
named-one all i g old cells h is e named =
    kept-without (λ v c. c.number ≡ g.number → IsTrue (has_variable v g.clause)) (take i all) old cells e
    (λ k d l j c m. subst (λ (z : Named). (get_or (get_or old k d).clauses j c).number ≡ z.number → IsTrue (has_variable (get_or old k d).variable z.clause)) is (named k d l j c m i g h))

-- the clauses before one in a list have lesser numbers
before-one : (all : List Named) (i : ℕ) (d c : Named) → IsAscending (numbers_of all) → i < length all → Contains (take i all) c → c.number < (get_or all i d).number
before-one [] i d c a h j = absurd (omega arith)
before-one (b ∷ bs) zero d c a h j = absurd (none_in c j)
before-one (b ∷ bs) (suc i) d c a h j = elim (in_cases c b (take i bs) j) [
  | inl e ↦
      subst (λ (z : Named). z.number < (get_or bs i d).number) e
      (below_others b.number (numbers_of bs) (get_or bs i d).number a (in_map (λ (z : Named). z.number) bs (get_or bs i d) (Contains-get_or bs i d (omega arith))))
  | inr m ↦ before-one bs i d c a.1 (omega arith) m
]

-- the list goes on with the clause at the index
take-drop : (all : List Named) (i : ℕ) (d : Named) → i < length all → all ≡ take i all ++ get_or all i d ∷ drop (suc i) all
take-drop [] i d h = absurd (omega arith)
take-drop (c ∷ cs) zero d h = refl
take-drop (c ∷ cs) (suc i) d h = ap (λ (xs : List Named). c ∷ xs) (take-drop cs i d (omega arith))

-- the new clauses up to one have come
module _ (all : List Named) (i : ℕ) (c : Named) (old cells : List CellView) (h : i < length all) (is : get_or all i c ≡ c) (e : Each (IsWith (take i all)) old cells) where
  -- the numbers in the cells are below its own
  pub above-kept : IsAscending (numbers_of all) → All (λ (x : CellView). All (λ (m : Named). All (λ (n : Named). m.number < n.number) all) x.clauses) old
      → All (λ (x : CellView). All (λ (m : Named). m.number < c.number) x.clauses) cells
  above-kept rising above k d l =
      let same : length cells ≡ length old = e.len in
      let here = e.at k d (omega arith) in
      let came = occurrences (take i all) (get_or old k d).variable in
      subst (All (λ (m : Named). m.number < c.number)) (sym here.clauses)
      (All-append (λ (m : Named). m.number < c.number) (get_or old k d).clauses came
      (λ j m q. subst (λ (z : Named). (get_or (get_or old k d).clauses j m).number < z.number) is (above k d (omega arith) j m q i c h))
      (λ j m q. subst (λ (z : Named). (get_or came j m).number < z.number) is
      (before-one all i c (get_or came j m) rising h
      (of_filter (λ (n : Named). has_variable (get_or old k d).variable n.clause) (take i all) (get_or came j m) (Contains-get_or came j m q)).0)))

  -- and the cells of its variables have room for it
  pub room-left : All (λ (x : CellView). length (occurrences all x.variable) ≤ x.spare) old → All (λ (x : CellView). IsTrue (has_variable x.variable c.clause) → 0 < x.spare) cells
  room-left room k d l t =
      let same : length cells ≡ length old = e.len in
      let here = e.at k d (omega arith) in
      let x = (get_or old k d).variable in
      let has : has_variable x c.clause ≡ true = subst (λ v. has_variable v c.clause ≡ true) here.variable t in
      let enough : length (occurrences all x) ≤ (get_or old k d).spare = room k d (omega arith) in
      let left : (get_or cells k d).spare + length (occurrences (take i all) x) ≡ (get_or old k d).spare = here.spare in
      let whole : length (occurrences all x) ≡ length (occurrences (take i all) x) + length (occurrences (c ∷ drop (suc i) all) x) =
      ap (λ (cs : List Named). length (occurrences cs x)) (take-drop all i c h ∙ ap (λ (z : Named). take i all ++ z ∷ drop (suc i) all) is) ∙ many-append (take i all) (c ∷ drop (suc i) all) x in
      let some : length (occurrences (c ∷ drop (suc i) all) x) ≡ suc (length (occurrences (drop (suc i) all) x)) =
      ap (λ b. length (cond b (c ∷ occurrences (drop (suc i) all) x) (occurrences (drop (suc i) all) x))) has in
      omega arith

fewer : (p : Named → Bool) (xs : List Named) → length (filter p xs) ≤ length xs
fewer p [] = omega arith
fewer p (x ∷ xs) = go (p x) (fewer p xs)
  where
    go : (b : Bool) → length (filter p xs) ≤ length xs → length (cond b (x ∷ filter p xs) (filter p xs)) ≤ suc (length xs)
    go true h = omega arith
    go false h = omega arith

-- room for as many as there are clauses is enough
enough-room : (all : List Named) (a b : CellView) → IsRoomier (length all) all a b → length (occurrences all b.variable) ≤ b.spare
enough-room all a b r = go (occurrences all b.variable) refl
  where
    go : (found : List Named) → occurrences all b.variable ≡ found → length (occurrences all b.variable) ≤ b.spare
    go [] s = let none : length (occurrences all b.variable) ≡ 0 = ap length s in omega arith
    go (c ∷ cs) s =
        let m = of_filter (λ (n : Named). has_variable b.variable n.clause) all c (subst (λ (ns : List Named). Contains ns c) (sym s) (in_here c c cs refl)) in
        let enough : length all ≤ b.spare = r.room c m.0 (subst (λ v. has_variable v c.clause ≡ true) r.variable m.1) in
        let few : length (occurrences all b.variable) ≤ length all = fewer (λ (n : Named). has_variable b.variable n.clause) all in
        omega arith

pub room-for_all : (all : List Named) (old cells : List CellView) → Each (IsRoomier (length all) all) old cells → All (λ (x : CellView). length (occurrences all x.variable) ≤ x.spare) cells
room-for_all all old cells e k d h =
    let same : length cells ≡ length old = e.len in
    enough-room all (get_or old k d) (get_or cells k d) (e.at k d (omega arith))

-- ---- an entry

part-right : (P : Named → Type 0) (xs ys : List Named) → All P (xs ++ ys) → All P ys
part-right P xs ys held k d h = All-contains P (xs ++ ys) (get_or ys k d) held (Contains-append_right xs ys (get_or ys k d) (Contains-get_or ys k d h))

-- where the first part is gone, the second part is as it was
pub within-second : (first second : List Named) (old mid : List CellView) → Each (IsWithout first) old mid → All (λ (c : Named). AreOver (variables_of old) c.clause) (first ++ second)
    → All (λ (c : Named). AreOver (variables_of mid) c.clause) second
within-second first second old mid e held =
    over-kept (IsWithout first) old mid (λ a b w. w.variable) e second (part-right (λ (c : Named). AreOver (variables_of old) c.clause) first second held)

pub named-second : (first second : List Named) (old mid : List CellView) → Each (IsWithout first) old mid
    → All (λ (x : CellView). All (λ (c : Named). All (λ (g : Named). c.number ≡ g.number → IsTrue (has_variable x.variable g.clause)) (first ++ second)) x.clauses) old
    → All (λ (x : CellView). All (λ (c : Named). All (λ (g : Named). c.number ≡ g.number → IsTrue (has_variable x.variable g.clause)) second) x.clauses) mid
named-second first second old mid e named =
    kept-without (λ v c. All (λ (g : Named). c.number ≡ g.number → IsTrue (has_variable v g.clause)) second) first old mid e
    (λ k d h j c l. part-right (λ (g : Named). (get_or (get_or old k d).clauses j c).number ≡ g.number → IsTrue (has_variable (get_or old k d).variable g.clause)) first second (named k d h j c l))

pub above-second : (first second added : List Named) (old mid new : List CellView) → Each (IsWithout first) old mid → Each (IsWithout second) mid new
    → All (λ (x : CellView). All (λ (c : Named). All (λ (n : Named). c.number < n.number) added) x.clauses) old → All (λ (x : CellView). All (λ (c : Named). All (λ (n : Named). c.number < n.number) added) x.clauses) new
above-second first second added old mid new p q above =
    kept-without (λ v c. All (λ (n : Named). c.number < n.number) added) second mid new q
    (kept-without (λ v c. All (λ (n : Named). c.number < n.number) added) first old mid p above)

pub changed-all : (first second added : List Named) (old mid left new : List CellView) → Each (IsWithout first) old mid → Each (IsWithout second) mid left → Each (IsWith added) left new
    → Each (IsChanged (first ++ second) added) old new
changed-all first second added old mid left new p q r =
    Each-then (IsWithout (first ++ second)) (IsWith added) (IsChanged (first ++ second) added) old left new (changed-by (first ++ second) added)
    (Each-then (IsWithout first) (IsWithout second) (IsWithout (first ++ second)) old mid left (without-then first second) p q) r

-- what the cells are and list after the entry whose clauses these are
pub changed-cells : (e : Entry) (gone added : List Named) (n : ℕ) (items slice new : List CellView) → gone ≡ gone_clauses e → added ≡ new_clauses e → slice ≡ items → length slice ≡ n
    → Each (IsChanged gone added) slice new
    → (variables_of (take n (new ++ drop (length new) items)) ≡ variables_of items) × (lists_of (take n (new ++ drop (length new) items)) ≡ lists_after items e)
changed-cells e gone added n items slice new g a same len c =
    let back = Each-back (IsChanged gone added) n items slice new same len c in
    let last = take n (new ++ drop (length new) items) in (
      Each-map (IsChanged gone added) (λ x. x.variable) (λ x. x.variable) items last (λ x y w. w.variable) back,
      Each-map (IsChanged gone added) (λ x. x.clauses) (λ x. after x.clauses x.variable e) items last
          (λ x y w. w.clauses ∙ ap (λ (gs : List Named). without_numbers x.clauses (numbers_of gs) ++ occurrences added x.variable) g
          ∙ ap (λ (ns : List Named). without_numbers x.clauses (numbers_of (gone_clauses e)) ++ occurrences ns x.variable) a) back,
    )
