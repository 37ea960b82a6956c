-- The cells of a formula: they are empty at first, and each clause is entered in the cells of its variables.
use Rattle.std.proofs.Common.{◌≡◌, ℕ, zero, suc, ◌+◌, ◌<◌, ◌≤◌, true, false, cond, eqb, List, [], ◌∷◌, ◌++◌, length, take, drop, map, set, get_or, append_assoc, add-zero, refl, sym, ◌∙◌, ap, subst, inl, inr, arith}
use Rattle.std.specs.Prelude.{◌==◌, ◌≢◌, ◌-◌, ◌||◌, nat_lt}
use Rattle.std.specs.List.{All, Contains, range_with_len}
use Rattle.std.proofs.lemmas.Bool.{eq-eqb, ne_eqb, eqb-true, ltb-true, false≢true, false_from_ne_true, cases_eq}
use Rattle.std.proofs.lemmas.List.{append-nil, take_all, drop_all, get_or_default, map-id, length-set, get_or-set_same, get_or-set_other}
use Rattle.std.proofs.lemmas.List.Elements.{Contains-get_or, Contains-append_right, filter-append}
use Rattle.cp_logic.specs.declared.named.Named.{Named}
use Rattle.cp_logic.specs.Literals.{variable_of}
use Rattle.cp_logic.specs.Clauses.{contains, has_variable, IsAscending}
use Rattle.cp_logic.specs.Formulas.{Formula, IsFormula, IsWithin, numbers_of, occurrences}
use Rattle.cp_logic.proofs.Members.{none_in, in_map, of_filter, in_here, in_later, in_cases, any_member, all_at, contains-in, in_contains}
use Rattle.cp_logic.proofs.Ascending.{below_others, IsAscending-cons}
use Rattle.cp_occ.specs.Cells.{CellView, variables_after, AreNumbered, Enters, variables_of, lists_of}

-- ---- empty cells

pub record AreEmpty (n : ℕ) (cells : List CellView) : Type 0 where
  pub len : length cells ≡ n
  pub numbered : AreNumbered cells
  pub empty : All (λ (c : CellView). c.clauses ≡ []) cells

-- ---- the variables of a clause

-- a variable other than the last one is among them exactly where the literals have it
pub contains-after : (last : ℕ) (ls : List ℕ) (x : ℕ) → x ≢ last → contains (variables_after last ls) x ≡ has_variable x ls
contains-after last [] x ne = refl
contains-after last (l ∷ ls) x ne = elim (cases_eq (variable_of l) last) [
  | inl e ↦
      ap (λ b. contains (cond b (variables_after last ls) (variable_of l ∷ variables_after (variable_of l) ls)) x) (eq-eqb (variable_of l) last e)
      ∙ contains-after last ls x ne
      ∙ sym (ap (λ b. b || has_variable x ls) (ne_eqb (variable_of l) x (λ q. ne (sym q ∙ e))))
  | inr other ↦
      ap (λ b. contains (cond b (variables_after last ls) (variable_of l ∷ variables_after (variable_of l) ls)) x) (ne_eqb (variable_of l) last other)
      ∙ (elim (cases_eq (variable_of l) x) [
        | inl e ↦ ap (λ b. b || contains (variables_after (variable_of l) ls) x) (eq-eqb (variable_of l) x e) ∙ sym (ap (λ b. b || has_variable x ls) (eq-eqb (variable_of l) x e))
        | inr differs ↦ ap (λ b. eqb (variable_of l) x || b) (contains-after (variable_of l) ls x (λ q. differs (sym q)))
      ])
]

-- of ascending literals they ascend, and are above the last one
pub rising-after : (last : ℕ) (ls : List ℕ) → IsAscending ls → ((l : ℕ) → Contains ls l → last ≤ variable_of l) → IsAscending (variables_after last ls) × ((v : ℕ) → Contains (variables_after last ls) v → last < v)
rising-after last [] a above = (tt, λ v i. absurd (none_in v i))
rising-after last (l ∷ ls) a above =
    let le : last ≤ variable_of l = above l (in_here l l ls refl) in
    let more : (m : ℕ) → Contains ls m → variable_of l ≤ variable_of m = λ m i. let lt : l < m = below_others l ls m a i in omega arith in
    elim (cases_eq (variable_of l) last) [
      | inl e ↦
          let whole : variables_after last (l ∷ ls) ≡ variables_after last ls = ap (λ b. cond b (variables_after last ls) (variable_of l ∷ variables_after (variable_of l) ls)) (eq-eqb (variable_of l) last e) in
          let rest = rising-after last ls a.1 (λ m i. above m (in_later m l ls i)) in
          (subst IsAscending (sym whole) rest.0, λ v i. rest.1 v (subst (λ vs. Contains vs v) whole i))
      | inr ne ↦
          let whole : variables_after last (l ∷ ls) ≡ variable_of l ∷ variables_after (variable_of l) ls = ap (λ b. cond b (variables_after last ls) (variable_of l ∷ variables_after (variable_of l) ls)) (ne_eqb (variable_of l) last ne) in
          let rest = rising-after (variable_of l) ls a.1 more in (
            subst IsAscending (sym whole) (IsAscending-cons (variable_of l) (variables_after (variable_of l) ls) rest.1 rest.0),
            λ v i. elim (in_cases v (variable_of l) (variables_after (variable_of l) ls) (subst (λ vs. Contains vs v) whole i)) [
              | inl e ↦ subst (λ w. last < w) e (omega arith)
              | inr j ↦ let q : variable_of l < v = rest.1 v j in omega arith
            ],
          )
    ]

-- ---- a clause is entered

-- the cells of the variables that are left still wait for the clause, and the others have it where it has their variable
pub record Entering (n : Named) (old cells : List CellView) (left : List ℕ) : Type 0 where
  pub len : length cells ≡ length old
  pub numbered : AreNumbered old
  pub variable : (k : ℕ) (d : CellView) → k < length old → (get_or cells k d).variable ≡ (get_or old k d).variable
  pub rising : IsAscending left
  pub low : (v : ℕ) → Contains left v → 0 < v
  pub high : (v : ℕ) → Contains left v → v < length old + 1
  pub has : (v : ℕ) → Contains left v → has_variable v n.clause ≡ true
  pub waiting : (k : ℕ) (d : CellView) → k < length old → contains left (k + 1) ≡ true → (get_or cells k d).clauses ≡ (get_or old k d).clauses
  pub entered : (k : ℕ) (d : CellView) → k < length old → contains left (k + 1) ≡ false → (get_or cells k d).clauses ≡ (get_or old k d).clauses ++ occurrences (n ∷ []) (k + 1)

pub without-it : (n : Named) (x : ℕ) → has_variable x n.clause ≡ false → occurrences (n ∷ []) x ≡ []
without-it n x e = ap (λ b. cond b (n ∷ []) []) e

pub with-it : (n : Named) (x : ℕ) → has_variable x n.clause ≡ true → occurrences (n ∷ []) x ≡ n ∷ []
with-it n x e = ap (λ b. cond b (n ∷ []) []) e

pub Entering-start : (n : Named) (old : List CellView) → AreNumbered old → IsAscending n.clause → IsWithin (length old) n.clause → Entering n old old (variables_after 0 n.clause)
Entering-start n old numbered ascending within =
    let rest = rising-after 0 n.clause ascending (λ l i. omega arith) in
    let has : (v : ℕ) → Contains (variables_after 0 n.clause) v → has_variable v n.clause ≡ true = λ v i. sym (contains-after 0 n.clause v (let q : 0 < v = rest.1 v i in omega arith)) ∙ in_contains (variables_after 0 n.clause) v i in
    record {
      len = refl;
      numbered = numbered;
      variable = λ k d h. refl;
      rising = rest.0;
      low = rest.1;
      high = λ v i. let m = any_member (λ l. variable_of l == v) n.clause (has v i) in subst (λ w. w < length old + 1) (eqb-true (variable_of m.0) v m.2) (ltb-true (variable_of m.0) (length old + 1) (all_at (λ l. nat_lt (variable_of l) (length old + 1)) n.clause m.0 within.1 m.1));
      has = has;
      waiting = λ k d h e. refl;
      entered = λ k d h e. sym (ap (λ (ns : List Named). (get_or old k d).clauses ++ ns) (without-it n (k + 1) (sym (contains-after 0 n.clause (k + 1) (omega arith)) ∙ e)) ∙ append-nil (get_or old k d).clauses);
    }

-- the next variable's cell gets the clause
module _ (n : Named) (old cells : List CellView) (v : ℕ) (left : List ℕ) (s : Entering n old cells (v ∷ left)) where
  pub v-low : 0 < v
  v-low = s.low v (in_here v v left refl)

  pub v-high : v - 1 < length cells
  v-high = let low = v-low in let high : v < length old + 1 = s.high v (in_here v v left refl) in let len : length cells ≡ length old = s.len in omega arith

  pub v-old : v - 1 < length old
  v-old = let high = v-high in let len : length cells ≡ length old = s.len in omega arith

  at-v : v - 1 + 1 ≡ v
  at-v = let low = v-low in omega arith

  v-first : contains (v ∷ left) (v - 1 + 1) ≡ true
  v-first = ap (λ b. b || contains left (v - 1 + 1)) (eq-eqb v (v - 1 + 1) (sym at-v))

  v-gone : contains left (v - 1 + 1) ≡ false
  v-gone = false_from_ne_true (contains left (v - 1 + 1)) (λ q. let l : v < v - 1 + 1 = below_others v left (v - 1 + 1) s.rising (contains-in left (v - 1 + 1) q) in let e = at-v in omega arith)

  -- its cell is as it was
  pub v-clauses : (d : CellView) → (get_or cells (v - 1) d).clauses ≡ (get_or old (v - 1) d).clauses
  v-clauses d = s.waiting (v - 1) d v-old v-first

  pub v-variable : (d : CellView) → (get_or cells (v - 1) d).variable ≡ v
  v-variable d = s.variable (v - 1) d v-old ∙ s.numbered (v - 1) d v-old ∙ at-v

  pub v-has : has_variable v n.clause ≡ true
  v-has = s.has v (in_here v v left refl)

  other-left : (k : ℕ) → k ≢ v - 1 → contains (v ∷ left) (k + 1) ≡ contains left (k + 1)
  other-left k ne = ap (λ b. b || contains left (k + 1)) (ne_eqb v (k + 1) (λ e. ne (omega arith)))

  module _ (r e : CellView) (variable : e.variable ≡ (get_or cells (v - 1) r).variable) (clauses : e.clauses ≡ (get_or cells (v - 1) r).clauses ++ n ∷ []) where
    variable-at : (d : CellView) → e.variable ≡ (get_or cells (v - 1) d).variable
    variable-at d = variable ∙ ap (λ (x : CellView). x.variable) (get_or_default cells (v - 1) r d v-high)

    clauses-at : (d : CellView) → e.clauses ≡ (get_or cells (v - 1) d).clauses ++ n ∷ []
    clauses-at d = clauses ∙ ap (λ (x : CellView). x.clauses ++ n ∷ []) (get_or_default cells (v - 1) r d v-high)

    pub Entering-step : Entering n old (set cells (v - 1) e) left
    Entering-step = record {
      len = length-set cells (v - 1) e ∙ s.len;
      numbered = s.numbered;
      variable = λ k d h. elim (cases_eq k (v - 1)) [
        | inl q ↦
            subst (λ j. (get_or (set cells (v - 1) e) j d).variable ≡ (get_or old j d).variable) (sym q)
            (ap (λ (x : CellView). x.variable) (get_or-set_same cells (v - 1) e d v-high) ∙ variable-at d ∙ s.variable (v - 1) d v-old)
        | inr ne ↦ ap (λ (x : CellView). x.variable) (get_or-set_other cells (v - 1) k e d ne) ∙ s.variable k d h
      ];
      rising = s.rising.1;
      low = λ w i. s.low w (in_later w v left i);
      high = λ w i. s.high w (in_later w v left i);
      has = λ w i. s.has w (in_later w v left i);
      waiting = λ k d h t. elim (cases_eq k (v - 1)) [
        | inl q ↦ absurd (false≢true (sym v-gone ∙ subst (λ j. contains left (j + 1) ≡ true) q t))
        | inr ne ↦ ap (λ (x : CellView). x.clauses) (get_or-set_other cells (v - 1) k e d ne) ∙ s.waiting k d h (other-left k ne ∙ t)
      ];
      entered = λ k d h f. elim (cases_eq k (v - 1)) [
        | inl q ↦
            subst (λ j. (get_or (set cells (v - 1) e) j d).clauses ≡ (get_or old j d).clauses ++ occurrences (n ∷ []) (j + 1)) (sym q)
            (ap (λ (x : CellView). x.clauses) (get_or-set_same cells (v - 1) e d v-high) ∙ clauses-at d ∙ ap (λ (ns : List Named). ns ++ n ∷ []) (v-clauses d)
            ∙ ap (λ (ns : List Named). (get_or old (v - 1) d).clauses ++ ns) (sym (with-it n (v - 1 + 1) (subst (λ w. has_variable w n.clause ≡ true) (sym at-v) v-has))))
        | inr ne ↦ ap (λ (x : CellView). x.clauses) (get_or-set_other cells (v - 1) k e d ne) ∙ s.entered k d h (other-left k ne ∙ f)
      ];
    }

-- ---- the clauses of a formula are entered

-- the clauses of the cells are those of the formula that are not left
pub record Filled (f : Formula) (left : List Named) (cells : List CellView) : Type 0 where
  pub done : List Named
  pub split : done ++ left ≡ f.clauses
  pub len : length cells ≡ f.variables
  pub numbered : AreNumbered cells
  pub clauses : (k : ℕ) (d : CellView) → k < length cells → (get_or cells k d).clauses ≡ occurrences done (k + 1)

-- the clauses before one have lesser numbers
before-it : (done : List Named) (n : Named) (left : List Named) → IsAscending (numbers_of (done ++ n ∷ left)) → (c : Named) → Contains done c → c.number < n.number
before-it [] n left a c i = absurd (none_in c i)
before-it (b ∷ bs) n left a c i = elim (in_cases c b bs i) [
  | inl e ↦
      subst (λ (z : Named). z.number < n.number) e
      (below_others b.number (numbers_of (bs ++ n ∷ left)) n.number a (in_map (λ (z : Named). z.number) (bs ++ n ∷ left) n (Contains-append_right bs (n ∷ left) n (in_here n n left refl))))
  | inr j ↦ before-it bs n left a.1 c j
]

module _ (f : Formula) (n : Named) (left : List Named) (cells : List CellView) (valid : IsFormula f) (s : Filled f (n ∷ left) cells) where
  rising : IsAscending (numbers_of (s.done ++ n ∷ left))
  rising = subst (λ (cs : List Named). IsAscending (numbers_of cs)) (sym s.split) valid.rising

  -- what the cells have so far has lesser numbers
  pub above-cells : (k : ℕ) (d : CellView) → k < length cells → All (λ (c : Named). c.number < n.number) (get_or cells k d).clauses
  above-cells k d h =
      subst (All (λ (c : Named). c.number < n.number)) (sym (s.clauses k d h))
      (λ j e l. before-it s.done n left rising (get_or (occurrences s.done (k + 1)) j e)
      (of_filter (λ (c : Named). has_variable (k + 1) c.clause) s.done (get_or (occurrences s.done (k + 1)) j e) (Contains-get_or (occurrences s.done (k + 1)) j e l)).0)

  pub Filled-step : (new : List CellView) → Enters n cells new → Filled f left new
  Filled-step new e =
      let len : length new ≡ length cells = e.len in
      record {
        done = s.done ++ n ∷ [];
        split = append_assoc s.done (n ∷ []) left ∙ s.split;
        len = len ∙ s.len;
        numbered = λ k d h. e.variable k d (omega arith) ∙ s.numbered k d (omega arith);
        clauses = λ k d h.
            e.clauses k d (omega arith)
            ∙ ap (λ x. (get_or cells k d).clauses ++ occurrences (n ∷ []) x) (s.numbered k d (omega arith))
            ∙ ap (λ (ns : List Named). ns ++ occurrences (n ∷ []) (k + 1)) (s.clauses k d (omega arith))
            ∙ sym (filter-append (λ (c : Named). has_variable (k + 1) c.clause) s.done (n ∷ []));
      }

-- a list of what is known by position
pub map-by_position : {X : Type 0} (h : CellView → X) (g : ℕ → X) (from : ℕ) (cells : List CellView) → ((k : ℕ) (d : CellView) → k < length cells → h (get_or cells k d) ≡ g (from + k))
    → map h cells ≡ map g (range_with_len from (length cells))
map-by_position h g from [] p = refl
map-by_position h g from (c ∷ cs) p =
    cc (p zero c (omega arith), ap g (add-zero from), map-by_position h g (from + 1) cs (λ k d l. p (suc k) d (omega arith) ∙ ap g (omega arith)))

pub Filled-variables : (f : Formula) (cells : List CellView) → Filled f [] cells → variables_of cells ≡ range_with_len 1 f.variables
Filled-variables f cells s =
    map-by_position (λ c. c.variable) (λ x. x) 1 cells (λ k d l. s.numbered k d l ∙ omega arith) ∙ map-id (range_with_len 1 (length cells)) ∙ ap (range_with_len 1) s.len

pub Filled-lists : (f : Formula) (cells : List CellView) → Filled f [] cells → lists_of cells ≡ map (occurrences f.clauses) (range_with_len 1 f.variables)
Filled-lists f cells s =
    map-by_position (λ c. c.clauses) (occurrences f.clauses) 1 cells
    (λ k d l. s.clauses k d l ∙ ap (λ (cs : List Named). occurrences cs (k + 1)) (sym (append-nil s.done) ∙ s.split) ∙ ap (occurrences f.clauses) (omega arith))
    ∙ ap (λ n. map (occurrences f.clauses) (range_with_len 1 n)) s.len

-- a list that was lent, of so many items, and came back with as many
pub lent-back : {X : Type 0} (n : ℕ) (items new : List X) → n ≡ length items → length new ≡ length items → take n (new ++ drop (length new) items) ≡ new
lent-back n items new e f =
    ap (λ rest. take n (new ++ rest)) (drop_all (length new) items (omega arith)) ∙ ap (take n) (append-nil new) ∙ take_all n new (omega arith)
