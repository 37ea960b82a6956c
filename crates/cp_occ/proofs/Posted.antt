-- The cells of a formula, when a legal entry is posted.
use Rattle.std.proofs.Common.{◌≡◌, ℕ, zero, suc, ◌+◌, ◌<◌, ◌≤◌, Bool, true, false, cond, List, [], ◌∷◌, length, map, get_or, refl, sym, ◌∙◌, ap, subst, inl, inr, arith}
use Rattle.std.specs.List.{All, Contains, range_with_len}
use Rattle.std.proofs.lemmas.List.{get_or-map, map-id, length-map}
use Rattle.std.proofs.lemmas.List.Elements.{Contains-get_or}
use Rattle.std.proofs.lemmas.List.FromFn.{get_or-map-range_with_len, length-range_with_len}
use Rattle.cp_logic.specs.declared.named.Named.{Named}
use Rattle.cp_logic.specs.declared.settings.Rules.{Rules}
use Rattle.cp_logic.specs.Literals.{variable_of, negated, positive}
use Rattle.cp_logic.specs.Clauses.{has_variable, without, resolvent, IsAscending}
use Rattle.cp_logic.specs.Formulas.{Formula, IsFormula, IsWithin, numbers_of, occurrences}
use Rattle.cp_logic.specs.Rules.{state_after}
use Rattle.cp_logic.specs.Entries.{Entry, Taut, Subsume, Strengthen, Block, Eliminate, Look, expand, numbered, renumbered, gone_clauses, new_clauses}
use Rattle.cp_logic.specs.Legality.{is_legal_in, is_legal}
use Rattle.cp_logic.specs.Journals.{start_of}
use Rattle.cp_logic.specs.Locality.{after}
use Rattle.cp_logic.proofs.Members.{none_in, in_cases, of_filter, of_map, in_contains}
use Rattle.cp_logic.proofs.Ascending.{same_number, IsAscending-cons}
use Rattle.cp_logic.proofs.SetFacts.{of_without, of_resolvent}
use Rattle.cp_logic.proofs.Parts.{strengthen-parts, eliminate-parts}
use Rattle.cp_logic.proofs.Eliminations.{eliminate-numbered, of_pos, of_neg, of_new}
use Rattle.cp_logic.proofs.Expansions.{within_at, below_at, within_smaller, variable_within, strengthen-number}
use Rattle.cp_logic.proofs.EntryRuns.{legal-in}
use Rattle.cp_logic.proofs.Others.{gone-stands}
use Rattle.cp_logic.proofs.Totals.{in_range}
use Rattle.cp_logic.proofs.Runs.{variables-state_after}
use Rattle.cp_logic.proofs.Changes.{change-local, renumbered-from}
use Rattle.cp_occ.specs.Cells.{CellView, variables_after, AreNumbered, variables_of, lists_of}
use Rattle.cp_occ.specs.Changes.{AreOver, places_of, HasRoom, IsChange, lists_after, AreCellsOf}
use Rattle.cp_occ.proofs.Entered.{map-by_position}

-- ---- the variables from 1 on

pub of_range : (n a y : ℕ) → Contains (range_with_len a n) y → (a ≤ y) × (y < a + n)
of_range zero a y i = absurd (none_in y i)
of_range (suc n) a y i = elim (in_cases y a (range_with_len (a + 1) n) i) [
  | inl e ↦ (omega arith, omega arith)
  | inr j ↦ let r = of_range n (a + 1) y j in (omega arith, omega arith)
]

range-ascends : (n a : ℕ) → IsAscending (range_with_len a n)
range-ascends zero a = tt
range-ascends (suc n) a = IsAscending-cons a (range_with_len (a + 1) n) (λ y i. let r = of_range n (a + 1) y i in omega (arith, r.0)) (range-ascends n (a + 1))

-- a clause within them is over them
pub over-range : (n : ℕ) (clause : List ℕ) → IsWithin n clause → AreOver (range_with_len 1 n) clause
over-range n clause w k d h =
    let v = variable_within n clause (get_or clause k d) w (Contains-get_or clause k d h) in
    in_contains (range_with_len 1 n) (variable_of (get_or clause k d)) (in_range n 1 (variable_of (get_or clause k d)) v.0 (omega (arith, v.1)))

-- ---- the cells of a formula, by position

module _ (f : Formula) (cells : List CellView) (a : AreCellsOf f cells) where
  -- as many cells as variables
  pub cells-length : length cells ≡ f.variables
  cells-length = sym (length-map cells (λ (c : CellView). c.variable)) ∙ ap length a.variables ∙ length-range_with_len 1 f.variables

  -- they are numbered from 1 on
  pub cells-numbered : AreNumbered cells
  cells-numbered k d h =
      let n = cells-length in
      sym (get_or-map (λ (c : CellView). c.variable) cells k d 0 h) ∙ ap (λ xs. get_or xs k 0) (a.variables ∙ sym (map-id (range_with_len 1 f.variables)))
      ∙ get_or-map-range_with_len (λ x. x) 1 f.variables k (k + 1) 0 (omega arith) (omega arith)

  -- their variables ascend
  pub cells-ascending : IsAscending (variables_of cells)
  cells-ascending = rw a.variables (range-ascends f.variables 1)

  -- a clause of the formula's variables is over theirs
  pub cells-over : (clause : List ℕ) → IsWithin f.variables clause → AreOver (variables_of cells) clause
  cells-over clause w = rw a.variables (over-range f.variables clause w)

  -- each lists the clauses of its variable
  pub cells-list : (k : ℕ) (d : CellView) → k < length cells → (get_or cells k d).clauses ≡ occurrences f.clauses (k + 1)
  cells-list k d h =
      let n = cells-length in
      sym (get_or-map (λ (c : CellView). c.clauses) cells k d [] h) ∙ ap (λ xs. get_or xs k []) a.lists
      ∙ get_or-map-range_with_len (occurrences f.clauses) 1 f.variables k (k + 1) [] (omega arith) (omega arith)

  -- each clause in a cell stands in the formula and has the variable
  pub cells-clause : (k : ℕ) (d : CellView) → k < length cells → (i : ℕ) (c : Named) → i < length (get_or cells k d).clauses
      → Contains f.clauses (get_or (get_or cells k d).clauses i c) × (has_variable (k + 1) (get_or (get_or cells k d).clauses i c).clause ≡ true)
  cells-clause k d h i c l =
      let cs = (get_or cells k d).clauses in
      of_filter (λ (x : Named). has_variable (k + 1) x.clause) f.clauses (get_or cs i c)
      (subst (λ es. Contains es (get_or cs i c)) (cells-list k d h) (Contains-get_or cs i c l))

-- cells with the same variables and lists, as `prepare` leaves them
pub AreCellsOf-same : (f : Formula) (old new : List CellView) → variables_of new ≡ variables_of old → lists_of new ≡ lists_of old → AreCellsOf f old → AreCellsOf f new
AreCellsOf-same f old new v l a = record { variables = v ∙ a.variables; lists = l ∙ a.lists }

-- ---- what a legal entry removes and adds

-- what it removes stands in the formula, and what it adds is of the formula's variables
pub record Replaces (f : Formula) (e : Entry) : Type 0 where
  pub gone_in : (g : Named) → Contains (gone_clauses e) g → Contains f.clauses g
  pub new_within : (n : Named) → Contains (new_clauses e) n → IsWithin f.variables n.clause

one : (P : Named → Type 0) (c d : Named) → Contains (c ∷ []) d → P c → P d
one P c d i p = elim (in_cases d c [] i) [ inl e ↦ subst P e p | inr z ↦ absurd (none_in d z) ]

without-within : (variables : ℕ) (clause : List ℕ) (l : ℕ) → IsWithin variables clause → IsWithin variables (without clause l)
without-within variables clause l w = within_smaller variables (without clause l) (λ m i. variable_within variables clause m w (of_without clause l m i).0)

resolvent-within : (variables l : ℕ) (first second : List ℕ) → IsWithin variables first → IsWithin variables second → IsWithin variables (resolvent l first second)
resolvent-within variables l first second v w = within_smaller variables (resolvent l first second) (λ m i. elim (of_resolvent l first second m i) [
  | inl j ↦ variable_within variables first m v (of_without first l m j).0
  | inr j ↦ variable_within variables second m w (of_without second (negated l) m j).0
])

within-in : (f : Formula) (rules : Rules) (e : Entry) → IsFormula f → is_legal_in f.clauses rules e ≡ true → (n : Named) → Contains (new_clauses e) n → IsWithin f.variables n.clause
unfolding is_legal_in
within-in f rules (Taut gone) v h n i = absurd (none_in n i)
within-in f rules (Subsume by gone) v h n i = absurd (none_in n i)
within-in f rules (Strengthen by on l new) v h n i =
    let p = strengthen-parts f.clauses rules by on l new h in
    one (λ c. IsWithin f.variables c.clause) new n i (subst (IsWithin f.variables) (sym p.is_new) (without-within f.variables on.clause l (within_at f on v p.on_in)))
within-in f rules (Block gone l) v h n i = absurd (none_in n i)
within-in f rules (Eliminate x pos neg new) v h n i =
    let p = eliminate-parts f.clauses rules x pos neg new h in
    let r = of_new (start_of f) v rules.bound x pos neg new p n i in
    subst (IsWithin f.variables) r.4
    (resolvent-within f.variables (positive x) r.0.clause r.1.clause
    (within_at f r.0 v (of_pos (start_of f) v rules.bound x pos neg new p r.0 r.2).0)
    (within_at f r.1 v (of_neg (start_of f) v rules.bound x pos neg new p r.1 r.3).0))
within-in f rules (Look x) v h n i = absurd (none_in n i)

pub legal-replaces : (f : Formula) (rules : Rules) (e : Entry) → IsFormula f → is_legal f rules e ≡ true → Replaces f e
legal-replaces f rules e v h = record {
  gone_in = gone-stands f (start_of f) rules e refl v (legal-in f rules e h);
  new_within = within-in f rules e v (legal-in f rules e h);
}

-- the new clauses have the next numbers
pub new-numbers : (next : ℕ) (e : Entry) → e ≡ numbered next e → (n : Named) → Contains (new_clauses e) n → next ≤ n.number
new-numbers next (Taut gone) e n i = absurd (none_in n i)
new-numbers next (Subsume by gone) e n i = absurd (none_in n i)
new-numbers next (Strengthen by on l new) e n i =
    one (λ c. next ≤ c.number) new n i (let q : new.number ≡ next = strengthen-number next by on l new e in omega arith)
new-numbers next (Block gone l) e n i = absurd (none_in n i)
new-numbers next (Eliminate x pos neg new) e n i = renumbered-from next new n (subst (λ z. Contains z n) (eliminate-numbered next x pos neg new e) i)
new-numbers next (Look x) e n i = absurd (none_in n i)

renumbered-rise : (n : ℕ) (cs : List Named) → IsAscending (numbers_of (renumbered n cs))
renumbered-rise n [] = tt
renumbered-rise n (c ∷ cs) =
    IsAscending-cons n (numbers_of (renumbered (n + 1) cs))
    (λ y i.
    let d = of_map (λ (z : Named). z.number) (renumbered (n + 1) cs) y i in
    let low : n + 1 ≤ d.0.number = renumbered-from (n + 1) cs d.0 d.1 in
    subst (λ m. n < m) d.2 (omega arith))
    (renumbered-rise (n + 1) cs)

pub new-rise : (next : ℕ) (e : Entry) → e ≡ numbered next e → IsAscending (numbers_of (new_clauses e))
new-rise next (Taut gone) e = tt
new-rise next (Subsume by gone) e = tt
new-rise next (Strengthen by on l new) e = (refl, tt)
new-rise next (Block gone l) e = tt
new-rise next (Eliminate x pos neg new) e = subst (λ (cs : List Named). IsAscending (numbers_of cs)) (sym (eliminate-numbered next x pos neg new e)) (renumbered-rise next new)
new-rise next (Look x) e = tt

-- what `prepare` requires of the new clauses
pub new-within : (f : Formula) (rules : Rules) (e : Entry) (cells : List CellView) → IsFormula f → is_legal f rules e ≡ true → AreCellsOf f cells
    → All (λ (c : Named). AreOver (variables_of cells) c.clause) (new_clauses e)
new-within f rules e cells v h a = λ j d l.
    let n = get_or (new_clauses e) j d in
    cells-over f cells a n.clause ((legal-replaces f rules e v h).new_within n (Contains-get_or (new_clauses e) j d l))

-- what `apply` requires: the legal entry, as it is posted, is a change of the formula's cells
pub legal-change : (f : Formula) (rules : Rules) (e : Entry) (cells : List CellView) → IsFormula f → is_legal f rules e ≡ true → e ≡ numbered f.next e → AreCellsOf f cells → IsChange cells e
legal-change f rules e cells v h n a =
    let r = legal-replaces f rules e v h in
    record {
      gone_within = λ j d l.
          let g = get_or (gone_clauses e) j d in
          cells-over f cells a g.clause (within_at f g v (r.gone_in g (Contains-get_or (gone_clauses e) j d l)));
      new_within = new-within f rules e cells v h a;
      named = λ j d l i c m q g o s.
          let here = cells-clause f cells a j d l i c m in
          let gone = get_or (gone_clauses e) q g in
          let is = same_number f.clauses (get_or (get_or cells j d).clauses i c) gone v.rising here.0 (r.gone_in gone (Contains-get_or (gone_clauses e) q g o)) s in
          ap (λ x. has_variable x gone.clause) (cells-numbered f cells a j d l) ∙ subst (λ (x : Named). has_variable (j + 1) x.clause ≡ true) is here.1;
      above = λ j d l i c m q b o.
          let here = cells-clause f cells a j d l i c m in
          let below = below_at f (get_or (get_or cells j d).clauses i c) v here.0 in
          let next : f.next ≤ (get_or (new_clauses e) q b).number = new-numbers f.next e n (get_or (new_clauses e) q b) (Contains-get_or (new_clauses e) q b o) in
          omega arith;
      rising = new-rise f.next e n;
    }

-- what `apply` makes: the cells of the formula after the entry
pub cells-after : (f : Formula) (rules : Rules) (e : Entry) (old new : List CellView) → IsFormula f → is_legal f rules e ≡ true → e ≡ numbered f.next e → AreCellsOf f old
    → variables_of new ≡ variables_of old → lists_of new ≡ lists_after old e → AreCellsOf (state_after (start_of f) (expand e)).formula new
cells-after f rules e old new v h n a variables lists =
    let g = (state_after (start_of f) (expand e)).formula in
    let many : g.variables ≡ f.variables = variables-state_after (start_of f) (expand e) in
    record {
      variables = variables ∙ a.variables ∙ ap (range_with_len 1) (sym many);
      lists =
          lists
          ∙ map-by_position (λ (c : CellView). after c.clauses c.variable e) (occurrences g.clauses) 1 old
          (λ k d l. cc (cells-list f old a k d l, cells-numbered f old a k d l) ∙ sym (change-local (start_of f) rules (k + 1) e v h n) ∙ ap (occurrences g.clauses) (omega arith))
          ∙ ap (λ m. map (occurrences g.clauses) (range_with_len 1 m)) (cells-length f old a ∙ sym many);
    }

-- ---- the numbers of the new clauses come late: what was prepared is right for each

places-renumbered : (n : ℕ) (cs : List Named) → map (λ (c : Named). map (λ (v : ℕ). c.clause) (variables_after 0 c.clause)) (renumbered n cs) ≡ map (λ (c : Named). map (λ (v : ℕ). c.clause) (variables_after 0 c.clause)) cs
places-renumbered n [] = refl
places-renumbered n (c ∷ cs) = ap (λ (ps : List (List (List ℕ))). map (λ (v : ℕ). c.clause) (variables_after 0 c.clause) ∷ ps) (places-renumbered (n + 1) cs)

pub places_of-numbered : (n : ℕ) (e : Entry) → places_of (numbered n e) ≡ places_of e
places_of-numbered n (Taut gone) = refl
places_of-numbered n (Subsume by gone) = refl
places_of-numbered n (Strengthen by on l new) = refl
places_of-numbered n (Block gone l) = refl
places_of-numbered n (Eliminate x pos neg new) = places-renumbered n new
places_of-numbered n (Look x) = refl

-- as many of the same clauses under any numbers have the variable
many-renumbered : (n : ℕ) (cs : List Named) (x : ℕ) → length (occurrences (renumbered n cs) x) ≡ length (occurrences cs x)
many-renumbered n [] x = refl
many-renumbered n (c ∷ cs) x = go (record { number = n; clause = c.clause }) (has_variable x c.clause) (many-renumbered (n + 1) cs x)
  where
    go : (other : Named) (b : Bool) → length (occurrences (renumbered (n + 1) cs) x) ≡ length (occurrences cs x)
        → length (cond b (other ∷ occurrences (renumbered (n + 1) cs) x) (occurrences (renumbered (n + 1) cs) x)) ≡ length (cond b (c ∷ occurrences cs x) (occurrences cs x))
    go other true e = ap suc e
    go other false e = e

many-numbered : (n : ℕ) (e : Entry) (x : ℕ) → length (occurrences (new_clauses (numbered n e)) x) ≡ length (occurrences (new_clauses e) x)
many-numbered n (Taut gone) x = refl
many-numbered n (Subsume by gone) x = refl
many-numbered n (Strengthen by on l new) x = many-renumbered n (new ∷ []) x
many-numbered n (Block gone l) x = refl
many-numbered n (Eliminate y pos neg new) x = many-renumbered n new x
many-numbered n (Look y) x = refl

pub HasRoom-numbered : (n : ℕ) (e : Entry) (cells : List CellView) → HasRoom cells e → HasRoom cells (numbered n e)
HasRoom-numbered n e cells h = λ j d m. subst (λ q. q ≤ (get_or cells j d).spare) (sym (many-numbered n e (get_or cells j d).variable)) (h j d m)
