-- Cells that list the clauses of a formula by variable: an entry at the centre is a change of them, and their locks follow it.
use Rattle.std.proofs.Common.{◌≡◌, ℕ, zero, suc, ◌<◌, ◌≤◌, Bool, true, cond, eqb, List, [], ◌∷◌, length, map, get_or, Some, refl, sym, ◌∙◌, ap, subst, inl, inr, arith}
use Rattle.std.specs.Prelude.{IsTrue}
use Rattle.std.specs.List.{All, Contains}
use Rattle.std.specs.Option.{option_map}
use Rattle.std.proofs.lemmas.Bool.{eq-eqb, ne_eqb, cases_eq}
use Rattle.std.proofs.lemmas.List.{get_or-map, length-map}
use Rattle.std.proofs.lemmas.List.Elements.{Contains-append_cases, Contains-get_or, All-contains}
use Rattle.cp_logic.specs.declared.named.Named.{Named}
use Rattle.cp_logic.specs.declared.settings.Rules.{Rules}
use Rattle.cp_logic.specs.Literals.{variable_of}
use Rattle.cp_logic.specs.Clauses.{contains, has_variable, IsAscending}
use Rattle.cp_logic.specs.Formulas.{Formula, IsFormula, numbers_of, occurrences, without_numbers, variables_in}
use Rattle.cp_logic.specs.Entries.{Entry, new_clauses, gone_clauses, numbered, variables_of as variables_of_entry, is_at}
use Rattle.cp_logic.specs.Legality.{is_legal_in}
use Rattle.cp_logic.specs.Locality.{after}
use Rattle.cp_logic.proofs.Members.{of_filter, in_map, contains-in, in_contains}
use Rattle.cp_logic.proofs.Ascending.{same_number, below_others}
use Rattle.cp_logic.proofs.Expansions.{below_at}
use Rattle.cp_logic.proofs.Locals.{legal_in-local}
use Rattle.cp_logic.proofs.Others.{gone-old}
use Rattle.cp_occ.specs.Cells.{CellView, variables_of, lists_of}
use Rattle.cp_occ.specs.Changes.{IsChange, lists_after}
use Rattle.cp_occ.proofs.Posted.{new-numbers, new-rise}
use Rattle.cp_yard.specs.Views.{Lock, held_of, locks_after}
use Rattle.cp_yard.specs.Rule.{HoldsAll}
use Rattle.cp_hood.specs.Hoods.{HoodView, IsHood, IsLegalAt, Covers, AreOccurrences, listed_of, clauses_at_home}
use Rattle.cp_hood.specs.Commits.{IsSameHood}
use Rattle.cp_hood.proofs.Centred.{in_variables, of_variables, old-in, old-over, new-over, entry-over, at-commit}

-- ---- what cells list

pub listed-at : (cells : List CellView) (i : ℕ) (d : CellView) → IsAscending (variables_of cells) → i < length cells → listed_of (get_or cells i d).variable cells ≡ Some (get_or cells i d).clauses
listed-at [] i d a l = absurd (omega arith)
listed-at (c ∷ cs) zero d a l = ap (λ (b : Bool). cond b (Some c.clauses) (listed_of c.variable cs)) (eq-eqb c.variable c.variable refl)
listed-at (c ∷ cs) (suc i) d a l =
    let x = (get_or cs i d).variable in
    let below : c.variable < x = below_others c.variable (variables_of cs) x a (in_map (λ (z : CellView). z.variable) cs (get_or cs i d) (Contains-get_or cs i d (omega arith))) in
    ap (λ (b : Bool). cond b (Some c.clauses) (listed_of x cs)) (ne_eqb c.variable x (λ e. omega arith)) ∙ listed-at cs i d a.1 (omega arith)

pub listed-among : (cells : List CellView) (y : ℕ) → contains (variables_of cells) y ≡ true → (cs : List Named) × (listed_of y cells ≡ Some cs)
listed-among [] y h = cc
listed-among (c ∷ cs) y h = elim (cases_eq c.variable y) [
  | inl e ↦ (c.clauses, ap (λ (b : Bool). cond b (Some c.clauses) (listed_of y cs)) (eq-eqb c.variable y e))
  | inr n ↦ let f = ne_eqb c.variable y n in
      let r = listed-among cs y (let q : contains (variables_of cs) y ≡ true = grind arith in q) in
      (r.0, ap (λ (b : Bool). cond b (Some c.clauses) (listed_of y cs)) f ∙ r.1)
]

pub home-listed : (x : ℕ) (cells : List CellView) (cs : List Named) → listed_of x cells ≡ Some cs → clauses_at_home x cells ≡ cs
home-listed x [] cs h = cc
home-listed x (c ∷ ds) cs h = elim (cases_eq c.variable x) [
  | inl e ↦ let t = eq-eqb c.variable x e in grind arith
  | inr n ↦ let f = ne_eqb c.variable x n in
      ap (λ (b : Bool). cond b c.clauses (clauses_at_home x ds)) f ∙ home-listed x ds cs (ap (λ (b : Bool). cond b (Some c.clauses) (listed_of x ds)) (sym f) ∙ h)
]

-- what the invariant of a hood says
abbrev pub IsPlaced : ℕ → ℕ → List CellView → Type 0
IsPlaced x at cells = (at < length cells) × ((d : CellView) → (get_or cells at d).variable ≡ x) × IsAscending (variables_of cells) × Covers x cells

pub IsHood-placed : (x at : ℕ) (cells : List CellView) → IsPlaced x at cells → IsHood (record { centre = x; cells = cells })
IsHood-placed x at cells p = record {
  centre = let d : CellView = record { variable = 0; clauses = []; spare = 0 } in
      in_contains (variables_of cells) x (subst (Contains (variables_of cells)) (p.1 d) (in_map (λ (z : CellView). z.variable) cells (get_or cells at d) (Contains-get_or cells at d p.0)));
  ascending = p.2;
  covers = p.3;
}

pub IsPlaced-same : (x at : ℕ) (old new : List CellView) → IsPlaced x at old → variables_of new ≡ variables_of old → Covers x new → IsPlaced x at new
IsPlaced-same x at old new p v covers =
    let long : length new ≡ length old = sym (length-map new (λ (c : CellView). c.variable)) ∙ ap length v ∙ length-map old (λ (c : CellView). c.variable) in
    let inside : at < length new = omega (arith, p.0) in (
      inside,
      λ d. sym (get_or-map (λ (c : CellView). c.variable) new at d 0 inside) ∙ ap (λ xs. get_or xs at 0) v ∙ get_or-map (λ (c : CellView). c.variable) old at d 0 p.0 ∙ p.1 d,
      subst IsAscending (sym v) p.2,
      covers,
    )

-- what a seat holds that holds just their variables are the clauses of each
pub AreOccurrences-held : (cs : List Named) (cells : List CellView) (ks : List Lock) → IsAscending (variables_of cells) → ((x : ℕ) → held_of x ks ≡ listed_of x cells)
    → ((x : ℕ) (ds : List Named) → held_of x ks ≡ Some ds → ds ≡ occurrences cs x) → AreOccurrences cs cells
AreOccurrences-held cs cells ks a h k = λ i d l. let c = get_or cells i d in k c.variable c.clauses (h c.variable ∙ listed-at cells i d a l)

pub centre-occurrences : (cs : List Named) (x : ℕ) (cells : List CellView) → AreOccurrences cs cells → contains (variables_of cells) x ≡ true → clauses_at_home x cells ≡ occurrences cs x
centre-occurrences cs x cells all h = let r = listed-among cells x h in home-listed x cells r.0 r.1 ∙ found cells all r.0 r.1
  where
    found : (cells : List CellView) → AreOccurrences cs cells → (ds : List Named) → listed_of x cells ≡ Some ds → ds ≡ occurrences cs x
    found [] all ds h = cc
    found (c ∷ ds) all es h = elim (cases_eq c.variable x) [
      | inl e ↦ let t = eq-eqb c.variable x e in let o : c.clauses ≡ occurrences cs c.variable = all zero c (omega arith) in
          let q : es ≡ c.clauses = grind arith in q ∙ o ∙ ap (occurrences cs) e
      | inr n ↦ let f = ne_eqb c.variable x n in
          found ds (λ i d l. all (suc i) d (omega arith)) es (ap (λ (b : Bool). cond b (Some c.clauses) (listed_of x ds)) (sym f) ∙ h)
    ]

-- ---- an entry at the centre

module _ (f : Formula) (rules : Rules) (e : Entry) (h : HoodView) (is : IsHood h) (all : AreOccurrences f.clauses h.cells)
    (at : is_at h.centre e ≡ true) (legal : is_legal_in f.clauses rules e ≡ true) where
  legal-centre : is_legal_in (occurrences f.clauses h.centre) rules e ≡ true
  legal-centre = sym (legal_in-local f.clauses rules h.centre e (inl at)) ∙ legal

  covered : (y : ℕ) → Contains (variables_in (occurrences f.clauses h.centre)) y → contains (variables_of h.cells) y ≡ true
  covered y i = is.covers y (in_contains _ y (subst (λ (cs : List Named). Contains (variables_in cs) y) (sym (centre-occurrences f.clauses h.centre h.cells all is.centre)) i))

  pub new_covered : (c : Named) → Contains (new_clauses e) c → All (λ l. IsTrue (contains (variables_of h.cells) (variable_of l))) c.clause
  new_covered c i = λ k d l. covered (variable_of (get_or c.clause k d)) (new-over (occurrences f.clauses h.centre) rules e legal-centre c i (get_or c.clause k d) (Contains-get_or c.clause k d l))

  pub gone_covered : (c : Named) → Contains (gone_clauses e) c → All (λ l. IsTrue (contains (variables_of h.cells) (variable_of l))) c.clause
  gone_covered c i = λ k d l. covered (variable_of (get_or c.clause k d))
      (old-over (occurrences f.clauses h.centre) rules e legal-centre (at-commit h.centre e at) c (gone-old e c i) (get_or c.clause k d) (Contains-get_or c.clause k d l))

  -- the seat that holds just the hood holds all variables of the entry
  pub HoldsAll-hood : (ks : List Lock) → ((x : ℕ) → held_of x ks ≡ listed_of x h.cells) → HoldsAll e ks
  HoldsAll-hood ks held = λ y t.
      let c : contains (variables_of h.cells) y ≡ true = elim (entry-over (occurrences f.clauses h.centre) rules h.centre e at legal-centre (at-commit h.centre e at) y (contains-in (variables_of_entry e) y t)) [
        | inl q ↦ ap (contains (variables_of h.cells)) q ∙ is.centre
        | inr i ↦ covered y i
      ] in
      let r = listed-among h.cells y c in (r.0, held y ∙ r.1)

  in_cell : (j : ℕ) (d : CellView) → j < length h.cells → (i : ℕ) (c : Named) → i < length (get_or h.cells j d).clauses
      → Contains f.clauses (get_or (get_or h.cells j d).clauses i c) × (has_variable (get_or h.cells j d).variable (get_or (get_or h.cells j d).clauses i c).clause ≡ true)
  in_cell j d l i c m =
      let cell = get_or h.cells j d in
      of_filter (λ (x : Named). has_variable cell.variable x.clause) f.clauses (get_or cell.clauses i c)
      (subst (λ (cs : List Named). Contains cs (get_or cell.clauses i c)) (all j d l) (Contains-get_or cell.clauses i c m))

  -- what `apply` requires
  pub legal-change : IsFormula f → e ≡ numbered f.next e → IsChange h.cells e
  legal-change v n = record {
    gone_within = λ j d l. gone_covered (get_or (gone_clauses e) j d) (Contains-get_or (gone_clauses e) j d l);
    new_within = λ j d l. new_covered (get_or (new_clauses e) j d) (Contains-get_or (new_clauses e) j d l);
    named = λ j d l i c m q g o s.
        let here = in_cell j d l i c m in
        let gone = get_or (gone_clauses e) q g in
        let stood = old-in f.clauses rules e legal (at-commit h.centre e at) gone (gone-old e gone (Contains-get_or (gone_clauses e) q g o)) in
        let same = same_number f.clauses (get_or (get_or h.cells j d).clauses i c) gone v.rising here.0 stood s in
        subst (λ (x : Named). has_variable (get_or h.cells j d).variable x.clause ≡ true) same here.1;
    above = λ j d l i c m q b o.
        let here = in_cell j d l i c m in
        let below = below_at f (get_or (get_or h.cells j d).clauses i c) v here.0 in
        let next : f.next ≤ (get_or (new_clauses e) q b).number = new-numbers f.next e n (get_or (new_clauses e) q b) (Contains-get_or (new_clauses e) q b o) in
        omega arith;
    rising = new-rise f.next e n;
  }

-- ---- after the entry

-- lists of the same variables that are made one by one
pub listed-map : (g : ℕ → List Named → List Named) (old new : List CellView) → variables_of new ≡ variables_of old → lists_of new ≡ map (λ (c : CellView). g c.variable c.clauses) old
    → (x : ℕ) → listed_of x new ≡ option_map (g x) (listed_of x old)
listed-map g [] [] v l x = refl
listed-map g [] (c ∷ cs) v l x = cc
listed-map g (c ∷ cs) [] v l x = cc
listed-map g (c ∷ cs) (d ∷ ds) v l x =
    let same : d.variable ≡ c.variable = cc in
    let list : d.clauses ≡ g c.variable c.clauses = cc in
    let rest : listed_of x ds ≡ option_map (g x) (listed_of x cs) = listed-map g cs ds (cc) (cc) x in
    elim (cases_eq c.variable x) [
      | inl e ↦
          ap (λ (b : Bool). cond b (Some d.clauses) (listed_of x ds)) (eq-eqb d.variable x (same ∙ e))
          ∙ ap Some (list ∙ ap (λ y. g y c.clauses) e) ∙ ap (λ (b : Bool). option_map (g x) (cond b (Some c.clauses) (listed_of x cs))) (sym (eq-eqb c.variable x e))
      | inr n ↦
          ap (λ (b : Bool). cond b (Some d.clauses) (listed_of x ds)) (ne_eqb d.variable x (λ q. n (sym same ∙ q)))
          ∙ rest ∙ ap (λ (b : Bool). option_map (g x) (cond b (Some c.clauses) (listed_of x cs))) (sym (ne_eqb c.variable x n))
    ]

pub held-after : (e : Entry) (ks : List Lock) (x : ℕ) → held_of x (locks_after e ks) ≡ option_map (λ cs. after cs x e) (held_of x ks)
held-after e [] x = refl
held-after e (k ∷ ks) x = elim (cases_eq k.variable x) [
  | inl q ↦
      ap (λ (b : Bool). cond b (Some (after k.clauses k.variable e)) (held_of x (locks_after e ks))) (eq-eqb k.variable x q)
      ∙ ap (λ y. Some (after k.clauses y e)) q ∙ ap (λ (b : Bool). option_map (λ cs. after cs x e) (cond b (Some k.clauses) (held_of x ks))) (sym (eq-eqb k.variable x q))
  | inr n ↦
      ap (λ (b : Bool). cond b (Some (after k.clauses k.variable e)) (held_of x (locks_after e ks))) (ne_eqb k.variable x n)
      ∙ held-after e ks x ∙ ap (λ (b : Bool). option_map (λ cs. after cs x e) (cond b (Some k.clauses) (held_of x ks))) (sym (ne_eqb k.variable x n))
]

-- cells and locks go on agreeing
pub held-follow : (e : Entry) (ks : List Lock) (old new : List CellView) → ((x : ℕ) → held_of x ks ≡ listed_of x old) → variables_of new ≡ variables_of old → lists_of new ≡ lists_after old e
    → (x : ℕ) → held_of x (locks_after e ks) ≡ listed_of x new
held-follow e ks old new h v l x = held-after e ks x ∙ ap (option_map (λ cs. after cs x e)) (h x) ∙ sym (listed-map (λ y cs. after cs y e) old new v l x)

-- cells that list what they listed
pub home-same : (x : ℕ) (old new : List CellView) → variables_of new ≡ variables_of old → lists_of new ≡ lists_of old → clauses_at_home x new ≡ clauses_at_home x old
home-same x [] [] v l = refl
home-same x [] (c ∷ cs) v l = cc
home-same x (c ∷ cs) [] v l = cc
home-same x (c ∷ cs) (d ∷ ds) v l =
    let same : d.variable ≡ c.variable = cc in
    let list : d.clauses ≡ c.clauses = cc in
    let rest : clauses_at_home x ds ≡ clauses_at_home x cs = home-same x cs ds (cc) (cc) in
    λ i. cond (eqb (same i) x) (list i) (rest i)

pub listed-same : (x : ℕ) (old new : List CellView) → variables_of new ≡ variables_of old → lists_of new ≡ lists_of old → listed_of x new ≡ listed_of x old
listed-same x [] [] v l = refl
listed-same x [] (c ∷ cs) v l = cc
listed-same x (c ∷ cs) [] v l = cc
listed-same x (c ∷ cs) (d ∷ ds) v l =
    let same : d.variable ≡ c.variable = cc in
    let list : d.clauses ≡ c.clauses = cc in
    let rest : listed_of x ds ≡ listed_of x cs = listed-same x cs ds (cc) (cc) in
    λ i. cond (eqb (same i) x) (Some (list i)) (rest i)

pub Covers-same : (x : ℕ) (old new : List CellView) → variables_of new ≡ variables_of old → lists_of new ≡ lists_of old → Covers x old → Covers x new
Covers-same x old new v l covers = λ y t. subst (λ vs. contains vs y ≡ true) (sym v) (covers y (subst (λ (ns : List Named). contains (variables_in ns) y ≡ true) (home-same x old new v l) t))

-- the hood goes on covering its centre
pub Covers-after : (e : Entry) (x : ℕ) (old new : List CellView) → contains (variables_of old) x ≡ true → Covers x old
    → ((c : Named) → Contains (new_clauses e) c → All (λ l. IsTrue (contains (variables_of old) (variable_of l))) c.clause)
    → variables_of new ≡ variables_of old → lists_of new ≡ lists_after old e → Covers x new
Covers-after e x old new here covers over v l = λ y t. subst (λ vs. contains vs y ≡ true) (sym v) (go y (contains-in _ y t))
  where
    found : (cs : List Named) × (listed_of x old ≡ Some cs)
    found = listed-among old x here

    is : clauses_at_home x new ≡ after found.0 x e
    is = home-listed x new (after found.0 x e) (listed-map (λ y cs. after cs y e) old new v l x ∙ ap (option_map (λ cs. after cs x e)) found.1)

    go : (y : ℕ) → Contains (variables_in (clauses_at_home x new)) y → contains (variables_of old) y ≡ true
    go y i =
        let m = of_variables (clauses_at_home x new) y i in
        elim (Contains-append_cases (without_numbers found.0 (numbers_of (gone_clauses e))) (occurrences (new_clauses e) x) m.0 (subst (λ (cs : List Named). Contains cs m.0) is m.2)) [
          | inl o ↦
              let stood = (of_filter _ found.0 m.0 o).0 in
              let among = in_variables found.0 m.0 m.1 stood m.3 in
              covers y (in_contains _ y (subst (λ (cs : List Named). Contains (variables_in cs) y) (sym (home-listed x old found.0 found.1)) (subst (Contains (variables_in found.0)) m.4 among)))
          | inr o ↦
              let added = (of_filter _ (new_clauses e) m.0 o).0 in
              subst (λ z. contains (variables_of old) z ≡ true) m.4 (All-contains (λ l. IsTrue (contains (variables_of old) (variable_of l))) m.0.clause m.1 (over m.0 added) m.3)
        ]

-- hoods that list the same
pub legal-same : (rules : Rules) (old new : HoodView) (e : Entry) → IsSameHood old new → IsLegalAt rules old e → IsLegalAt rules new e
legal-same rules old new e same legal = record {
  at = subst (λ x. IsTrue (is_at x e)) (sym same.centre) legal.at;
  legal = subst (λ ds. IsTrue (is_legal_in ds rules e)) (sym same.clauses) legal.legal;
}
