-- What a post leaves at a variable: where it doesn't touch the variable, what is applicable there stays.
use Rattle.std.proofs.Common.{◌≡◌, ℕ, ◌≤◌, Bool, true, false, cond, not, List, [], ◌++◌, map, None, refl, sym, ◌∙◌, ap, subst, inl, inr, arith}
use Rattle.std.specs.Prelude.{◌==◌}
use Rattle.std.specs.List.{Contains}
use Rattle.std.specs.Option.{option_map}
use Rattle.std.proofs.lemmas.Bool.{eqb-true, not_from_false, false_from_ne_true}
use Rattle.std.proofs.lemmas.List.{append-nil}
use Rattle.std.proofs.lemmas.List.Elements.{Contains-append_left, Contains-append_right, Contains-append_cases}
use Rattle.cp_logic.specs.declared.named.Named.{Named}
use Rattle.cp_logic.specs.declared.settings.Rules.{Rules}
use Rattle.cp_logic.specs.Literals.{variable_of}
use Rattle.cp_logic.specs.Clauses.{contains, has_variable}
use Rattle.cp_logic.specs.Formulas.{Formula, IsFormula, IsWithin, numbers_of, without_numbers, occurrences, has_empty}
use Rattle.cp_logic.specs.Rules.{State, state_after}
use Rattle.cp_logic.specs.Entries.{Entry, expand, gone_clauses, new_clauses, numbered}
use Rattle.cp_logic.specs.Legality.{first, first_in, is_legal}
use Rattle.cp_logic.proofs.Members.{in_map, of_map, in_flat_map, of_flat_map, any_member, contains-in, of_filter}
use Rattle.cp_logic.proofs.Ascending.{same_number}
use Rattle.cp_logic.proofs.Eliminations.{filter_all}
use Rattle.cp_logic.proofs.Expansions.{within_at, variable_within}
use Rattle.cp_logic.proofs.Changes.{change-local}
use Rattle.cp_logic.proofs.SetFacts.{no_members}
use Rattle.cp_occ.proofs.Posted.{legal-replaces}
use Rattle.cp_find.proofs.Searches.{first-from_cell}
use Rattle.cp_eliminate.proofs.Exact.{search-first}
use Rattle.cp_sweep.specs.Cursor.{variables_at, variables_through, touched_by}

-- ---- the variables of clauses

has-at : (cs : List Named) (c : Named) (x : ℕ) → Contains cs c → has_variable x c.clause ≡ true → Contains (variables_through cs) x
has-at cs c x i t =
    let l = any_member (λ k. variable_of k == x) c.clause t in
    in_flat_map variables_at cs c x i (subst (Contains (map variable_of c.clause)) (eqb-true (variable_of l.0) x l.2) (in_map variable_of c.clause l.0 l.1))

-- ---- a legal entry

module _ (s : State) (rules : Rules) (e : Entry) (w : IsFormula s.formula) (legal : is_legal s.formula rules e ≡ true) (n : e ≡ numbered s.formula.next e) where
  abbrev pub left : Formula
  left = (state_after s (expand e)).formula

  -- it touches variables alone
  pub touched-within : (x : ℕ) → Contains (touched_by e) x → (1 ≤ x) × (x ≤ s.formula.variables)
  touched-within x i =
      let r = legal-replaces s.formula rules e w legal in
      elim (Contains-append_cases (variables_through (gone_clauses e)) (variables_through (new_clauses e)) x i) [
        | inl j ↦
            let c = of_flat_map variables_at (gone_clauses e) x j in
            inside c.0 (within_at s.formula c.0 w (r.gone_in c.0 c.1)) c.2
        | inr j ↦
            let c = of_flat_map variables_at (new_clauses e) x j in
            inside c.0 (r.new_within c.0 c.1) c.2
      ]
    where
      inside : (c : Named) → IsWithin s.formula.variables c.clause → Contains (variables_at c) x → (1 ≤ x) × (x ≤ s.formula.variables)
      inside c h j =
          let l = of_map variable_of c.clause x j in
          let b = variable_within s.formula.variables c.clause l.0 h l.1 in
          let e : variable_of l.0 ≡ x = l.2 in
          (omega (arith, b.0), omega (arith, b.1))

  -- a variable that it doesn't touch keeps its clauses
  pub untouched-stay : (x : ℕ) → (Contains (touched_by e) x → ⊥) → occurrences left.clauses x ≡ occurrences s.formula.clauses x
  untouched-stay x o =
      change-local s rules x e w legal n
      ∙ ap (λ z. without_numbers (occurrences s.formula.clauses x) (numbers_of (gone_clauses e)) ++ z) none
      ∙ append-nil (without_numbers (occurrences s.formula.clauses x) (numbers_of (gone_clauses e)))
      ∙ filter_all (λ (c : Named). not (contains (numbers_of (gone_clauses e)) c.number)) (occurrences s.formula.clauses x) kept
    where
      none : occurrences (new_clauses e) x ≡ []
      none = no_members (occurrences (new_clauses e) x) (λ c i.
          let r = of_filter (λ (c : Named). has_variable x c.clause) (new_clauses e) c i in
          o (Contains-append_right (variables_through (gone_clauses e)) (variables_through (new_clauses e)) x (has-at (new_clauses e) c x r.0 r.1)))

      kept : (c : Named) → Contains (occurrences s.formula.clauses x) c → not (contains (numbers_of (gone_clauses e)) c.number) ≡ true
      kept c i =
          let r = of_filter (λ (c : Named). has_variable x c.clause) s.formula.clauses c i in
          not_from_false (contains (numbers_of (gone_clauses e)) c.number) (false_from_ne_true (contains (numbers_of (gone_clauses e)) c.number) (λ t.
          let g = of_map (λ (d : Named). d.number) (gone_clauses e) c.number (contains-in (numbers_of (gone_clauses e)) c.number t) in
          let same = same_number s.formula.clauses g.0 c w.rising ((legal-replaces s.formula rules e w legal).gone_in g.0 g.1) r.0 g.2 in
          o (Contains-append_left (variables_through (gone_clauses e)) (variables_through (new_clauses e)) x
          (has-at (gone_clauses e) g.0 x g.1 (subst (λ (d : Named). has_variable x d.clause ≡ true) (sym same) r.1)))))

  -- so that nothing becomes applicable there
  pub untouched-silent : (x : ℕ) → has_empty s.formula.clauses ≡ false → (Contains (touched_by e) x → ⊥) → first s.formula rules x ≡ None → first left rules x ≡ None
  unfolding first
  untouched-silent x filled o silent = go (has_empty left.clauses) refl
    where
      go : (b : Bool) → has_empty left.clauses ≡ b → first left rules x ≡ None
      go true h = ap (λ b. cond b None (first_in left.clauses rules left.next x)) h
      go false h =
          sym (first-from_cell left rules x (occurrences s.formula.clauses x) h (sym (untouched-stay x o)))
          ∙ search-first s.formula rules left.next x filled ∙ ap (option_map (numbered left.next)) silent
