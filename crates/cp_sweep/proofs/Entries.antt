-- What the first entry at a variable is: it is legal, no Look, and its new clauses have the next numbers.
use Rattle.std.proofs.Common.{◌≡◌, ℕ, Bool, true, false, cond, Some, None, refl, sym, ◌∙◌, ap}
use Rattle.std.specs.Option.{option_map}
use Rattle.std.proofs.lemmas.Bool.{and_parts, and_from, not_from_false, false≢true}
use Rattle.cp_logic.specs.declared.settings.Rules.{Rules}
use Rattle.cp_logic.specs.Formulas.{Formula, has_empty, occurrences}
use Rattle.cp_logic.specs.Entries.{Entry, Taut, Subsume, Strengthen, Block, Eliminate, Look, is_at, is_look, numbered}
use Rattle.cp_logic.specs.Legality.{applies, first, first_in, is_legal, is_legal_in}
use Rattle.cp_logic.proofs.Complete.{nothing-missed}
use Rattle.cp_find.proofs.Searches.{first-from_cell}
use Rattle.cp_eliminate.proofs.Exact.{search-first}

-- where there is a first entry, no clause is empty
pub first-filled : (f : Formula) (rules : Rules) (x : ℕ) (e : Entry) → first f rules x ≡ Some e → has_empty f.clauses ≡ false
unfolding first
first-filled f rules x e s = go (has_empty f.clauses) refl s
  where
    go : (b : Bool) → has_empty f.clauses ≡ b → cond b None (first_in f.clauses rules f.next x) ≡ Some e → has_empty f.clauses ≡ false
    go true h t = absurd (cc)
    go false h t = h

filled-first : (f : Formula) (rules : Rules) (x : ℕ) → has_empty f.clauses ≡ false → first f rules x ≡ first_in f.clauses rules f.next x
unfolding first
filled-first f rules x h = rw h refl

-- it applies at the variable
pub first-applies : (f : Formula) (rules : Rules) (x : ℕ) (e : Entry) → first f rules x ≡ Some e → (is_at x e ≡ true) × (applies f.clauses rules e ≡ true)
first-applies f rules x e s = (nothing-missed f.clauses rules f.next x).0 e (sym (filled-first f rules x (first-filled f rules x e s)) ∙ s)

-- it is no Look
pub first-no_look : (f : Formula) (rules : Rules) (x : ℕ) (e : Entry) → first f rules x ≡ Some e → is_look e ≡ false
first-no_look f rules x e s = go e (first-applies f rules x e s).0
  where
    go : (e : Entry) → is_at x e ≡ true → is_look e ≡ false
    go (Taut gone) p = refl
    go (Subsume by gone) p = refl
    go (Strengthen by on l new) p = refl
    go (Block gone l) p = refl
    go (Eliminate y pos neg new) p = refl
    go (Look y) p = absurd (false≢true p)

-- it is legal
pub first-legal : (f : Formula) (rules : Rules) (x : ℕ) (e : Entry) → first f rules x ≡ Some e → is_legal f rules e ≡ true
unfolding is_legal is_legal_in
first-legal f rules x e s = and_from _ _ (not_from_false (has_empty f.clauses) (first-filled f rules x e s)) (go e (first-applies f rules x e s))
  where
    go : (e : Entry) → (is_at x e ≡ true) × (applies f.clauses rules e ≡ true) → is_legal_in f.clauses rules e ≡ true
    go (Taut gone) p = p.1
    go (Subsume by gone) p = p.1
    go (Strengthen by on l new) p = p.1
    go (Block gone l) p = p.1
    go (Eliminate y pos neg new) p = p.1
    go (Look y) p = absurd (false≢true p.0)

-- its new clauses have the next numbers
pub first-numbered : (f : Formula) (rules : Rules) (x : ℕ) (e : Entry) → first f rules x ≡ Some e → e ≡ numbered f.next e
first-numbered f rules x e s = inside (
    sym s ∙ sym (first-from_cell f rules x (occurrences f.clauses x) (first-filled f rules x e s) refl)
    ∙ search-first f rules f.next x (first-filled f rules x e s) ∙ ap (option_map (numbered f.next)) s
    )
  where
    inside : Some e ≡ Some (numbered f.next e) → e ≡ numbered f.next e
    inside h = cc

-- so it is legal in the clauses as the book posts it
pub first-legal_in : (f : Formula) (rules : Rules) (x : ℕ) (e : Entry) → first f rules x ≡ Some e → is_legal_in f.clauses rules (numbered f.next e) ≡ true
unfolding is_legal
first-legal_in f rules x e s = ap (is_legal_in f.clauses rules) (sym (first-numbered f rules x e s)) ∙ (and_parts _ _ (first-legal f rules x e s)).1
