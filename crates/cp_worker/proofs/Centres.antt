-- What a commit makes of the clauses of a hood's centre.
use Rattle.std.proofs.Common.{◌≡◌, ◌<◌, ℕ, Option, Bool, true, false, cond, eqb, List, [], ◌∷◌, refl, sym, ◌∙◌, ap, subst}
use Rattle.std.proofs.lemmas.Bool.{eqb-true, false≢true}
use Rattle.std.specs.Prelude.{Some}
use Rattle.cp_logic.specs.declared.named.Named.{Named}
use Rattle.cp_logic.specs.declared.settings.Rules.{Rules}
use Rattle.cp_logic.specs.Entries.{Entry, Taut, Subsume, Strengthen, Block, Eliminate, Look, is_at, numbered}
use Rattle.cp_logic.specs.Legality.{applies, first_in, is_legal_in}
use Rattle.cp_logic.specs.Locality.{after}
use Rattle.cp_logic.proofs.Complete.{nothing-missed, applies-numbered, is_at-numbered}
use Rattle.cp_occ.specs.Cells.{CellView, variables_of, lists_of}
use Rattle.cp_occ.specs.Changes.{lists_after}
use Rattle.cp_hood.specs.Hoods.{HoodView, clauses_at_home, centre_clauses, IsLegalAt}
use Rattle.cp_hood.specs.Commits.{IsHoodAfter, IsSameHood}
use Rattle.cp_logic.specs.declared.entries.Entry.{Entry as HeldEntry}
use Rattle.cp_logic.specs.Views.{entry_of}
use Rattle.std.specs.Option.{option_map}
use Rattle.cp_worker.proofs.Sizes.{size, smaller, some}

head_of : {X : Type 0} (x y : X) (xs ys : List X) → x ∷ xs ≡ y ∷ ys → x ≡ y
head_of x y xs ys e = cc

tail_of : {X : Type 0} (x y : X) (xs ys : List X) → x ∷ xs ≡ y ∷ ys → xs ≡ ys
tail_of x y xs ys e = cc

-- the clauses of a variable that has some, after the entry
clauses-after : (x : ℕ) (e : Entry) (old new : List CellView) → variables_of new ≡ variables_of old → lists_of new ≡ lists_after old e → (clauses_at_home x old ≡ [] → ⊥)
    → clauses_at_home x new ≡ after (clauses_at_home x old) x e
clauses-after x e [] new v l s = absurd (s refl)
clauses-after x e (c ∷ cs) [] v l s = absurd (cc)
clauses-after x e (c ∷ cs) (d ∷ ds) v l s =
    go (eqb c.variable x) refl (head_of d.variable c.variable (variables_of ds) (variables_of cs) v) (head_of d.clauses (after c.clauses c.variable e) (lists_of ds) (lists_after cs e) l) s
    (clauses-after x e cs ds (tail_of d.variable c.variable (variables_of ds) (variables_of cs) v) (tail_of d.clauses (after c.clauses c.variable e) (lists_of ds) (lists_after cs e) l))
  where
    go : (b : Bool) → eqb c.variable x ≡ b → d.variable ≡ c.variable → d.clauses ≡ after c.clauses c.variable e → (cond b c.clauses (clauses_at_home x cs) ≡ [] → ⊥)
        → ((clauses_at_home x cs ≡ [] → ⊥) → clauses_at_home x ds ≡ after (clauses_at_home x cs) x e)
        → clauses_at_home x (d ∷ ds) ≡ after (cond b c.clauses (clauses_at_home x cs)) x e
    go true t h k n more = ap (λ b. cond b d.clauses (clauses_at_home x ds)) (ap (λ z. eqb z x) h ∙ t) ∙ k ∙ ap (λ z. after c.clauses z e) (eqb-true c.variable x t)
    go false t h k n more = ap (λ b. cond b d.clauses (clauses_at_home x ds)) (ap (λ z. eqb z x) h ∙ t) ∙ more n

-- what the search gives is legal at the centre
pub legal-found : (rules : Rules) (h : HoodView) (e : Entry) → first_in (centre_clauses h) rules 1 h.centre ≡ Some e → IsLegalAt rules h e
unfolding is_legal_in
legal-found rules h e s = let r = (nothing-missed (centre_clauses h) rules 1 h.centre).0 e s in record { at = r.0; legal = go e r }
  where
    go : (e : Entry) → (is_at h.centre e ≡ true) × (applies (centre_clauses h) rules e ≡ true) → is_legal_in (centre_clauses h) rules e ≡ true
    go (Taut gone) p = p.1
    go (Subsume by gone) p = p.1
    go (Strengthen by on l new) p = p.1
    go (Block gone l) p = p.1
    go (Eliminate y pos neg new) p = p.1
    go (Look y) p = absurd (false≢true p.0)

module _ (rules : Rules) (n : ℕ) (e : Entry) (old new : HoodView) (found : first_in (centre_clauses old) rules 1 old.centre ≡ Some e) (done : IsHoodAfter (numbered n e) old new) where
  at_centre : is_at old.centre (numbered n e) ≡ true
  at_centre = is_at-numbered old.centre n e ∙ ((nothing-missed (centre_clauses old) rules 1 old.centre).0 e found).0

  applied : applies (centre_clauses old) rules (numbered n e) ≡ true
  applied = applies-numbered (centre_clauses old) rules n e ∙ ((nothing-missed (centre_clauses old) rules 1 old.centre).0 e found).1

  -- the posted entry is at the centre
  pub posted-at : is_at old.centre (numbered n e) ≡ true
  posted-at = at_centre

  -- the centre has its clauses after the entry
  pub centre-after : centre_clauses new ≡ after (centre_clauses old) old.centre (numbered n e)
  centre-after = ap (λ z. clauses_at_home z new.cells) done.centre
      ∙ clauses-after old.centre (numbered n e) old.cells new.cells done.variables done.lists (some (centre_clauses old) rules old.centre (numbered n e) at_centre applied)

  pub centre-smaller : size (centre_clauses new) < size (centre_clauses old)
  centre-smaller = subst (λ cs. size cs < size (centre_clauses old)) (sym centre-after) (smaller (centre_clauses old) rules old.centre (numbered n e) at_centre applied)

-- what the search in the centre's cell gives
pub found-at : (h : HoodView) (cell : CellView) (given rules : Rules) (o : Option HeldEntry) → cell.variable ≡ h.centre → cell.clauses ≡ centre_clauses h → given ≡ rules
    → option_map entry_of o ≡ first_in cell.clauses given 1 cell.variable → first_in (centre_clauses h) rules 1 h.centre ≡ option_map entry_of o
found-at h cell given rules o v cs r e = sym (e ∙ ap (λ (z : List Named). first_in z given 1 cell.variable) cs
    ∙ ap (λ (z : Rules). first_in (centre_clauses h) z 1 cell.variable) r ∙ ap (λ z. first_in (centre_clauses h) rules 1 z) v)

-- ---- hoods that list the same

after-same : (e : Entry) (old new : List CellView) → variables_of new ≡ variables_of old → lists_of new ≡ lists_of old → lists_after new e ≡ lists_after old e
after-same e [] [] v l = refl
after-same e [] (d ∷ ds) v l = absurd (cc)
after-same e (c ∷ cs) [] v l = absurd (cc)
after-same e (c ∷ cs) (d ∷ ds) v l =
    let h : d.variable ≡ c.variable = head_of d.variable c.variable (variables_of ds) (variables_of cs) v in
    let k : d.clauses ≡ c.clauses = head_of d.clauses c.clauses (lists_of ds) (lists_of cs) l in
    let r : lists_after ds e ≡ lists_after cs e =
    after-same e cs ds (tail_of d.variable c.variable (variables_of ds) (variables_of cs) v) (tail_of d.clauses c.clauses (lists_of ds) (lists_of cs) l) in
    ap (λ z. after d.clauses z e ∷ lists_after ds e) h ∙ ap (λ (z : List Named). after z c.variable e ∷ lists_after ds e) k ∙ ap (λ (zs : List (List Named)). after c.clauses c.variable e ∷ zs) r

pub after-prepared : (e : Entry) (old between new : HoodView) → IsSameHood old between → IsHoodAfter e between new → IsHoodAfter e old new
after-prepared e old between new s h = record {
  centre = h.centre ∙ s.centre;
  variables = h.variables ∙ s.variables;
  lists = h.lists ∙ after-same e old.cells between.cells s.variables s.lists;
}
