-- The first entry of a kind fits at the variable and is the least of its kind.
use Rattle.std.proofs.Common.{◌≡◌, ℕ, Bool, true, false, Option, Some, None, refl}
use Rattle.std.proofs.lemmas.Bool.{and_parts, and_from, false≢true}
use Rattle.cp_logic.specs.Formulas.{Formula, IsFormula}
use Rattle.cp_logic.specs.Entries.{Entry, Taut, Subsume, Strengthen, Block, Eliminate, Look}
use Rattle.cp_logic.specs.Legality.{is_chosen, fits, tauts, subsumptions, strengthenings, first_in, first_of_kind}
use Rattle.cp_logic.proofs.Complete.{nothing-missed}
use Rattle.cp_logic.proofs.Order.{first-least}
use Rattle.cp_find.specs.Laws.{is_taut, is_subsumption, is_strengthening, IsFirst, FirstsAreLeast, FirstsAreLocal}
use Rattle.cp_find.proofs.Searches.{only, first_in-taut_alone, first_in-subsumption_alone, first_in-strengthening_alone, first_taut-local, first_subsumption-local, first_strengthening-local}

-- the first entry over all chosen kinds, where one kind alone is chosen
first-of : (is_kind : Entry → Bool) (t s x' : Bool) (f : Formula) (next x : ℕ) (o : Option Entry) → IsFormula f
    → ((e : Entry) → is_kind e ≡ true → is_chosen (only t s x').choice e ≡ true)
    → ((e : Entry) → is_chosen (only t s x').choice e ≡ true → fits f.clauses 0 e ≡ true → is_kind e ≡ true)
    → first_in f.clauses (only t s x') next x ≡ o → IsFirst is_kind x f.clauses o
first-of is_kind t s x' f next x None v to back q =
    λ e k a h. (nothing-missed f.clauses (only t s x') next x).1 q e a (and_from _ _ (to e k) h)
first-of is_kind t s x' f next x (Some e) v to back q =
    let r = (nothing-missed f.clauses (only t s x') next x).0 e q in
    let p = and_parts (is_chosen (only t s x').choice e) (fits f.clauses 0 e) r.1 in
    (back e p.0 p.1, r.0, p.1, λ other k a h. first-least f (only t s x') next x e other v q a (and_from _ _ (to other k) h))

-- Look fits nowhere
no_look : (f : Formula) (x : ℕ) → fits f.clauses 0 (Look x) ≡ true → ⊥
unfolding fits
no_look f x h = false≢true h

-- of each kind
least-taut : (f : Formula) (x : ℕ) → IsFormula f → IsFirst is_taut x f.clauses (first_of_kind x f.clauses (tauts f.clauses))
least-taut f x v = first-of is_taut true false false f 1 x (first_of_kind x f.clauses (tauts f.clauses)) v to back (first_in-taut_alone f.clauses 1 x)
  where
    to : (e : Entry) → is_taut e ≡ true → is_chosen (only true false false).choice e ≡ true
    to (Taut gone) h = refl
    to (Subsume by gone) h = absurd (false≢true h)
    to (Strengthen by on l new) h = absurd (false≢true h)
    to (Block gone l) h = absurd (false≢true h)
    to (Eliminate y pos neg new) h = absurd (false≢true h)
    to (Look y) h = absurd (false≢true h)

    back : (e : Entry) → is_chosen (only true false false).choice e ≡ true → fits f.clauses 0 e ≡ true → is_taut e ≡ true
    back (Taut gone) h k = refl
    back (Subsume by gone) h k = absurd (false≢true h)
    back (Strengthen by on l new) h k = absurd (false≢true h)
    back (Block gone l) h k = absurd (false≢true h)
    back (Eliminate y pos neg new) h k = absurd (false≢true h)
    back (Look y) h k = absurd (no_look f y k)

least-subsumption : (f : Formula) (x : ℕ) → IsFormula f → IsFirst is_subsumption x f.clauses (first_of_kind x f.clauses (subsumptions f.clauses))
least-subsumption f x v = first-of is_subsumption false true false f 1 x (first_of_kind x f.clauses (subsumptions f.clauses)) v to back (first_in-subsumption_alone f.clauses 1 x)
  where
    to : (e : Entry) → is_subsumption e ≡ true → is_chosen (only false true false).choice e ≡ true
    to (Taut gone) h = absurd (false≢true h)
    to (Subsume by gone) h = refl
    to (Strengthen by on l new) h = absurd (false≢true h)
    to (Block gone l) h = absurd (false≢true h)
    to (Eliminate y pos neg new) h = absurd (false≢true h)
    to (Look y) h = absurd (false≢true h)

    back : (e : Entry) → is_chosen (only false true false).choice e ≡ true → fits f.clauses 0 e ≡ true → is_subsumption e ≡ true
    back (Taut gone) h k = absurd (false≢true h)
    back (Subsume by gone) h k = refl
    back (Strengthen by on l new) h k = absurd (false≢true h)
    back (Block gone l) h k = absurd (false≢true h)
    back (Eliminate y pos neg new) h k = absurd (false≢true h)
    back (Look y) h k = absurd (no_look f y k)

least-strengthening : (f : Formula) (next x : ℕ) → IsFormula f → IsFirst is_strengthening x f.clauses (first_of_kind x f.clauses (strengthenings f.clauses next))
least-strengthening f next x v =
    first-of is_strengthening false false true f next x (first_of_kind x f.clauses (strengthenings f.clauses next)) v to back (first_in-strengthening_alone f.clauses next x)
  where
    to : (e : Entry) → is_strengthening e ≡ true → is_chosen (only false false true).choice e ≡ true
    to (Taut gone) h = absurd (false≢true h)
    to (Subsume by gone) h = absurd (false≢true h)
    to (Strengthen by on l new) h = refl
    to (Block gone l) h = absurd (false≢true h)
    to (Eliminate y pos neg new) h = absurd (false≢true h)
    to (Look y) h = absurd (false≢true h)

    back : (e : Entry) → is_chosen (only false false true).choice e ≡ true → fits f.clauses 0 e ≡ true → is_strengthening e ≡ true
    back (Taut gone) h k = absurd (false≢true h)
    back (Subsume by gone) h k = absurd (false≢true h)
    back (Strengthen by on l new) h k = refl
    back (Block gone l) h k = absurd (false≢true h)
    back (Eliminate y pos neg new) h k = absurd (false≢true h)
    back (Look y) h k = absurd (no_look f y k)

pub firsts-least : FirstsAreLeast
firsts-least f next x v = (least-taut f x v, least-subsumption f x v, least-strengthening f next x v)

pub firsts-local : FirstsAreLocal
firsts-local cs next x = (first_taut-local cs x, first_subsumption-local cs x, first_strengthening-local cs x next)
