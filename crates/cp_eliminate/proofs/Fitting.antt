-- When the elimination of a variable fits.
use Rattle.std.proofs.Common.{◌≡◌, ℕ, ◌+◌, Bool, true, false, cond, not, ◌&&◌, List, length, Some, None, refl, sym, ◌∙◌, ap, arith}
use Rattle.std.specs.Prelude.{◌==◌, nat_le}
use Rattle.std.specs.List.{All, Contains, list_any}
use Rattle.std.proofs.lemmas.Bool.{and_parts, and_from, true≢false, not_from_false, not-true, ne_eqb, eqb-false, le-leb, leb-true}
use Rattle.std.proofs.lemmas.List.Elements.{filter_passes}
use Rattle.cp_logic.specs.declared.named.Named.{Named}
use Rattle.cp_logic.specs.Literals.{positive, negative}
use Rattle.cp_logic.specs.Clauses.{contains, is_tautology, has_variable}
use Rattle.cp_logic.specs.Entries.{numbered_from}
use Rattle.cp_logic.specs.Legality.{clauses_with, has_tautology_at, resolvents, fits, elimination}
use Rattle.cp_logic.proofs.Members.{any_from, any_member}
use Rattle.cp_logic.proofs.Parts.{IsEliminate, eliminate-fits}
use Rattle.cp_logic.proofs.Locals.{same_bool, eliminate-from}
use Rattle.cp_eliminate.specs.Eliminating.{elimination_within, is_within}
use Rattle.cp_eliminate.specs.Sides.{Has}
use Rattle.cp_eliminate.proofs.Pairs.{clauses_of-numbered, length-numbered}

-- where each clause has the variable, a tautology at it is any tautology
pub tautology-at : (x : ℕ) (cs : List Named) → ((c : Named) → Contains cs c → has_variable x c.clause ≡ true)
    → list_any (λ (c : Named). is_tautology c.clause) cs ≡ has_tautology_at cs x
tautology-at x cs h = same_bool _ _
    (λ t. let m = any_member (λ (c : Named). is_tautology c.clause) cs t in
    any_from (λ (c : Named). has_variable x c.clause && is_tautology c.clause) cs m.0 m.1 (and_from _ _ (h m.0 m.1) m.2))
    (λ t. let m = any_member (λ (c : Named). has_variable x c.clause && is_tautology c.clause) cs t in
    any_from (λ (c : Named). is_tautology c.clause) cs m.0 m.1 (and_parts (has_variable x m.0.clause) (is_tautology m.0.clause) m.2).1)

unless : {X : Type 0} (b : Bool) (x : X) → (b ≡ true → ⊥) → cond b (Some x) None ≡ None
unless true x h = absurd (h refl)
unless false x h = refl

module _ (cs : List Named) (bound next x : ℕ) where
  -- the clauses with the variable, with its negation, and their resolvents
  abbrev pos : List Named
  pos = clauses_with cs (positive x)

  abbrev neg : List Named
  neg = clauses_with cs (negative x)

  parts : fits cs bound (elimination cs next x) ≡ true → IsEliminate cs bound x pos neg (numbered_from next (resolvents x pos neg))
  parts t = eliminate-fits cs bound x pos neg (numbered_from next (resolvents x pos neg)) t

  -- there is none where a clause is a tautology
  pub none-tautology : has_tautology_at cs x ≡ true → None ≡ elimination_within cs bound next x
  none-tautology t = sym (unless (fits cs bound (elimination cs next x)) (elimination cs next x) (λ f. true≢false (sym t ∙ (parts f).no_tautology)))

  -- nor where there are too many resolvents, or no clause
  pub none-beyond : is_within x bound (clauses_with cs (positive x)) (clauses_with cs (negative x)) ≡ false → None ≡ elimination_within cs bound next x
  none-beyond w = sym (unless (fits cs bound (elimination cs next x)) (elimination cs next x) (λ f. true≢false (sym (within (parts f)) ∙ w)))
    where
      within : IsEliminate cs bound x pos neg (numbered_from next (resolvents x pos neg)) → is_within x bound pos neg ≡ true
      within p = and_from _ _ (not_from_false (length pos + length neg == 0) (ne_eqb (length pos + length neg) 0 p.some))
          (le-leb (length (resolvents x pos neg)) (length pos + length neg + bound) (omega (arith, p.bounded, length-numbered next (resolvents x pos neg))))

  -- else it is the one
  pub some-within : has_tautology_at cs x ≡ false → is_within x bound (clauses_with cs (positive x)) (clauses_with cs (negative x)) ≡ true
      → Some (elimination cs next x) ≡ elimination_within cs bound next x
  some-within t w =
      let p = and_parts (not (length pos + length neg == 0)) (nat_le (length (resolvents x pos neg)) (length pos + length neg + bound)) w in
      sym (ap (λ f. cond f (Some (elimination cs next x)) None) (eliminate-from cs bound x pos neg (numbered_from next (resolvents x pos neg)) (record {
        is_pos = refl;
        is_neg = refl;
        some = eqb-false (length pos + length neg) 0 (not-true (length pos + length neg == 0) p.0);
        no_tautology = t;
        is_new = clauses_of-numbered next (resolvents x pos neg);
        bounded = omega (arith, leb-true (length (resolvents x pos neg)) (length pos + length neg + bound) p.1, length-numbered next (resolvents x pos neg));
      })))

-- ---- which clauses have the literals

pub have-literal : (cs : List Named) (l : ℕ) → All (Has l) (clauses_with cs l)
have-literal cs l = filter_passes (λ (c : Named). contains c.clause l) cs
