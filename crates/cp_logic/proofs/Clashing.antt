-- Whether a resolvent of two clauses that are no tautologies is one, from a literal of the one whose negation the other has.
use Rattle.std.proofs.Common.{◌≡◌, ℕ, true, false, not, ◌&&◌, List, sym, ◌∙◌, ap, subst, inl, inr}
use Rattle.std.specs.Prelude.{◌⊎◌, ◌==◌}
use Rattle.std.specs.List.{Contains}
use Rattle.std.proofs.lemmas.Bool.{and_parts, and_from, eqb-false, not-true, not_from_false, ne_eqb, false≢true}
use Rattle.cp_logic.specs.Literals.{negated}
use Rattle.cp_logic.specs.Clauses.{contains, without, is_tautology, resolvent, has_negation}
use Rattle.cp_logic.proofs.Members.{any_from, any_member, contains-in, in_contains}
use Rattle.cp_logic.proofs.LiteralFacts.{negated-negated}
use Rattle.cp_logic.proofs.SetFacts.{tautology-from, of_without, in_without, of_resolvent, in_resolvent_left, in_resolvent_right}
use Rattle.cp_logic.proofs.Locals.{same_bool}

pub negated-apart : (l m : ℕ) → (l ≡ m → ⊥) → negated l ≡ negated m → ⊥
negated-apart l m n e = n (sym (negated-negated l) ∙ ap negated e ∙ negated-negated m)

-- a literal of the one has its negation in the other
pub record Clashing (p : ℕ) (left right : List ℕ) : Type 0 where
  pub literal : ℕ
  pub stays : literal ≡ p → ⊥
  pub in_left : Contains left literal
  pub in_right : Contains right (negated literal)

module _ (p : ℕ) (left right : List ℕ) (a : is_tautology left ≡ false) (b : is_tautology right ≡ false) where
  pub clashing-from : is_tautology (resolvent p left right) ≡ true → Clashing p left right
  clashing-from t =
      let m = any_member (λ l. contains (resolvent p left right) (negated l)) (resolvent p left right) t in
      go m.0 (of_resolvent p left right m.0 m.1) (of_resolvent p left right (negated m.0) (contains-in (resolvent p left right) (negated m.0) m.2))
    where
      go : (m : ℕ) → Contains (without left p) m ⊎ Contains (without right (negated p)) m → Contains (without left p) (negated m) ⊎ Contains (without right (negated p)) (negated m) → Clashing p left right
      go m (inl i) (inl j) = absurd (false≢true (sym a ∙ tautology-from left m (of_without left p m i).0 (of_without left p (negated m) j).0))
      go m (inl i) (inr j) = record {
        literal = m;
        stays = (of_without left p m i).1;
        in_left = (of_without left p m i).0;
        in_right = (of_without right (negated p) (negated m) j).0;
      }
      go m (inr i) (inl j) = record {
        literal = negated m;
        stays = (of_without left p (negated m) j).1;
        in_left = (of_without left p (negated m) j).0;
        in_right = subst (Contains right) (sym (negated-negated m)) (of_without right (negated p) m i).0;
      }
      go m (inr i) (inr j) = absurd (false≢true (sym b ∙ tautology-from right m (of_without right (negated p) m i).0 (of_without right (negated p) (negated m) j).0))

pub clashing-tautology : (p : ℕ) (left right : List ℕ) → Clashing p left right → is_tautology (resolvent p left right) ≡ true
clashing-tautology p left right m =
    tautology-from (resolvent p left right) m.literal
    (in_resolvent_left p left right m.literal (in_without left p m.literal m.in_left m.stays))
    (in_resolvent_right p left right (negated m.literal) (in_without right (negated p) (negated m.literal) m.in_right (negated-apart m.literal p m.stays)))

module _ (clause : List ℕ) (l : ℕ) (others : List ℕ) where
  negation-of : has_negation clause l others ≡ true → Clashing l clause others
  negation-of t =
      let m = any_member (λ k. not (k == l) && contains others (negated k)) clause t in
      let parts = and_parts (not (m.0 == l)) (contains others (negated m.0)) m.2 in
      record {
        literal = m.0;
        stays = eqb-false m.0 l (not-true (m.0 == l) parts.0);
        in_left = m.1;
        in_right = contains-in others (negated m.0) parts.1;
      }

  negation-from : Clashing l clause others → has_negation clause l others ≡ true
  negation-from m = any_from (λ k. not (k == l) && contains others (negated k)) clause m.literal m.in_left
      (and_from _ _ (not_from_false (m.literal == l) (ne_eqb m.literal l m.stays)) (in_contains others (negated m.literal) m.in_right))

-- the same from the other clause
turned : (p : ℕ) (left right : List ℕ) → Clashing p left right → Clashing (negated p) right left
turned p left right m = record {
  literal = negated m.literal;
  stays = negated-apart m.literal p m.stays;
  in_left = m.in_right;
  in_right = subst (Contains left) (sym (negated-negated m.literal)) m.in_left;
}

back : (p : ℕ) (left right : List ℕ) → Clashing (negated p) right left → Clashing p left right
back p left right m = record {
  literal = negated m.literal;
  stays = λ e. m.stays (sym (negated-negated m.literal) ∙ ap negated e);
  in_left = m.in_right;
  in_right = subst (Contains right) (sym (negated-negated m.literal)) m.in_left;
}

module _ (p : ℕ) (left right : List ℕ) (a : is_tautology left ≡ false) (b : is_tautology right ≡ false) where
  pub negation-left : has_negation left p right ≡ is_tautology (resolvent p left right)
  negation-left = same_bool (has_negation left p right) (is_tautology (resolvent p left right))
      (λ t. clashing-tautology p left right (negation-of left p right t))
      (λ t. negation-from left p right (clashing-from p left right a b t))

  pub negation-right : has_negation right (negated p) left ≡ is_tautology (resolvent p left right)
  negation-right = same_bool (has_negation right (negated p) left) (is_tautology (resolvent p left right))
      (λ t. clashing-tautology p left right (back p left right (negation-of right (negated p) left t)))
      (λ t. negation-from right (negated p) left (turned p left right (clashing-from p left right a b t)))
