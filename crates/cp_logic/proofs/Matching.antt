-- A clause that is compared with a resolvent while that is merged.
use Rattle.std.proofs.Common.{◌≡◌, ℕ, ◌+◌, ◌<◌, ◌≤◌, false, List, [], ◌∷◌, ◌++◌, length, take, drop, get_or, sym, ◌∙◌, ap, subst, inl, inr, arith}
use Rattle.std.specs.Prelude.{◌⊎◌, ◌==◌}
use Rattle.std.proofs.lemmas.List.{append_assoc, take_all, length-take-le}
use Rattle.std.proofs.Math.Seq.{get_or-append_seam}
use Rattle.std.proofs.lemmas.Bool.{cases_eq, cases_order, eq-eqb, ne_eqb, false_from_ne_true}
use Rattle.cp_logic.specs.Literals.{negated}
use Rattle.cp_logic.specs.Clauses.{resolvent, IsAscending}
use Rattle.cp_logic.specs.Legality.{same_literals}
use Rattle.cp_logic.proofs.Parts.{literals_decides}
use Rattle.cp_logic.proofs.Merges.{Merging, merge-all, merge-left, merge-right, merge-both, within-read, read_same, take-read}

-- the first literals of the clause are those of the merge so far
pub record Matching (clause : List ℕ) (pivot : ℕ) (left right : List ℕ) (i j k : ℕ) : Type 0 where
  pub within : k ≤ length clause
  pub merging : Merging pivot left right i j (take k clause)

module _ (clause : List ℕ) (p : ℕ) (left right : List ℕ) (i j k d v : ℕ) (within : k ≤ length clause) (g : Merging p left right i j (take k clause ++ v ∷ [])) where
  -- the next literal of the merge is that of the clause
  pub match-on : get_or clause k d ≡ v → v < d → Matching clause p left right i j (k + 1)
  match-on e l =
      let h : k < length clause = within-read clause k d (subst (λ z. z < d) (sym e) l) in
      record {
        within = omega arith;
        merging = subst (Merging p left right i j) (sym (take-read clause k v h (sym e ∙ read_same clause k d v h))) g;
      }

  -- or it is another
  pub match-off : (get_or clause k d ≡ v → ⊥) → false ≡ same_literals clause (resolvent p left right)
  match-off n = sym (false_from_ne_true (same_literals clause (resolvent p left right)) (λ t. n
      (ap (λ zs. get_or zs k d) ((literals_decides clause (resolvent p left right)).0 t ∙ sym g.so_far)
      ∙ ap (λ m. get_or ((take k clause ++ v ∷ []) ++ resolvent p (drop i left) (drop j right)) m d) (sym (length-take-le k clause within))
      ∙ (ap (λ l. get_or l (length (take k clause)) d) (append_assoc (take k clause) (v ∷ []) (resolvent p (drop i left) (drop j right))) ∙ get_or-append_seam (take k clause) v (resolvent p (drop i left) (drop j right)) d))))

-- the heads of what is left, of which neither is the pivot's, and the lesser of them
module _ (clause : List ℕ) (p : ℕ) (left right : List ℕ) (i j k d first second least : ℕ) (a : IsAscending left) (b : IsAscending right) (g : Matching clause p left right i j k)
    (f : first ≡ get_or left i d) (s : second ≡ get_or right j d) (n : first ≡ p → ⊥) (m : second ≡ negated p → ⊥) (low : least < d) where
  merged-left : least ≡ first → first < second → Merging p left right (i + 1) j (take k clause ++ least ∷ [])
  merged-left e l =
      subst (λ z. Merging p left right (i + 1) j (take k clause ++ z ∷ [])) (sym (e ∙ f))
      (merge-left p left right i j d (take k clause) a b g.merging (λ q. n (f ∙ q)) (omega arith) (omega arith))

  merged-right : least ≡ second → second < first → Merging p left right i (j + 1) (take k clause ++ least ∷ [])
  merged-right e l =
      subst (λ z. Merging p left right i (j + 1) (take k clause ++ z ∷ [])) (sym (e ∙ s))
      (merge-right p left right i j d (take k clause) a b g.merging (λ q. m (s ∙ q)) (omega arith) (omega arith))

  merged-both : least ≡ first → first ≡ second → Merging p left right (i + 1) (j + 1) (take k clause ++ least ∷ [])
  merged-both e l =
      subst (λ z. Merging p left right (i + 1) (j + 1) (take k clause ++ z ∷ [])) (sym (e ∙ f))
      (merge-both p left right i j d (take k clause) a b g.merging (λ q. n (f ∙ q)) (λ q. m (s ∙ q)) (sym f ∙ l ∙ s) (omega arith))

  pub match-left : least ≡ first → first < second → get_or clause k d ≡ least → Matching clause p left right (i + 1) j (k + 1)
  match-left e l h = match-on clause p left right (i + 1) j k d least g.within (merged-left e l) h low

  pub match-right : least ≡ second → second < first → get_or clause k d ≡ least → Matching clause p left right i (j + 1) (k + 1)
  match-right e l h = match-on clause p left right i (j + 1) k d least g.within (merged-right e l) h low

  pub match-both : least ≡ first → first ≡ second → get_or clause k d ≡ least → Matching clause p left right (i + 1) (j + 1) (k + 1)
  match-both e l h = match-on clause p left right (i + 1) (j + 1) k d least g.within (merged-both e l) h low

  pub match-other : least ≤ first → least ≤ second → (least ≡ first) ⊎ (least ≡ second) → (get_or clause k d ≡ least → ⊥) → false ≡ same_literals clause (resolvent p left right)
  match-other x y o h = elim (cases_order first second) [
    | inl e ↦ match-off clause p left right (i + 1) (j + 1) k d least g.within (merged-both (elim o [ inl q ↦ q | inr q ↦ q ∙ sym e ]) e) h
    | inr r ↦ elim r [
      | inl l ↦ match-off clause p left right (i + 1) j k d least g.within (merged-left (elim o [ inl q ↦ q | inr q ↦ absurd (omega arith) ]) l) h
      | inr l ↦ match-off clause p left right i (j + 1) k d least g.within (merged-right (elim o [ inl q ↦ absurd (omega arith) | inr q ↦ q ]) l) h
    ]
  ]

-- the merge ended
pub match-all : (clause : List ℕ) (p : ℕ) (left right : List ℕ) (i j k : ℕ) → Matching clause p left right i j k → length left ≤ i → length right ≤ j → (k == length clause) ≡ same_literals clause (resolvent p left right)
match-all clause p left right i j k g h l =
    let done : take k clause ≡ resolvent p left right = merge-all p left right i j (take k clause) g.merging h l in
    elim (cases_eq k (length clause)) [
      | inl e ↦ eq-eqb k (length clause) e ∙ sym ((literals_decides clause (resolvent p left right)).1 (sym (take_all k clause (omega arith)) ∙ done))
      | inr n ↦ ne_eqb k (length clause) n
          ∙ sym (false_from_ne_true (same_literals clause (resolvent p left right))
          (λ t. n (sym (length-take-le k clause g.within) ∙ ap (λ (zs : List ℕ). length zs) (done ∙ sym ((literals_decides clause (resolvent p left right)).0 t)))))
    ]
