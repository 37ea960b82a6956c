-- A commit at a variable lowers the size of the variable's clauses.
use Rattle.std.proofs.Common.{◌≡◌, ℕ, ◌+◌, ◌<◌, ◌≤◌, true, List, [], ◌∷◌, ◌++◌, length, refl, sym, ◌∙◌, ap, subst, inl, inr, not, arith}
use Rattle.std.specs.Prelude.{◌==◌, ◌&&◌, map, sum_by}
use Rattle.std.specs.List.{Contains, filter, flat_map}
use Rattle.std.proofs.lemmas.Bool.{false≢true, and_from, eqb-true, eq-eqb, not_from_true}
use Rattle.std.proofs.lemmas.List.Elements.{Contains-append_left, Contains-append_right}
use Rattle.std.proofs.lemmas.List.Sums.{sum_by-append}
use Rattle.cp_logic.specs.declared.named.Named.{Named}
use Rattle.cp_logic.specs.declared.settings.Rules.{Rules}
use Rattle.cp_logic.specs.Literals.{negated, positive, negative, variable_of}
use Rattle.cp_logic.specs.Clauses.{contains, has_variable, is_tautology, resolvent}
use Rattle.cp_logic.specs.Formulas.{numbers_of, without_numbers, occurrences}
use Rattle.cp_logic.specs.Entries.{Entry, Taut, Subsume, Strengthen, Block, Eliminate, Look, is_at}
use Rattle.cp_logic.specs.Legality.{applies, resolvents}
use Rattle.cp_logic.specs.Locality.{after}
use Rattle.cp_logic.proofs.Members.{in_map, of_map, of_filter, of_flat_map, in_here, any_from, any_member, contains-in}
use Rattle.cp_logic.proofs.LiteralFacts.{same_variable, variable_of-positive, negated-positive}
use Rattle.cp_logic.proofs.SetFacts.{no_members, of_without, of_resolvent, tautology-from}
use Rattle.cp_logic.proofs.Parts.{IsStrengthen, IsEliminate, taut-parts, subsume-parts, strengthen-parts, block-parts, eliminate-parts}
use Rattle.cp_logic.proofs.Bounds.{tests, left_out}
use Rattle.cp_logic.proofs.Totals.{sum_by-filter_le, sum_by-without, length-without}

-- the clause's literals, and one more, so that each clause counts
abbrev literals : Named → ℕ
literals c = length c.clause + 1

abbrev pub size : List Named → ℕ
size cs = sum_by literals cs

-- a clause goes, and others come that are smaller together
changed : (cs new : List Named) (ns : List ℕ) (x : ℕ) (gone : Named) → Contains cs gone → Contains ns gone.number → size new < literals gone
    → size (without_numbers cs ns ++ occurrences new x) < size cs
changed cs new ns x gone i j less =
    let a : size (without_numbers cs ns ++ occurrences new x) ≡ size (without_numbers cs ns) + size (occurrences new x) = sum_by-append literals (without_numbers cs ns) (occurrences new x) in
    let b : size (occurrences new x) ≤ size new = sum_by-filter_le (λ (c : Named). has_variable x c.clause) literals new in
    let d : size (without_numbers cs ns) + literals gone ≤ size cs = sum_by-without (tests ns) literals cs gone i (left_out ns gone j) in
    omega arith

removed : (cs : List Named) (x : ℕ) (gone : Named) → Contains cs gone → size (without_numbers cs (gone.number ∷ []) ++ occurrences [] x) < size cs
removed cs x gone i = changed cs [] (gone.number ∷ []) x gone i (in_here gone.number gone.number [] refl) (omega arith)

shortened : (cs : List Named) (x : ℕ) (by on : Named) (l : ℕ) (new : Named) → IsStrengthen cs by on l new → size (without_numbers cs (on.number ∷ []) ++ occurrences (new ∷ []) x) < size cs
shortened cs x by on l new p =
    let s : length new.clause + 1 ≤ length on.clause =
    subst (λ z. length z + 1 ≤ length on.clause) (sym p.is_new)
    (length-without (λ m. not (m == l)) on.clause l (contains-in on.clause l p.on_has) (not_from_true (l == l) (eq-eqb l l refl))) in
    changed cs (new ∷ []) (on.number ∷ []) x on p.on_in (in_here on.number on.number [] refl) (omega arith)

-- ---- eliminations

module _ (cs : List Named) (bound x : ℕ) (pos neg new : List Named) (p : IsEliminate cs bound x pos neg new) where
  in_cs : (l : ℕ) (part : List Named) → part ≡ filter (λ (c : Named). contains c.clause l) cs → (c : Named) → Contains part c → Contains cs c × Contains c.clause l
  in_cs l part e c i = let r = of_filter (λ (d : Named). contains d.clause l) cs c (subst (λ z. Contains z c) e i) in (r.0, contains-in c.clause l r.1)

  of_pos : (c : Named) → Contains pos c → Contains cs c × Contains c.clause (positive x)
  of_pos c i = in_cs (positive x) pos p.is_pos c i

  of_neg : (c : Named) → Contains neg c → Contains cs c × Contains c.clause (negated (positive x))
  of_neg c i = let r = in_cs (negative x) neg p.is_neg c i in (r.0, subst (Contains c.clause) (sym (negated-positive x)) r.1)

  not_both : (c : Named) → Contains cs c → Contains c.clause (positive x) → Contains c.clause (negated (positive x)) → ⊥
  not_both c i j k = false≢true (sym p.no_tautology ∙ any_from (λ (d : Named). has_variable x d.clause && is_tautology d.clause) cs c i
      (and_from _ _ (any_from (λ l. variable_of l == x) c.clause (positive x) j (eq-eqb (variable_of (positive x)) x (variable_of-positive x))) (tautology-from c.clause (positive x) j k)))

  -- a new clause is a resolvent, and has no literal of the variable
  without_x : (c : Named) (l : ℕ) → Contains new c → Contains c.clause l → variable_of l ≡ x → ⊥
  without_x c l i j e =
      let in_all : Contains (resolvents x pos neg) c.clause = subst (λ z. Contains z c.clause) p.is_new (in_map (λ (d : Named). d.clause) new c i) in
      let r = of_filter (λ z. not (is_tautology z)) (flat_map (λ (a : Named). map (λ (d : Named). resolvent (positive x) a.clause d.clause) neg) pos) c.clause in_all in
      let a = of_flat_map (λ (a : Named). map (λ (d : Named). resolvent (positive x) a.clause d.clause) neg) pos c.clause r.0 in
      let d = of_map (λ (d : Named). resolvent (positive x) a.0.clause d.clause) neg c.clause a.2 in
      let side = of_resolvent (positive x) a.0.clause d.0.clause l (subst (λ z. Contains z l) (sym d.2) j) in
      elim (same_variable l (positive x) (e ∙ sym (variable_of-positive x))) [
        | inl s ↦ elim side [
          | inl q ↦ (of_without a.0.clause (positive x) l q).1 s
          | inr q ↦ not_both d.0 (of_neg d.0 d.1).0 (subst (Contains d.0.clause) s (of_without d.0.clause (negated (positive x)) l q).0) (of_neg d.0 d.1).1
        ]
        | inr s ↦ elim side [
          | inl q ↦ not_both a.0 (of_pos a.0 a.1).0 (of_pos a.0 a.1).1 (subst (Contains a.0.clause) s (of_without a.0.clause (positive x) l q).0)
          | inr q ↦ (of_without d.0.clause (negated (positive x)) l q).1 s
        ]
      ]

  none_new : occurrences new x ≡ []
  none_new = no_members (occurrences new x) (λ c i.
      let r = of_filter (λ (d : Named). has_variable x d.clause) new c i in
      let l = any_member (λ k. variable_of k == x) c.clause r.1 in
      without_x c l.0 r.0 l.1 (eqb-true (variable_of l.0) x l.2))

  some_gone : (c : Named) × Contains cs c × Contains (numbers_of (pos ++ neg)) c.number
  some_gone = go pos refl
    where
      others : (ds : List Named) → neg ≡ ds → pos ≡ [] → (c : Named) × Contains cs c × Contains (numbers_of (pos ++ neg)) c.number
      others [] e d = absurd (p.some (let a : length pos ≡ 0 = ap length d in let b : length neg ≡ 0 = ap length e in omega arith))
      others (c ∷ ds) e d =
          let i : Contains neg c = subst (λ z. Contains z c) (sym e) (in_here c c ds refl) in
          (c, (of_neg c i).0, in_map (λ (k : Named). k.number) (pos ++ neg) c (Contains-append_right pos neg c i))

      go : (ds : List Named) → pos ≡ ds → (c : Named) × Contains cs c × Contains (numbers_of (pos ++ neg)) c.number
      go [] e = others neg refl e
      go (c ∷ ds) e =
          let i : Contains pos c = subst (λ z. Contains z c) (sym e) (in_here c c ds refl) in
          (c, (of_pos c i).0, in_map (λ (k : Named). k.number) (pos ++ neg) c (Contains-append_left pos neg c i))

  eliminated : size (without_numbers cs (numbers_of (pos ++ neg)) ++ occurrences new x) < size cs
  eliminated =
      let g = some_gone in
      subst (λ z. size (without_numbers cs (numbers_of (pos ++ neg)) ++ z) < size cs) (sym none_new)
      (changed cs [] (numbers_of (pos ++ neg)) x g.0 g.1 g.2 (omega arith))

-- an entry that applies among the clauses makes them smaller
pub smaller : (cs : List Named) (rules : Rules) (x : ℕ) (e : Entry) → is_at x e ≡ true → applies cs rules e ≡ true → size (after cs x e) < size cs
smaller cs rules x (Taut gone) t h = removed cs x gone (taut-parts cs rules gone h).in_place
smaller cs rules x (Subsume by gone) t h = removed cs x gone (subsume-parts cs rules by gone h).gone_in
smaller cs rules x (Strengthen by on l new) t h = shortened cs x by on l new (strengthen-parts cs rules by on l new h)
smaller cs rules x (Block gone l) t h = removed cs x gone (block-parts cs rules gone l h).in_place
smaller cs rules x (Eliminate y pos neg new) t h =
    let e : y ≡ x = eqb-true y x t in
    subst (λ z. size (after cs z (Eliminate y pos neg new)) < size cs) e (eliminated cs rules.bound y pos neg new (eliminate-parts cs rules y pos neg new h))
smaller cs rules x (Look y) t h = absurd (false≢true t)

-- where one applies, there is a clause
pub some : (cs : List Named) (rules : Rules) (x : ℕ) (e : Entry) → is_at x e ≡ true → applies cs rules e ≡ true → cs ≡ [] → ⊥
some cs rules x e t h n = let l = smaller cs rules x e t h in let z : size cs ≡ 0 = ap size n in omega arith
