use Rattle.std.proofs.Common.{sym, subst, ap, ◌∙◌, ◌≡◌, ◌∷◌, [], List, ℕ, length, arith}
use Rattle.std.specs.List.{All}
use Rattle.std.specs.Vec.Iter.{into_iter_items}
use Rattle.std.proofs.lemmas.List.Elements.{All-tail}
use Rattle.cp_logic.specs.Formulas.{Formula, IsWithin}
use Rattle.cp_book.specs.Changes.{with_all}
use Rattle.cp_book.proofs.changes.push_all.Goals as goal

pub loop-clause-preserved : goal.loop-clause-preserved
loop-clause-preserved c =
    let items : into_iter_items c.loop-clause.clause-iterator ≡ c.in-Some.clause ∷ into_iter_items c.next.new.self = search c.in-Some.ensures.steps in
    let long : length (into_iter_items c.loop-clause.clause-iterator) ≡ length (c.in-Some.clause ∷ into_iter_items c.next.new.self) = ap (λ (cs : List (List ℕ)). length cs) items in
    let formula = c.push_reserved.ensures.formula in
    record {
      formula =
          ap (λ (f : Formula). with_all f (into_iter_items c.next.new.self)) formula
          ∙ ap (with_all c.loop-clause.formula.formula) (sym items) ∙ c.loop-clause.invariant.formula;
      spare = omega (arith, c.push_reserved.ensures.lower, c.loop-clause.invariant.spare);
      numbers = omega (arith, ap (λ (f : Formula). f.next) formula, c.loop-clause.invariant.numbers);
      within =
          subst (λ (f : Formula). All (IsWithin f.variables) (into_iter_items c.next.new.self)) (sym formula)
          (All-tail (IsWithin c.loop-clause.formula.formula.variables) c.in-Some.clause (into_iter_items c.next.new.self)
          (subst (All (IsWithin c.loop-clause.formula.formula.variables)) items c.loop-clause.invariant.within));
    }

pub push_reserved-requires-clause-within : goal.push_reserved-requires-clause-within
push_reserved-requires-clause-within c =
    let items : into_iter_items c.loop-clause.clause-iterator ≡ c.in-Some.clause ∷ into_iter_items c.next.new.self = search c.in-Some.ensures.steps in
    subst (All (IsWithin c.loop-clause.formula.formula.variables)) items c.loop-clause.invariant.within 0 [] (omega arith)
