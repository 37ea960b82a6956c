use Rattle.std.proofs.Common.{◌≡◌, ◌≤◌, ℕ, List, [], ◌∷◌, ◌++◌, map, length, eqb, sym, ap, ◌∙◌, subst, append_assoc, append-nil, All, IsPermutation}
use Rattle.std.specs.List.{Contains, dedup}
use Rattle.std.proofs.lemmas.List.Elements.{All-push, All-nil}
use Rattle.std.proofs.lemmas.List.Filters.{dedup_is}
use Rattle.cp_logic.specs.declared.named.Named.{Named}
use Rattle.cp_logic.specs.Literals.{variable_of}
use Rattle.cp_logic.specs.Formulas.{neighbourhood, set_of}
use Rattle.cp_logic.proofs.Members.{in_here}
use Rattle.cp_occ.proofs.Entered.{lent-back}
use Rattle.cp_hood.specs.Rows.{IsVariable}
use Rattle.cp_hood.proofs.Ranges.{each_variable, set-append, sorted-neighbourhood, few-neighbours}
use Rattle.cp_hood.proofs.neighbourhood.neighbourhood.Goals as goal

module _ (c : goal.After-into_iter-number-iterator) where
  start : c.push.new.self.items ≡ c.args.cell.now.variable ∷ []
  start = c.in_ok-push.ensures.items ∙ (ap (λ (xs : List ℕ). xs ++ c.var-centre.result ∷ []) c.new-vars.ensures.items ∙ ap (λ (x : ℕ). x ∷ []) c.var-centre.ensures.value)

pub loop-number-init : goal.loop-number-init
loop-number-init c = let cell = c.args.cell.now in record {
  variables = ap set_of (ap (λ (xs : List ℕ). xs ++ each_variable c.into_iter-number-iterator.result) (start c)
      ∙ ap (λ (cs : List Named). cell.variable ∷ each_variable cs) (c.into_iter-number-iterator.ensures.into_iter_gives ∙ c.iter-number-items.ensures));
  centre = subst (λ (xs : List ℕ). Contains xs cell.variable) (sym (start c)) (in_here cell.variable cell.variable [] (λ _. cell.variable));
  range = subst (All IsVariable) (sym (start c)) (All-push IsVariable [] cell.variable (All-nil IsVariable) (c.var-centre.ensures.valid.low, c.var-centre.ensures.valid.high));
}

pub loop-number-preserved : goal.loop-number-preserved
loop-number-preserved c = let i = c.loop-number.invariant in let items : List ℕ = c.loop-number.vars.items in let rest : List Named = c.next.new.self in
    let pushed = c.in_ok-push_others.ensures in let more : List ℕ = map variable_of c.in-Some.clause.now in record {
      variables = set-append c.push_others.new.vars.items (items ++ more) (each_variable rest) pushed.variables
          ∙ ap set_of (append_assoc items more (each_variable rest) ∙ ap (λ (cs : List Named). items ++ each_variable cs) (sym c.in-Some.ensures.steps)) ∙ i.variables;
      centre = subst (Contains c.push_others.new.vars.items) c.var-centre.ensures.value pushed.centre;
      range = pushed.range i.range;
    }

module _ (c : goal.After-dedup) where
  all-are : set_of c.loop-number.vars.items ≡ set_of (c.args.cell.now.variable ∷ each_variable c.args.cell.now.clauses)
  all-are = ap set_of (sym (append-nil c.loop-number.vars.items) ∙ ap (λ (cs : List Named). c.loop-number.vars.items ++ each_variable cs) (sym c.in-None.ensures.steps.0)) ∙ c.loop-number.invariant.variables

  found : c.dedup.new.self.items ≡ neighbourhood c.args.cell.now.clauses c.args.cell.now.variable
  found = dedup_is eqb _ c.dedup.new.self.items c.dedup.ensures.filtered
      ∙ ap (dedup eqb) (lent-back c.loop-number.vars.len c.loop-number.vars.items c.sort_unstable.new.self (sym c.as_mut_slice.ensures.len ∙ ap length c.as_mut_slice.ensures.value) (c.sort_unstable.ensures.len ∙ ap length c.as_mut_slice.ensures.value))
      ∙ sorted-neighbourhood c.args.cell.now.variable c.args.cell.now.clauses c.loop-number.vars.items c.sort_unstable.new.self c.var-centre.ensures.valid all-are
      (subst (λ (xs : List ℕ). IsPermutation xs c.sort_unstable.new.self) c.as_mut_slice.ensures.value c.sort_unstable.ensures.permutation) c.sort_unstable.ensures.sorted

pub returns-clause-variables : goal.returns-clause-variables
returns-clause-variables c = found c

pub returns-clause-few : goal.returns-clause-few
returns-clause-few c = subst (λ (ys : List ℕ). length ys ≤ 2000000) (sym (found c))
    (few-neighbours c.args.cell.now.variable c.args.cell.now.clauses c.loop-number.vars.items c.var-centre.ensures.valid (all-are c) c.loop-number.invariant.range)
