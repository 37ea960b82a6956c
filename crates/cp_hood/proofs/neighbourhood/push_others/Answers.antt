use Rattle.std.proofs.Common.{◌≡◌, ℕ, ◌<◌, ◌++◌, List, [], ◌∷◌, length, slice_index_or, All, sym, ap, ◌∙◌, subst}
use Rattle.std.specs.List.{Contains}
use Rattle.std.proofs.lemmas.List.Elements.{All-push, Contains-append_left}
use Rattle.cp_logic.specs.Literals.{variable_of}
use Rattle.cp_logic.specs.Formulas.{set_of}
use Rattle.cp_hood.specs.Rows.{IsVariable}
use Rattle.cp_hood.proofs.Ranges.{pushed-set, kept-set}
use Rattle.cp_hood.proofs.neighbourhood.push_others.Goals as goal
use Rattle.cp_hood.proofs.neighbourhood.push_others.Goals.{then-var-centre+in_ok-push, else-var-centre}

pub loop-lit-preserved : goal.loop-lit-preserved
loop-lit-preserved c =
    let i = c.loop-lit.invariant in let items : List ℕ = c.loop-lit.vars.items in let start : List ℕ = c.args.vars.now.items in
    let lits : List ℕ = c.lits-lit-items.result.now in let at : ℕ = c.loop-lit.lit-index in let lit : ℕ = c.lit-item.result in let var : ℕ = c.var-var.result in
    let near : at < length lits = c.loop-lit-test.true in
    let is : var ≡ variable_of (slice_index_or lits at lit) = c.var-var.ensures.value ∙ ap variable_of c.lit-item.is in
    elim c.if-var-centre.branch [
      | then-var-centre+in_ok-push w ↦
          let now : c.if-var-centre.vars.items ≡ items ++ var ∷ [] = ap (λ v. v.items) w.vars-is ∙ w.in_ok-push.ensures.items in record {
            variables = ap set_of (now ∙ ap (λ (x : ℕ). items ++ x ∷ []) is) ∙ pushed-set items start lits at lit near i.variables;
            centre = subst (λ (xs : List ℕ). Contains xs c.args.centre) (sym now) (Contains-append_left items (var ∷ []) c.args.centre i.centre);
            range = λ h. subst (All IsVariable) (sym now) (All-push IsVariable items var (i.range h) (c.var-var.ensures.low, c.var-var.ensures.high));
          }
      | else-var-centre w ↦
          let same : c.if-var-centre.vars.items ≡ items = ap (λ v. v.items) w.vars-is in record {
            variables = ap set_of same ∙ kept-set items start lits at lit near (subst (Contains items) (sym w.if-var-centre.false ∙ is) i.centre) i.variables;
            centre = subst (λ (xs : List ℕ). Contains xs c.args.centre) (sym same) i.centre;
            range = λ h. subst (All IsVariable) (sym same) (i.range h);
          }
    ]
