use Rattle.std.proofs.Common.{[], ◌∷◌, ◌++◌, length, take, sym, ap, ◌∙◌, subst, arith}
use Rattle.std.specs.List.{Contains}
use Rattle.std.proofs.lemmas.List.{flat_map_more, take_more}
use Rattle.std.proofs.lemmas.List.Elements.{Contains-get_or}
use Rattle.cp_logic.proofs.Members.{in_flat_map}
use Rattle.cp_sweep.specs.Marks.{with_marks}
use Rattle.cp_sweep.specs.Cursor.{variables_at, variables_through}
use Rattle.cp_sweep.proofs.MarkFacts.{length-with_marks, with_marks-append}
use Rattle.cp_sweep.proofs.touch.touch_all.Goals as goal

pub touch_clause-requires : goal.touch_clause-requires
touch_clause-requires c = λ x i.
    let cs = c.args.clauses.now in let k = c.loop-named.named-index in let d = c.named-item.result in
    let among = subst (Contains cs) (sym c.named-item.is) (Contains-get_or cs k d c.loop-named-test.true) in
    let below = c.requires x (in_flat_map variables_at cs d x among i) in
    omega (arith, below, ap length c.loop-named.invariant, length-with_marks c.args.touched.now (variables_through (take k cs)))

pub loop-named-preserved : goal.loop-named-preserved
loop-named-preserved c =
    let cs = c.args.clauses.now in let k = c.loop-named.named-index in let d = c.named-item.result in
    c.touch_clause.ensures ∙ ap (λ ms. with_marks ms (variables_at d)) c.loop-named.invariant
    ∙ sym (with_marks-append c.args.touched.now (variables_through (take k cs)) (variables_at d))
    ∙ ap (with_marks c.args.touched.now) (flat_map_more variables_at [] (take k cs) d ∙ ap variables_through (sym (take_more cs k d c.loop-named-test.true ∙ ap (λ y. take k cs ++ y ∷ []) (sym c.named-item.is))))
