use Rattle.std.proofs.Common.{◌≡◌, ℕ, ◌<◌, ◌≤◌, List, [], ◌∷◌, ◌++◌, length, map, take, get_or, set, true, sym, ap, ◌∙◌, subst, arith}
use Rattle.std.specs.List.{Contains}
use Rattle.std.proofs.lemmas.List.{get_or-map, length-map, take_more, take_all}
use Rattle.std.proofs.lemmas.List.Elements.{Contains-get_or}
use Rattle.cp_logic.specs.Literals.{variable_of}
use Rattle.cp_sweep.specs.Marks.{with_marks}
use Rattle.cp_sweep.proofs.MarkFacts.{length-with_marks, with_marks-push}
use Rattle.cp_sweep.proofs.touch.touch_clause.Goals as goal

-- the variable at a place of a clause
variable-there : (clause : List ℕ) (i l : ℕ) → i < length clause → l ≡ get_or clause i l → get_or (map variable_of clause) i 0 ≡ variable_of l
variable-there clause i l h e = get_or-map variable_of clause i l 0 h ∙ ap variable_of (sym e)

pub insert-requires : goal.insert-requires
insert-requires c =
    let clause = c.args.named.now.clause in let i = c.loop-lit.lit-index in
    let same = c.lits-lit-items.ensures.value in
    let h : i < length clause = omega (arith, c.loop-lit-test.true, ap length same) in
    let is = c.lit-item.is ∙ ap (λ ls. get_or ls i c.lit-item.result) same in
    let among = subst (Contains (map variable_of clause)) (variable-there clause i c.lit-item.result h is) (Contains-get_or (map variable_of clause) i 0 (omega (arith, length-map clause variable_of))) in
    let below = c.requires (variable_of c.lit-item.result) among in
    omega (arith, below, c.var.ensures.value, ap length c.loop-lit.invariant, length-with_marks c.args.touched.now (take i (map variable_of clause)))

pub loop-lit-preserved : goal.loop-lit-preserved
loop-lit-preserved c =
    let clause = c.args.named.now.clause in let i = c.loop-lit.lit-index in
    let same = c.lits-lit-items.ensures.value in
    let h : i < length clause = omega (arith, c.loop-lit-test.true, ap length same) in
    let is = c.lit-item.is ∙ ap (λ ls. get_or ls i c.lit-item.result) same in
    let x = variable_of c.lit-item.result in
    c.insert.ensures ∙ ap (λ n. set c.loop-lit.touched n true) c.var.ensures.value ∙ ap (λ ms. set ms x true) c.loop-lit.invariant
    ∙ sym (with_marks-push c.args.touched.now (take i (map variable_of clause)) x)
    ∙ ap (with_marks c.args.touched.now) (sym (take_more (map variable_of clause) i 0 (omega (arith, length-map clause variable_of)) ∙ ap (λ y. take i (map variable_of clause) ++ y ∷ []) (variable-there clause i c.lit-item.result h is)))

pub returns : goal.returns
returns c =
    let vs = map variable_of c.args.named.now.clause in
    let h : length vs ≤ c.loop-lit.lit-index = omega (arith, c.loop-lit-test.false, ap length c.lits-lit-items.ensures.value, length-map c.args.named.now.clause variable_of) in
    c.loop-lit.invariant ∙ ap (with_marks c.args.touched.now) (take_all c.loop-lit.lit-index vs h)
