use Rattle.std.proofs.Common.{◌≡◌, ℕ, List, [], ◌∷◌, ap, sym, ◌∙◌}
use Rattle.cp_logic.specs.Clauses.{clause_of}
use Rattle.cp_hood.proofs.Examples.{IsLegalFor-one}
use Rattle.cp_hood.proofs.tests.elimination_of_one.Goals as goal

pub returns : goal.returns
returns c =
    let b = c.in-Some-Some in
    let lits : c.as_slice.result.now ≡ 4 ∷ 6 ∷ [] = c.as_slice.ensures ∙ (λ i. c.new.ensures i ∷ c.new-2.ensures i ∷ []) in
    let resolvent : c.in_ok-resolvent.resolvent ≡ clause_of (4 ∷ 6 ∷ []) = c.in_ok-resolvent.ensures ∙ ap clause_of lits in
    IsLegalFor-one c.args.cell.now b.m b.n b.left.now b.right.now c.in_ok-one.field-0.items c.in_ok-one-2.field-0.items c.in_ok-one-3.field-0.items
    (sym c.var.ensures.value ∙ c.if-var-ne1.false) (sym c.len.ensures ∙ c.if-len-ne2.false) (sym b.ensures) (sym b.ensures')
    (c.is_pair.ensures c.if-not-is_pair.false) (c.is_pair-else-not-is_pair.ensures c.if-not-is_pair-2.false)
    c.in_ok-one.ensures c.in_ok-one-2.ensures (c.in_ok-one-3.ensures ∙ ap (λ (d : List ℕ). record { number = 1; clause = d } ∷ []) resolvent)
