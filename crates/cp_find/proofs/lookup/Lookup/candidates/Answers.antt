use Rattle.std.proofs.Common.{◌∙◌, sym, subst, inl, inr}
use Rattle.std.specs.Prelude.{◌≢◌, IfSome}
use Rattle.cp_logic.specs.Literals.{variable_of}
use Rattle.cp_find.specs.Lookups.{Serves}
use Rattle.cp_find.proofs.Lookups.{serves-from}
use Rattle.cp_find.proofs.lookup.Lookup.candidates.Goals as goal

pub returns-then-bucket-le-ENOUGH : goal.returns-then-bucket-le-ENOUGH
returns-then-bucket-le-ENOUGH c =
    let other : variable_of c.lit-item.result ≢ c.args.wanted.now.variable = λ q. c.if-var.false (c.var.ensures.value ∙ q ∙ sym c.var-in-loop-lit.ensures) in
    serves-from c.args.wanted.now c.args.self.now c.bucket-bucket.result.now c.lit-item.result
    (c.lits-lit-items.ensures c.lit-item.result (c.loop-lit.lit-index, c.loop-lit-test.true, sym c.lit-item.is) other) other c.bucket-bucket.ensures

pub loop-lit-preserved : goal.loop-lit-preserved
loop-lit-preserved c =
    let other : variable_of c.lit-item.result ≢ c.args.wanted.now.variable = λ q. c.if-var.false (c.var.ensures.value ∙ q ∙ sym c.var-in-loop-lit.ensures) in
    elim c.shorter.ensures [
      | inl e ↦ subst (λ o. IfSome o (λ list. Serves c.args.wanted.now c.args.self.now list.now)) e c.loop-lit.invariant
      | inr e ↦ subst (Serves c.args.wanted.now c.args.self.now) (sym e)
          (serves-from c.args.wanted.now c.args.self.now c.bucket-bucket.result.now c.lit-item.result
          (c.lits-lit-items.ensures c.lit-item.result (c.loop-lit.lit-index, c.loop-lit-test.true, sym c.lit-item.is) other) other c.bucket-bucket.ensures)
    ]
