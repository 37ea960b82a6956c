use Rattle.std.proofs.Common.{◌∙◌, List, ℕ, sym, ap}
use Rattle.std.specs.Prelude.{◌&&◌}
use Rattle.cp_logic.specs.Literals.{negated}
use Rattle.cp_logic.specs.Clauses.{is_subset, without}
use Rattle.cp_find.proofs.Turned.{turned-subset}
use Rattle.cp_find.proofs.wanted.has_turned.Goals as goal

pub returns-then-has : goal.returns-then-has
returns-then-has c =
    let by : List ℕ = c.args.by.now.clause in let on : List ℕ = c.args.on.now.clause in
    c.has_besides.ensures ∙ ap (λ (z : List ℕ). is_subset (without z c.negated.result) c.clause-then-has.result.now) (c.lits.ensures.value ∙ c.clause.ensures)
    ∙ ap (λ m. is_subset (without by m) c.clause-then-has.result.now) c.negated.ensures ∙ ap (is_subset (without by (negated c.args.lit))) c.clause-then-has.ensures
    ∙ sym (turned-subset by on c.args.lit c.requires ∙ ap (λ b. b && is_subset (without by (negated c.args.lit)) on) (sym c.has.ensures ∙ c.if-has.true))

pub returns-else-has : goal.returns-else-has
returns-else-has c =
    let by : List ℕ = c.args.by.now.clause in let on : List ℕ = c.args.on.now.clause in
    sym (turned-subset by on c.args.lit c.requires ∙ ap (λ b. b && is_subset (without by (negated c.args.lit)) on) (sym c.has.ensures ∙ c.if-has.false))
