use Rattle.std.proofs.Common.{◌≤◌, sym, subst}
use Rattle.cp_logic.specs.Slots.{Held}
use Rattle.cp_logic.proofs.Filling.{kept-raised}
use Rattle.cp_logic.proofs.formulas.Formula.raise.Goals as goal

pub invariant_of-self : goal.invariant_of-self
invariant_of-self c =
    kept-raised c.self.inside.vars c.args.vars c.self.inside.next c.self.inside.count c.self.inside.slots.items c.self.invariant
    (subst (λ (h : Held). h.formula.variables ≤ c.args.vars) (sym c.self.view_is) c.requires.low) c.requires.high
