use Rattle.std.proofs.Common.{◌+◌, ◌≤◌, ap, arith}
use Rattle.cp_logic.specs.Slots.{Held}
use Rattle.cp_logic.proofs.Filling.{kept-put, count-at_most}
use Rattle.cp_logic.proofs.formulas.Formula.put.Goals as goal

pub overflow_add-self : goal.overflow_add-self
overflow_add-self c =
    let kept = kept-put c.self.inside.vars c.self.inside.next c.self.inside.count c.args.number c.self.inside.slots.items c.fill.new.slots.items c.args.clause c.args.self.now.formula
    c.self.invariant c.in_ok-fill.ensures.ok (ap (λ (h : Held). h.formula) c.self.view_is) c.requires.high c.requires.free c.lits.ensures.ascending c.requires.within in
    let few : c.self.inside.count + 1 ≤ c.self.inside.next = count-at_most c.self.inside.vars c.self.inside.next (c.self.inside.count + 1) c.fill.new.slots.items kept in
    omega arith

pub invariant_of-self-2 : goal.invariant_of-self-2
invariant_of-self-2 c =
    kept-put c.self.inside.vars c.self.inside.next c.self.inside.count c.args.number c.self.inside.slots.items c.fill.new.slots.items c.args.clause c.args.self.now.formula
    c.self.invariant c.in_ok-fill.ensures.ok (ap (λ (h : Held). h.formula) c.self.view_is) c.requires.high c.requires.free c.lits.ensures.ascending c.requires.within
