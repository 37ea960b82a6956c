use Rattle.std.proofs.Common.{ℕ, List, ◌∙◌, ap, subst}
use Rattle.std.specs.List.{Contains}
use Rattle.cp_find.specs.Lookups.{WantedView}
use Rattle.cp_find.proofs.Turned.{kept-literal}
use Rattle.cp_find.proofs.wanted.Wanted.lits.Goals as goal

pub returns : goal.returns
returns c l i n =
    subst (λ (w : WantedView). Contains w.sought.clause l) c.self.view_is
    (kept-literal c.self.inside.var c.self.inside.taken c.self.inside.by.now.clause l c.self.invariant (subst (λ (ls : List ℕ). Contains ls l) (c.lits.ensures.value ∙ c.clause.ensures) i)
    (λ q. n (q ∙ ap (λ (w : WantedView). w.variable) c.self.view_is)))
