use Rattle.std.proofs.Common.{[], ◌∷◌, get_or, sym, ◌∙◌, subst}
use Rattle.cp_logic.proofs.Changes.{without_one}
use Rattle.cp_occ.specs.Changes.{IsWithout}
use Rattle.cp_occ.proofs.Changed.{Going, Going-start, Going-next, Going-step, next-ascending, next-over, same-without}
use Rattle.cp_occ.proofs.changes.remove_everywhere.Goals as goal

pub loop-var-init : goal.loop-var-init
loop-var-init c =
    subst (Going (IsWithout (c.args.gone.now ∷ [])) c.args.gone.now.clause c.args.cells.now c.args.cells.now) (sym (c.into_iter-var-iterator.ensures.into_iter_gives ∙ c.of-var-items.ensures.value))
    (Going-start (IsWithout (c.args.gone.now ∷ [])) c.args.gone.now.clause c.args.cells.now c.requires.ascending c.of-var-items.ensures.ascending c.of-var-items.ensures.literals c.requires.within
    (λ k d h f. same-without c.args.gone.now (get_or c.args.cells.now k d) (c.requires.named k d h) f))

pub index_of-index-requires-clause-ascending : goal.index_of-index-requires-clause-ascending
index_of-index-requires-clause-ascending c = next-ascending _ _ _ _ _ _ (Going-next _ _ _ _ _ _ _ c.loop-var.invariant c.in-Some.ensures.steps)

pub index_of-index-requires-clause-has : goal.index_of-index-requires-clause-has
index_of-index-requires-clause-has c = next-over _ _ _ _ _ _ (Going-next _ _ _ _ _ _ _ c.loop-var.invariant c.in-Some.ensures.steps)

pub loop-var-preserved-in-Some : goal.loop-var-preserved-in-Some
loop-var-preserved-in-Some c =
    Going-step (IsWithout (c.args.gone.now ∷ [])) c.args.gone.now.clause c.args.cells.now c.loop-var.cells c.in-Some.var c.next.new.self
    (Going-next _ _ _ _ _ _ _ c.loop-var.invariant c.in-Some.ensures.steps)
    c.index_of-index.result c.index_of-index.ensures.bound c.index_of-index.ensures.variable c.index-cells-index.result c.remove.new.self c.remove.ensures.variable
    (record { variable = c.remove.ensures.variable; clauses = c.remove.ensures.clauses ∙ without_one _ c.args.gone.now.number; spare = c.remove.ensures.spare })

pub loop-var-preserved : goal.loop-var-preserved
loop-var-preserved c =
    Going-step (IsWithout (c.args.gone.now ∷ [])) c.args.gone.now.clause c.args.cells.now c.loop-var.cells c.in-Some.var c.next.new.self
    (Going-next _ _ _ _ _ _ _ c.loop-var.invariant c.in-Some.ensures.steps)
    c.index_of-index.result c.index_of-index.ensures.bound c.index_of-index.ensures.variable c.index-cells-index.result c.remove.new.self c.remove.ensures.variable
    (record { variable = c.remove.ensures.variable; clauses = c.remove.ensures.clauses ∙ without_one _ c.args.gone.now.number; spare = c.remove.ensures.spare })
