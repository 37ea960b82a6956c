use Rattle.std.proofs.Common.{sym, subst}
use Rattle.std.proofs.lemmas.Result.{IfOk-weaker}
use Rattle.cp_logic.specs.Journals.{folded}
use Rattle.cp_book.specs.Views.{BookView}
use Rattle.cp_occ.specs.Changes.{AreCellsOf}
use Rattle.cp_sweep.specs.Swept.{IsSwept, IsSweptAfter}
use Rattle.cp_sweep.proofs.Turning.{swept-first, cells-start}
use Rattle.cp_sweep.proofs.turns.simplify.Goals as goal

pub sweep-requires-clause-cells : goal.sweep-requires-clause-cells
sweep-requires-clause-cells c =
    let made = c.in_ok-cells.ensures in
    subst (λ (b : BookView). AreCellsOf (folded b.first b.posts).formula c.in_ok-cells.cells.items) (sym c.in_ok-book.ensures)
    (cells-start c.args.formula.formula c.in_ok-cells.cells.items (record { variables = made.variables; lists = made.clauses }))

pub returns-clause-swept : goal.returns-clause-swept
returns-clause-swept c =
    let b = c.in_ok-book.book in let f = c.args.formula.formula in let rules = c.args.rules.now in
    IfOk-weaker c.sweep.result
    (λ s. IsSweptAfter b.first b.rules b.posts s.journal.items s.formula.formula s.stopped)
    (λ s. IsSwept f rules s.journal.items s.formula.formula s.stopped)
    (λ s h. swept-first f rules s.journal.items s.formula.formula s.stopped
    (subst (λ (d : BookView). IsSweptAfter d.first d.rules d.posts s.journal.items s.formula.formula s.stopped) c.in_ok-book.ensures h))
    c.sweep.ensures.swept
