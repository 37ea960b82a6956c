use Rattle.std.proofs.Common.{subst, ap, ◌∙◌}
use Rattle.cp_book.specs.declared.book.Parts.{Parts}
use Rattle.cp_logic.specs.Formulas.{IsFormula}
use Rattle.cp_logic.specs.Journals.{IsLegalJournal}
use Rattle.cp_book.specs.Views.{BookView, current}
use Rattle.cp_book.proofs.book.Book.is_legal.Goals as goal

pub returns-clause-now : goal.returns-clause-now
returns-clause-now c = subst (λ (b : BookView). IsFormula (current b)) c.self.view_is (subst IsFormula (ap (λ (p : Parts). p.formula.formula) c.deref.ensures ∙ c.self.invariant.0.formula) c.vars.ensures.valid)

pub returns-clause-journal : goal.returns-clause-journal
returns-clause-journal c = subst (λ (b : BookView). IsLegalJournal b.first b.rules b.posts) c.self.view_is c.self.invariant.0.legal
