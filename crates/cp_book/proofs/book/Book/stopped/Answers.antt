use Rattle.std.proofs.Common.{true, false, sym, ap, ◌∙◌, refl}
use Rattle.std.specs.Prelude.{is_some}
use Rattle.cp_logic.specs.Journals.{commits}
use Rattle.cp_logic.specs.Sweeps.{is_spent}
use Rattle.cp_book.proofs.Choices.{stop-tested}
use Rattle.cp_book.proofs.book.Book.stopped.Goals as goal

pub returns-then-is_some : goal.returns-then-is_some
returns-then-is_some c =
    let b = c.args.self.now in
    stop-tested b true (is_spent b.rules (commits b.posts)) (sym (ap is_some c.least_empty.ensures) ∙ sym c.is_some.ensures ∙ c.if-is_some.true) refl

pub returns-then-is_spent : goal.returns-then-is_spent
returns-then-is_spent c =
    stop-tested c.args.self.now false true (sym (ap is_some c.least_empty.ensures) ∙ sym c.is_some.ensures ∙ c.if-is_some.false) (sym c.is_spent.ensures ∙ c.if-is_spent.true)

pub returns-else-is_spent : goal.returns-else-is_spent
returns-else-is_spent c =
    stop-tested c.args.self.now false false (sym (ap is_some c.least_empty.ensures) ∙ sym c.is_some.ensures ∙ c.if-is_some.false) (sym c.is_spent.ensures ∙ c.if-is_spent.false)
