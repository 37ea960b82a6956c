use Rattle.std.proofs.Common.{◌≡◌, true, false, sym, ap, ◌∙◌}
use Rattle.std.specs.Prelude.{is_some}
use Rattle.cp_logic.specs.Formulas.{has_empty}
use Rattle.cp_book.specs.Views.{current, stop_in}
use Rattle.cp_book.proofs.EmptyFacts.{has_empty-least}
use Rattle.cp_hood.proofs.Outcomes.{spent-stop}
use Rattle.cp_hood.proofs.posting.refusal_of.Goals as goal

pub returns-in-Some-clause-some : goal.returns-in-Some-clause-some
returns-in-Some-clause-some c =
    let q = sym c.least_empty.ensures ∙ c.in-Some.is in
    (q, has_empty-least (current c.args.book.now).clauses ∙ ap is_some q)

pub returns-then-is_some-clause-some : goal.returns-then-is_some-clause-some
returns-then-is_some-clause-some c =
    let b = c.args.book.now in
    let filled : has_empty (current b).clauses ≡ false = has_empty-least (current b).clauses ∙ ap is_some (sym c.least_empty.ensures ∙ c.in_default.is) in
    let stop : is_some (stop_in b) ≡ true = ap is_some (sym c.stopped.ensures) ∙ sym c.is_some.ensures ∙ c.if-is_some.true in
    (c.commits-len.ensures, (filled, spent-stop b filled stop))
