use Rattle.std.proofs.Common.{◌∙◌, Some, sym, ap}
use Rattle.cp_logic.specs.declared.named.Named.{Named}
use Rattle.cp_find.proofs.Lookups.{stands-none, stands-first, first-in}
use Rattle.cp_find.proofs.lookup.standing.Goals as goal

pub returns-in_err-found-clause-only : goal.returns-in_err-found-clause-only
returns-in_err-found-clause-only c = λ d i q.
    absurd (stands-none c.args.cell.now.clauses c.args.number (sym c.occurrences_from.ensures ∙ c.in_err-found.ensures.steps.0) d i q)

pub returns-then-number-clause-some : goal.returns-then-number-clause-some
returns-then-number-clause-some c =
    first-in c.args.cell.now.clauses c.args.number c.in_ok-found.found.now c.next.new.self (sym c.occurrences_from.ensures ∙ c.in_ok-found.ensures.steps)

pub returns-then-number-clause-only : goal.returns-then-number-clause-only
returns-then-number-clause-only c = λ d i q.
    ap (λ (z : Named). Some z)
    (stands-first c.args.cell.now.clauses c.args.number c.in_ok-found.found.now c.next.new.self c.var.ensures.valid.rising (sym c.occurrences_from.ensures ∙ c.in_ok-found.ensures.steps) d i q)

pub returns-else-number-clause-only : goal.returns-else-number-clause-only
returns-else-number-clause-only c = λ d i q.
    absurd (c.if-number.false (c.number.ensures ∙ ap (λ (z : Named). z.number)
    (stands-first c.args.cell.now.clauses c.args.number c.in_ok-found.found.now c.next.new.self c.var.ensures.valid.rising (sym c.occurrences_from.ensures ∙ c.in_ok-found.ensures.steps) d i q) ∙ q))
