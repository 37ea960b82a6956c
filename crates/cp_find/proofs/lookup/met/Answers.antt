use Rattle.std.proofs.Common.{◌∙◌, sym, ap}
use Rattle.std.proofs.lemmas.Option.{none-some, same_Some}
use Rattle.cp_find.specs.declared.lookup.Signed.{Signed}
use Rattle.cp_find.specs.Finds.{subsumes}
use Rattle.cp_find.proofs.Lookups.{only-none}
use Rattle.cp_find.proofs.lookup.met.Goals as goal

pub returns-in_err-found-clause-none : goal.returns-in_err-found-clause-none
returns-in_err-found-clause-none c = only-none c.from_residual.result _ (λ d i e. absurd (none-some d (c.in_err-found.ensures.only d i (ap (λ (s : Signed). s.number) e))))

pub returns-else-is_met_by-clause-none : goal.returns-else-is_met_by-clause-none
returns-else-is_met_by-clause-none c = λ d i e.
    ap (subsumes c.args.wanted.now.sought) (sym (same_Some c.in_ok-found.found.now d (c.in_ok-found.ensures.only d i (ap (λ (s : Signed). s.number) e)))) ∙ sym c.is_met_by.ensures ∙ c.if-is_met_by.false
