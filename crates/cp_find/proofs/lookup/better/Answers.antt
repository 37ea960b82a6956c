use Rattle.std.proofs.Common.{◌≤◌, ◌∙◌, sym, ap, arith}
use Rattle.std.specs.Option.{option_map}
use Rattle.cp_find.specs.Lookups.{is_up_to}
use Rattle.cp_find.proofs.Lookups.{best-taken}
use Rattle.cp_find.proofs.lookup.better.Goals as goal

pub returns-in-Some : goal.returns-in-Some
returns-in-Some c = λ seen best.
    let d = c.in-Some.found.now in let same = c.in-Some.ensures.number in
    let above : c.args.from ≤ d.number = omega (arith, c.if-candidate-from.false, same) in
    best-taken c.args.wanted.now.sought c.args.cell.now.clauses c.args.from seen c.args.candidate (option_map (λ o. o.now) c.args.best) d best c.in-Some.ensures.some above
    (ap (is_up_to (option_map (λ o. o.now) c.args.best)) same ∙ sym c.is_up_to.ensures ∙ c.if-is_up_to.false) same
