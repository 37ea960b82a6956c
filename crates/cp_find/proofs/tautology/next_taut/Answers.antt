use Rattle.std.proofs.Common.{◌≡◌, ◌∙◌, sym, ap, Some, None}
use Rattle.std.specs.Option.{option_map}
use Rattle.std.specs.List.{find}
use Rattle.cp_logic.specs.declared.named.Named.{Named}
use Rattle.cp_logic.specs.Clauses.{is_tautology}
use Rattle.cp_logic.specs.Entries.{Taut}
use Rattle.cp_logic.specs.Items.{named_item}
use Rattle.cp_find.proofs.Firsts.{first-taut}
use Rattle.cp_find.proofs.Past.{taut-left, taut-none, taut-found, taut-gone}
use Rattle.cp_occ.proofs.Having.{cell-have}
use Rattle.cp_find.proofs.tautology.next_taut.Goals as goal

pub returns-in_default-clause-found : goal.returns-in_default-clause-found
returns-in_default-clause-found c =
    let cell = c.args.cell.now in
    sym (first-taut cell.variable cell.clauses (cell-have cell c.var.ensures.valid)
    ∙ ap (option_map Taut) (taut-none cell.variable cell.clauses c.args.reached.now c.in_default.is c.requires))

pub returns-in_default-first_tautology_from-clause-found : goal.returns-in_default-first_tautology_from-clause-found
returns-in_default-first_tautology_from-clause-found c =
    let cell = c.args.cell.now in
    let none : find (λ (n : Named). is_tautology n.clause) cell.clauses ≡ None =
    sym (ap (option_map named_item) (sym c.in_default-first_tautology_from.is) ∙ c.first_tautology_from.ensures
    ∙ taut-left cell.variable cell.clauses c.args.reached.now c.in-Some.from c.in-Some.is c.requires) in
    sym (first-taut cell.variable cell.clauses (cell-have cell c.var.ensures.valid) ∙ ap (option_map Taut) none)

pub returns-in_default-first_tautology_from-clause-past : goal.returns-in_default-first_tautology_from-clause-past
returns-in_default-first_tautology_from-clause-past c =
    let cell = c.args.cell.now in
    let none : find (λ (n : Named). is_tautology n.clause) cell.clauses ≡ None =
    sym (ap (option_map named_item) (sym c.in_default-first_tautology_from.is) ∙ c.first_tautology_from.ensures
    ∙ taut-left cell.variable cell.clauses c.args.reached.now c.in-Some.from c.in-Some.is c.requires) in
    taut-gone cell.variable cell.clauses c.args.reached.now none c.requires

pub returns-clause-found : goal.returns-clause-found
returns-clause-found c =
    let cell = c.args.cell.now in
    let found = c.in-Some-first_tautology_from in
    let here : Named = record { number = found.number; clause = found.clause.now } in
    let answer : find (λ (n : Named). is_tautology n.clause) cell.clauses ≡ Some here =
    sym (ap (option_map named_item) (sym found.is) ∙ c.first_tautology_from.ensures
    ∙ taut-left cell.variable cell.clauses c.args.reached.now c.in-Some.from c.in-Some.is c.requires) in
    ap (λ (n : Named). Some (Taut n)) c.in_ok-gone.ensures
    ∙ sym (first-taut cell.variable cell.clauses (cell-have cell c.var.ensures.valid) ∙ ap (option_map Taut) answer)

pub returns-clause-past : goal.returns-clause-past
returns-clause-past c =
    let cell = c.args.cell.now in
    let found = c.in-Some-first_tautology_from in
    let here : Named = record { number = found.number; clause = found.clause.now } in
    let answer : find (λ (n : Named). is_tautology n.clause) cell.clauses ≡ Some here =
    sym (ap (option_map named_item) (sym found.is) ∙ c.first_tautology_from.ensures
    ∙ taut-left cell.variable cell.clauses c.args.reached.now c.in-Some.from c.in-Some.is c.requires) in
    taut-found cell.variable cell.clauses c.args.reached.now here c.var.ensures.valid.rising answer c.requires
