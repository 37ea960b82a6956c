use Rattle.std.proofs.Common.{◌≡◌, List, Some, sym, ◌∙◌, ap, ℕ}
use Rattle.std.specs.Option.{option_map, option_copied}
use Rattle.cp_logic.specs.declared.named.Named.{Named}
use Rattle.cp_logic.specs.declared.settings.Rules.{Rules}
use Rattle.cp_logic.specs.Formulas.{Formula, find_number}
use Rattle.cp_logic.specs.Entries.{Taut}
use Rattle.cp_logic.specs.Legality.{is_legal_in}
use Rattle.cp_book.specs.Views.{BookView, current}
use Rattle.cp_book.proofs.Tautologies.{found-in, taut-legal}
use Rattle.cp_book.proofs.tests.post_tautology.Goals as goal

pub post-requires-clause-legal : goal.post-requires-clause-legal
post-requires-clause-legal c =
    let b = c.args.book.now in
    let k = c.in-Some.clause.now in
    let named : Named = record { number = c.args.number; clause = k } in
    let found : Some k ≡ option_map (λ (d : Named). d.clause) (find_number (current b).clauses c.args.number) =
    ap option_copied (sym c.in-Some.is) ∙ c.get.ensures ∙ ap (λ (f : Formula). option_map (λ (d : Named). d.clause) (find_number f.clauses c.args.number)) c.clauses.ensures in
    ap (λ (d : BookView). is_legal_in (current d).clauses d.rules (Taut (record { number = c.args.number; clause = c.in_ok-clause.clause }))) c.prepare.ensures.same
    ∙ ap (λ (z : List ℕ). is_legal_in (current b).clauses b.rules (Taut (record { number = c.args.number; clause = z }))) c.in_ok-clause.ensures
    ∙ taut-legal (current b).clauses b.rules named
    (sym (ap (λ (r : Rules). r.choice.t) c.rules.ensures) ∙ c.if-not-rules.false)
    (found-in (current b).clauses c.args.number k found) (sym c.is_tautology.ensures ∙ c.if-not-is_tautology.false)
