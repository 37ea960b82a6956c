use Rattle.std.proofs.Common.{◌≡◌, Option, Some, subst}
use Rattle.std.specs.Prelude.{IfSome}
use Rattle.cp_logic.specs.declared.entries.Entry.{Entry as HeldEntry}
use Rattle.cp_logic.specs.Views.{entry_of}
use Rattle.cp_occ.specs.Cells.{CellView}
use Rattle.cp_hood.specs.Examples.{IsLegalFor}
use Rattle.cp_hood.proofs.Examples.{legal-centre}
use Rattle.cp_hood.proofs.Following.{legal-same}
use Rattle.cp_hood.proofs.tests.eliminate.Goals as goal

found : (cell : CellView) (o : Option HeldEntry) (e : HeldEntry) → o ≡ Some e → IfSome o (λ f. IsLegalFor cell (entry_of f)) → IsLegalFor cell (entry_of e)
found cell o e is legal = subst (λ (z : Option HeldEntry). IfSome z (λ f. IsLegalFor cell (entry_of f))) is legal

pub prepare-requires : goal.prepare-requires
prepare-requires c =
    let rules = c.args.yard.now.base.rules in let cell = c.centre.result.now in
    record {
      legal = (
        rules,
        legal-centre rules cell c.args.hood.now (entry_of c.in-Some.entry) c.requires.rules c.centre.ensures.variable c.centre.ensures.clauses
            (found cell c.in_ok-entry.field-0 c.in-Some.entry c.in-Some.is c.in_ok-entry.ensures),
      );
    }

pub returns-in_err-prepared-clause-holds : goal.returns-in_err-prepared-clause-holds
returns-in_err-prepared-clause-holds c = c.prepare.ensures.holds c.args.seat.now.view c.requires.holds

pub commit-answer-requires-clause-holds : goal.commit-answer-requires-clause-holds
commit-answer-requires-clause-holds c = c.prepare.ensures.holds c.args.seat.now.view c.requires.holds

pub commit-answer-requires-clause-legal : goal.commit-answer-requires-clause-legal
commit-answer-requires-clause-legal c =
    let rules = c.args.yard.now.base.rules in let e = entry_of c.in-Some.entry in let cell = c.centre.result.now in
    legal-same rules c.args.hood.now c.prepare.new.self e c.prepare.ensures.same
    (legal-centre rules cell c.args.hood.now e c.requires.rules c.centre.ensures.variable c.centre.ensures.clauses
    (found cell c.in_ok-entry.field-0 c.in-Some.entry c.in-Some.is c.in_ok-entry.ensures))
