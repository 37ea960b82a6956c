use Rattle.std.proofs.Common.{◌≡◌, ◌∙◌, sym, ap, subst, Some, None}
use Rattle.std.specs.Option.{option_map}
use Rattle.std.specs.List.{find}
use Rattle.cp_logic.specs.declared.named.Named.{Named}
use Rattle.cp_logic.specs.Entries.{Subsume}
use Rattle.cp_occ.specs.Cells.{from_number}
use Rattle.cp_occ.proofs.Having.{cell-have}
use Rattle.cp_find.specs.Finds.{subsumes}
use Rattle.cp_find.specs.Lookups.{WantedView}
use Rattle.cp_find.specs.Past.{ArePassed, first_other}
use Rattle.cp_find.proofs.Firsts.{first-subsumed, subsumption_by}
use Rattle.cp_find.proofs.Past.{pairs-none, pairs-left, pairs-gone, pairs-found, subsumptions-tie}
use Rattle.cp_find.proofs.Scans.{first_some, some-here}
use Rattle.cp_find.proofs.subsumption.next_subsumed.Goals as goal

pub returns-in_default-clause-found : goal.returns-in_default-clause-found
returns-in_default-clause-found c =
    let cell = c.args.cell.now in
    sym (first-subsumed cell.variable cell.clauses (cell-have cell c.var-var.ensures.valid)
    ∙ pairs-none subsumes subsumption_by subsumptions-tie cell.clauses (subst (ArePassed subsumes cell.clauses) c.in_default.is c.requires.subsumptions))

pub loop-by-init : goal.loop-by-init
loop-by-init c =
    let cs = c.args.cell.now.clauses in
    record {
      left = ap (first_some (λ (b : Named). subsumption_by (from_number (first_other c.in-Some.end b.number) cs) b)) (c.into_iter-by-iterator.ensures.into_iter_gives ∙ c.occurrences_from-by-items.ensures)
          ∙ pairs-left subsumes subsumption_by subsumptions-tie cs c.in-Some.end (subst (ArePassed subsumes cs) c.in-Some.is c.requires.subsumptions);
      past = record { tautologies = c.requires.tautologies; subsumptions = c.requires.subsumptions; strengthenings = c.requires.strengthenings; covers = c.make_ready.ensures };
    }

pub returns-in-Some-first : goal.returns-in-Some-first
returns-in-Some-first c =
    let cell = c.args.cell.now in let cs = cell.clauses in let end = c.in-Some.end in
    let by : Named = c.in-Some-by.by.now in let gone : Named = c.in-Some-first.gone.now in
    let met : Some gone ≡ find (subsumes by) (from_number (first_other end by.number) cs) =
    ap (option_map (λ o. o.now)) (sym c.in-Some-first.is) ∙ c.first.ensures
    ∙ ap (λ (w : WantedView). find (subsumes w.sought) (from_number c.first_other-from.result cs)) c.subsumed-wanted.ensures
    ∙ ap (λ n. find (subsumes by) (from_number n cs)) (c.first_other-from.ensures ∙ ap (first_other end) c.number.ensures) in
    let answer : first_some (subsumption_by cs) cs ≡ Some (Subsume by gone) =
    sym c.loop-by.invariant.left
    ∙ some-here (λ (b : Named). subsumption_by (from_number (first_other end b.number) cs) b) c.loop-by.by-iterator by c.next.new.self (Subsume by gone) c.in-Some-by.ensures.steps
    (sym (ap (option_map (Subsume by)) met)) in
    let p = c.loop-by.invariant.past in
    record {
      found = ap (λ (n : Named). Some (Subsume n c.in_ok-gone.gone)) c.in_ok-by.ensures
          ∙ ap (λ (n : Named). Some (Subsume by n)) c.in_ok-gone.ensures
          ∙ sym (first-subsumed cell.variable cs (cell-have cell c.var-var.ensures.valid) ∙ answer);
      past = record {
        tautologies = p.tautologies;
        subsumptions = rw (c.in_ok-by.ensures, c.in_ok-gone.ensures) (pairs-found subsumes subsumption_by subsumptions-tie cs (Subsume by gone) c.var-var.ensures.valid.rising answer);
        strengthenings = p.strengthenings;
        covers = p.covers;
      };
    }

pub returns : goal.returns
returns c =
    let cell = c.args.cell.now in let cs = cell.clauses in
    let none : first_some (subsumption_by cs) cs ≡ None =
    sym c.loop-by.invariant.left ∙ ap (first_some (λ (b : Named). subsumption_by (from_number (first_other c.in-Some.end b.number) cs) b)) c.in-None.ensures.steps.0 in
    let p = c.loop-by.invariant.past in
    record {
      found = sym (first-subsumed cell.variable cs (cell-have cell c.var-var.ensures.valid) ∙ none);
      past = record {
        tautologies = p.tautologies;
        subsumptions = pairs-gone subsumes subsumption_by subsumptions-tie cs none;
        strengthenings = p.strengthenings;
        covers = p.covers;
      };
    }
