use Rattle.std.proofs.Common.{◌≡◌, ℕ, ◌∙◌, List, sym, ap, subst, Some, None}
use Rattle.std.specs.Option.{option_map, option_and_then}
use Rattle.std.specs.List.{find}
use Rattle.cp_logic.specs.declared.named.Named.{Named}
use Rattle.cp_logic.specs.Clauses.{without}
use Rattle.cp_logic.specs.Entries.{Strengthen}
use Rattle.cp_logic.specs.Legality.{strengthening}
use Rattle.cp_occ.specs.Cells.{from_number}
use Rattle.cp_find.specs.Finds.{subsumes, struck, strengthens}
use Rattle.cp_find.specs.Lookups.{WantedView}
use Rattle.cp_find.specs.Past.{ArePassed, strengthens_at, first_other}
use Rattle.cp_find.proofs.Firsts.{first-strengthened, strengthening_by}
use Rattle.cp_find.proofs.Past.{pairs-none, pairs-left, pairs-gone, pairs-found, strengthenings-tie}
use Rattle.cp_find.proofs.Scans.{first_some, some-here, none-next}
use Rattle.cp_find.proofs.strengthening.next_strengthened.Goals as goal

pub returns-in_default-clause-found : goal.returns-in_default-clause-found
returns-in_default-clause-found c =
    let x = c.args.cell.now.variable in let cs = c.args.cell.now.clauses in
    sym (first-strengthened x c.args.next cs
    ∙ pairs-none (strengthens_at x) (strengthening_by x c.args.next) (strengthenings-tie x c.args.next) cs (subst (ArePassed (strengthens_at x) cs) c.in_default.is c.requires.past.strengthenings))

pub loop-by-init : goal.loop-by-init
loop-by-init c =
    let x = c.args.cell.now.variable in let cs = c.args.cell.now.clauses in
    record {
      left = ap (first_some (λ (b : Named). strengthening_by x c.args.next (from_number (first_other c.in-Some.end b.number) cs) b)) (c.into_iter-by-iterator.ensures.into_iter_gives ∙ c.occurrences_from-by-items.ensures)
          ∙ pairs-left (strengthens_at x) (strengthening_by x c.args.next) (strengthenings-tie x c.args.next) cs c.in-Some.end (subst (ArePassed (strengthens_at x) cs) c.in-Some.is c.requires.past.strengthenings);
      past = record { tautologies = c.requires.past.tautologies; subsumptions = c.requires.past.subsumptions; strengthenings = c.requires.past.strengthenings; covers = c.make_ready.ensures };
    }

pub loop-by-preserved : goal.loop-by-preserved
loop-by-preserved c =
    let cs = c.args.cell.now.clauses in let next : ℕ = c.args.next in let end = c.in-Some.end in
    let by : Named = c.in-Some-by.by.now in let lit : ℕ = c.in-Some-struck.lit in
    let met : None ≡ find (strengthens lit by) (from_number (first_other end by.number) cs) =
    ap (option_map (λ o. o.now)) (sym c.in_default-first.is) ∙ c.first.ensures
    ∙ ap (λ (w : WantedView). find (subsumes w.sought) (from_number c.first_other-from.result cs)) c.strengthened-wanted.ensures
    ∙ ap (λ n. find (strengthens lit by) (from_number n cs)) (c.first_other-from.ensures ∙ ap (first_other end) c.number.ensures) in
    record {
      left = none-next (λ (b : Named). strengthening_by c.args.cell.now.variable next (from_number (first_other end b.number) cs) b) c.loop-by.by-iterator by c.next.new.self c.in-Some-by.ensures.steps
          (ap (λ y. option_and_then (λ l. option_map (λ o. strengthening next by o l) (find (strengthens l by) (from_number (first_other end by.number) cs))) (struck y by.clause)) (sym c.var-var.ensures.value)
          ∙ ap (option_and_then (λ l. option_map (λ o. strengthening next by o l) (find (strengthens l by) (from_number (first_other end by.number) cs)))) (sym c.in-Some-struck.ensures)
          ∙ ap (option_map (λ o. strengthening next by o lit)) (sym met))
          ∙ c.loop-by.invariant.left;
      past = c.loop-by.invariant.past;
    }

pub returns-in-Some-first : goal.returns-in-Some-first
returns-in-Some-first c =
    let x = c.args.cell.now.variable in let cs = c.args.cell.now.clauses in let next : ℕ = c.args.next in let end = c.in-Some.end in
    let by : Named = c.in-Some-by.by.now in let on : Named = c.in-Some-first.on.now in
    let lit : ℕ = c.in-Some-struck.lit in
    let met : Some on ≡ find (strengthens lit by) (from_number (first_other end by.number) cs) =
    ap (option_map (λ o. o.now)) (sym c.in-Some-first.is) ∙ c.first.ensures
    ∙ ap (λ (w : WantedView). find (subsumes w.sought) (from_number c.first_other-from.result cs)) c.strengthened-wanted.ensures
    ∙ ap (λ n. find (strengthens lit by) (from_number n cs)) (c.first_other-from.ensures ∙ ap (first_other end) c.number.ensures) in
    let answer : first_some (strengthening_by x next cs) cs ≡ Some (strengthening next by on lit) =
    sym c.loop-by.invariant.left
    ∙ some-here (λ (b : Named). strengthening_by x next (from_number (first_other end b.number) cs) b) c.loop-by.by-iterator by c.next.new.self (strengthening next by on lit) c.in-Some-by.ensures.steps
    (ap (λ y. option_and_then (λ l. option_map (λ o. strengthening next by o l) (find (strengthens l by) (from_number (first_other end by.number) cs))) (struck y by.clause)) (sym c.var-var.ensures.value)
    ∙ ap (option_and_then (λ l. option_map (λ o. strengthening next by o l) (find (strengthens l by) (from_number (first_other end by.number) cs)))) (sym c.in-Some-struck.ensures)
    ∙ ap (option_map (λ o. strengthening next by o lit)) (sym met)) in
    let p = c.loop-by.invariant.past in
    record {
      found = ap (λ (n : Named). Some (Strengthen n c.in_ok-on.on lit (record { number = next; clause = c.in_ok-without.field-0 }))) c.in_ok-by.ensures
          ∙ ap (λ (n : Named). Some (Strengthen by n lit (record { number = next; clause = c.in_ok-without.field-0 }))) c.in_ok-on.ensures
          ∙ ap (λ (n : List ℕ). Some (Strengthen by on lit (record { number = next; clause = n }))) (c.in_ok-without.ensures ∙ ap (λ (z : List ℕ). without z lit) c.clause.ensures)
          ∙ sym (first-strengthened x next cs ∙ answer);
      past = record {
        tautologies = p.tautologies;
        subsumptions = p.subsumptions;
        strengthenings = rw (c.in_ok-by.ensures, c.in_ok-on.ensures)
            (pairs-found (strengthens_at x) (strengthening_by x next) (strengthenings-tie x next) cs (strengthening next by on lit) c.var-var.ensures.valid.rising answer);
        covers = p.covers;
      };
    }

pub returns : goal.returns
returns c =
    let x = c.args.cell.now.variable in let cs = c.args.cell.now.clauses in
    let none : first_some (strengthening_by x c.args.next cs) cs ≡ None =
    sym c.loop-by.invariant.left ∙ ap (first_some (λ (b : Named). strengthening_by x c.args.next (from_number (first_other c.in-Some.end b.number) cs) b)) c.in-None.ensures.steps.0 in
    let p = c.loop-by.invariant.past in
    record {
      found = sym (first-strengthened x c.args.next cs ∙ none);
      past = record {
        tautologies = p.tautologies;
        subsumptions = p.subsumptions;
        strengthenings = pairs-gone (strengthens_at x) (strengthening_by x c.args.next) (strengthenings-tie x c.args.next) cs none;
        covers = p.covers;
      };
    }
