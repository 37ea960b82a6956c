use Rattle.std.proofs.Common.{◌≡◌, Option, Some, None, sym, ◌∙◌, ap}
use Rattle.std.specs.Option.{option_map, option_or}
use Rattle.std.proofs.lemmas.Result.{IfOk-weaker}
use Rattle.cp_logic.specs.declared.entries.Entry.{Entry as HeldEntry}
use Rattle.cp_logic.specs.Entries.{Entry}
use Rattle.cp_logic.specs.Legality.{first_in, blocks, first_of_kind}
use Rattle.cp_logic.specs.Views.{entry_of}
use Rattle.cp_find.specs.Chosen.{where_chosen}
use Rattle.cp_eliminate.specs.Eliminating.{elimination_within}
use Rattle.cp_eliminate.proofs.Searching.{is-taut, is-of-two, after-two}
use Rattle.cp_eliminate.proofs.kinds.search.Goals as goal

-- what a kind gave, as what it is
found : (o : Option HeldEntry) (e : HeldEntry) (q : Option Entry) → o ≡ Some e → option_map entry_of o ≡ q → Some (entry_of e) ≡ q
found o e q s h = sym (ap (option_map entry_of) s) ∙ h

nothing : (o : Option HeldEntry) (q : Option Entry) → o ≡ None → option_map entry_of o ≡ q → None ≡ q
nothing o q s h = sym (ap (option_map entry_of) s) ∙ h

pub returns-in-Some-clause-found : goal.returns-in-Some-clause-found
returns-in-Some-clause-found c = is-taut c.args.cell.now.clauses c.args.rules.now c.args.next c.args.cell.now.variable (entry_of c.in-Some.entry)
    (found c.in_ok-entry.field-0 c.in-Some.entry _ c.in-Some.is c.in_ok-entry.ensures.found)

pub returns-in-Some-2-clause-found : goal.returns-in-Some-2-clause-found
returns-in-Some-2-clause-found c = is-of-two c.args.cell.now.clauses c.args.rules.now c.args.next c.args.cell.now.variable (entry_of c.in-Some-2.entry)
    (nothing c.in_ok-entry.field-0 _ c.in_default.is c.in_ok-entry.ensures.found)
    (found c.in_ok-entry-2.field-0 c.in-Some-2.entry _ c.in-Some-2.is c.in_ok-entry-2.ensures.found)

pub returns-clause-found : goal.returns-clause-found
returns-clause-found c =
    let x = c.args.cell.now.variable in let cs = c.args.cell.now.clauses in
    IfOk-weaker c.chosen_of_sides.result (λ found. option_map entry_of found ≡ option_or
    (where_chosen c.args.rules.now.choice.b (first_of_kind x cs (blocks cs))) (where_chosen c.args.rules.now.choice.e (elimination_within cs c.args.rules.now.bound c.args.next x)))
    (λ found. option_map entry_of found ≡ first_in cs c.args.rules.now c.args.next x)
    (λ found h. h ∙ sym (after-two cs c.args.rules.now c.args.next x
    (nothing c.in_ok-entry.field-0 _ c.in_default.is c.in_ok-entry.ensures.found)
    (nothing c.in_ok-entry-2.field-0 _ c.in_default-2.is c.in_ok-entry-2.ensures.found)))
    c.chosen_of_sides.ensures
