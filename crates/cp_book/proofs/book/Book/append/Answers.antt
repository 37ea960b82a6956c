use Rattle.std.proofs.Common.{◌≡◌, ◌+◌, ◌≤◌, Some, length, sym, ◌∙◌, ap, subst}
use Rattle.cp_logic.specs.Formulas.{clauses_of}
use Rattle.cp_logic.specs.Pairs.{pairs_of}
use Rattle.cp_logic.specs.Rules.{state_after}
use Rattle.cp_logic.specs.Entries.{expand, new_clauses, numbered}
use Rattle.cp_logic.specs.Journals.{number_limit}
use Rattle.cp_logic.specs.Views.{entry_of}
use Rattle.cp_book.specs.Changes.{state_of}
use Rattle.cp_book.specs.Empties.{empty_numbers}
use Rattle.cp_book.specs.declared.book.Parts.{Parts}
use Rattle.cp_book.specs.Kept.{IsReady}
use Rattle.cp_book.specs.Parts.{view_of, HasLedger, HasRoom}
use Rattle.cp_book.specs.Views.{BookView}
use Rattle.cp_book.proofs.Commits.{count-numbered, new-numbered}
use Rattle.cp_book.proofs.Ledger.{IsTested, tested-numbers, ledger-variables, tested-run, tested-listed, IsLedger-push}
use Rattle.cp_book.proofs.book.Book.append.Goals as goal

pub apply-requires-clause-variables : goal.apply-requires-clause-variables
apply-requires-clause-variables c =
    let i : Parts = c.deref_mut-parts.result.now in
    let b : BookView = view_of i in
    let tested : IsTested c.args.self.now (entry_of c.args.entry) = record { commit = c.requires.commit; open_still = c.requires.open_still; unspent = c.requires.unspent; room = c.requires.numbers; allowed = c.requires.legal } in
    ledger-variables b i.formula.formula (pairs_of i.stack.pairs) i.stack.vars i.commits i.empties.items (entry_of c.args.entry) (subst HasLedger (sym c.deref_mut-parts.ensures.value) c.self.invariant.0)
    (subst (λ (v : BookView). IsTested v (entry_of c.args.entry)) (sym (ap view_of c.deref_mut-parts.ensures.value ∙ c.self.view_is)) tested)

pub apply-requires-clause-run : goal.apply-requires-clause-run
apply-requires-clause-run c =
    let i : Parts = c.deref_mut-parts.result.now in
    let b : BookView = view_of i in
    let tested : IsTested c.args.self.now (entry_of c.args.entry) = record { commit = c.requires.commit; open_still = c.requires.open_still; unspent = c.requires.unspent; room = c.requires.numbers; allowed = c.requires.legal } in
    rw (c.numbered-entry.ensures, c.next.ensures)
    (tested-run b i.formula.formula (pairs_of i.stack.pairs) i.stack.vars i.commits i.empties.items (entry_of c.args.entry) (subst HasLedger (sym c.deref_mut-parts.ensures.value) c.self.invariant.0)
    (subst (λ (v : BookView). IsTested v (entry_of c.args.entry)) (sym (ap view_of c.deref_mut-parts.ensures.value ∙ c.self.view_is)) tested))

pub apply-requires-clause-numbers : goal.apply-requires-clause-numbers
apply-requires-clause-numbers c =
    let i : Parts = c.deref_mut-parts.result.now in
    let b : BookView = view_of i in
    let tested : IsTested c.args.self.now (entry_of c.args.entry) = record { commit = c.requires.commit; open_still = c.requires.open_still; unspent = c.requires.unspent; room = c.requires.numbers; allowed = c.requires.legal } in
    let low : i.formula.formula.next + length (new_clauses (entry_of c.args.entry)) ≤ number_limit =
    tested-numbers b i.formula.formula (pairs_of i.stack.pairs) i.stack.vars i.commits i.empties.items (entry_of c.args.entry) (subst HasLedger (sym c.deref_mut-parts.ensures.value) c.self.invariant.0)
    (subst (λ (v : BookView). IsTested v (entry_of c.args.entry)) (sym (ap view_of c.deref_mut-parts.ensures.value ∙ c.self.view_is)) tested) in
    let same : length (new_clauses (entry_of c.numbered-entry.result)) ≡ length (new_clauses (entry_of c.args.entry)) =
    ap (λ z. length (new_clauses z)) c.numbered-entry.ensures ∙ count-numbered c.next.result (entry_of c.args.entry) in
    subst (λ n. i.formula.formula.next + n ≤ number_limit) (sym same) low

pub apply-requires-clause-seconds : goal.apply-requires-clause-seconds
apply-requires-clause-seconds c =
    let i : Parts = c.deref_mut-parts.result.now in
    let ready : IsReady (Some (entry_of c.args.entry)) i.journal.spare i.formula.spare i.empties.spare i.stack.pairs.spare i.seconds.items =
    subst (λ o. IsReady o i.journal.spare i.formula.spare i.empties.spare i.stack.pairs.spare i.seconds.items) (ap (λ (v : BookView). v.prepared) (ap view_of c.deref_mut-parts.ensures.value ∙ c.self.view_is) ∙ c.requires.prepared) (subst HasRoom (sym c.deref_mut-parts.ensures.value) c.self.invariant.1) in
    ap (λ v. v.items) c.replace-seconds.ensures.value ∙ ready.4
    ∙ sym (ap (λ z. clauses_of (new_clauses z)) c.numbered-entry.ensures ∙ new-numbered c.next.result (entry_of c.args.entry))

pub apply-requires-clause-clauses : goal.apply-requires-clause-clauses
apply-requires-clause-clauses c =
    let i : Parts = c.deref_mut-parts.result.now in
    let ready : IsReady (Some (entry_of c.args.entry)) i.journal.spare i.formula.spare i.empties.spare i.stack.pairs.spare i.seconds.items =
    subst (λ o. IsReady o i.journal.spare i.formula.spare i.empties.spare i.stack.pairs.spare i.seconds.items) (ap (λ (v : BookView). v.prepared) (ap view_of c.deref_mut-parts.ensures.value ∙ c.self.view_is) ∙ c.requires.prepared) (subst HasRoom (sym c.deref_mut-parts.ensures.value) c.self.invariant.1) in
    subst (λ n. n ≤ i.formula.spare) (sym (ap (λ z. length (new_clauses z)) c.numbered-entry.ensures ∙ count-numbered c.next.result (entry_of c.args.entry))) ready.1

pub push_empties-requires : goal.push_empties-requires
push_empties-requires c =
    let i : Parts = c.deref_mut-parts.result.now in
    let ready : IsReady (Some (entry_of c.args.entry)) i.journal.spare i.formula.spare i.empties.spare i.stack.pairs.spare i.seconds.items =
    subst (λ o. IsReady o i.journal.spare i.formula.spare i.empties.spare i.stack.pairs.spare i.seconds.items) (ap (λ (v : BookView). v.prepared) (ap view_of c.deref_mut-parts.ensures.value ∙ c.self.view_is) ∙ c.requires.prepared) (subst HasRoom (sym c.deref_mut-parts.ensures.value) c.self.invariant.1) in
    subst (λ n. n ≤ i.empties.spare) (sym (ap (λ z. length (new_clauses z)) c.numbered-entry.ensures ∙ count-numbered c.next.result (entry_of c.args.entry))) ready.2

pub invariant_of-self : goal.invariant_of-self
invariant_of-self c =
    let i : Parts = c.deref_mut-parts.result.now in
    let b : BookView = view_of i in
    let tested : IsTested c.args.self.now (entry_of c.args.entry) = record { commit = c.requires.commit; open_still = c.requires.open_still; unspent = c.requires.unspent; room = c.requires.numbers; allowed = c.requires.legal } in
    let listed =
    tested-listed b i.formula.formula (pairs_of i.stack.pairs) i.stack.vars i.commits i.empties.items (entry_of c.args.entry) (subst HasLedger (sym c.deref_mut-parts.ensures.value) c.self.invariant.0)
    (subst (λ (v : BookView). IsTested v (entry_of c.args.entry)) (sym (ap view_of c.deref_mut-parts.ensures.value ∙ c.self.view_is)) tested)
    c.push_empties.new.numbers.items (empty_numbers (new_clauses (entry_of c.numbered-entry.result))) c.push_empties.ensures in
    let after =
    c.apply.ensures.state
    ∙ ap (λ z. state_after (state_of i.formula.formula i.stack.pairs) (expand z)) (c.numbered-entry.ensures ∙ ap (λ n. numbered n (entry_of c.args.entry)) c.next.ensures) in (
      rw (c.push_reserved-position.ensures.items, c.apply.ensures.variables, listed, c.numbered-entry.ensures, c.next.ensures)
          (IsLedger-push b i.formula.formula (pairs_of i.stack.pairs) i.stack.vars i.commits i.empties.items (entry_of c.args.entry) (subst HasLedger (sym c.deref_mut-parts.ensures.value) c.self.invariant.0)
          (subst (λ (v : BookView). IsTested v (entry_of c.args.entry)) (sym (ap view_of c.deref_mut-parts.ensures.value ∙ c.self.view_is)) tested) c.args.worker c.args.round (state_of c.apply.new.formula.formula c.apply.new.stack.pairs) after),
      tt,
    )
