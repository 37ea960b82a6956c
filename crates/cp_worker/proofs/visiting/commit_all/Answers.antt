use Rattle.std.proofs.Common.{◌≡◌, ◌∙◌, ◌++◌, List, Some, None, refl, sym, ap, subst}
use Rattle.std.specs.Option.{option_map}
use Rattle.std.proofs.lemmas.Result.{IfOk-weaker}
use Rattle.cp_logic.specs.declared.named.Named.{Named}
use Rattle.cp_logic.specs.Entries.{numbered}
use Rattle.cp_logic.specs.Legality.{first_in}
use Rattle.cp_logic.specs.Locality.{after}
use Rattle.cp_logic.specs.Views.{entry_of}
use Rattle.cp_yard.specs.Views.{Base}
use Rattle.cp_find.specs.Past.{IsPast}
use Rattle.cp_hood.specs.Hoods.{centre_clauses}
use Rattle.cp_hood.specs.Commits.{left_by}
use Rattle.cp_worker.specs.Visits.{AreCommits, commits_of}
use Rattle.cp_worker.specs.Posting.{IsRefusal, IsCauseOf}
use Rattle.cp_worker.proofs.Centres.{found-at, legal-found, centre-after, centre-smaller}
use Rattle.cp_worker.proofs.Commits.{begins, goes_on, settles, refuses, refused-goes}
use Rattle.cp_worker.proofs.visiting.commit_all.Goals as goal

pub commits-init : goal.commits-init
commits-init c = record {
  table = refl;
  holds = c.requires.holds;
  centre = refl;
  going = begins c.args.seat.now.view c.args.hood.now.centre c.args.round (centre_clauses c.args.hood.now) c.new-commits.result.items c.new-commits.ensures;
  past = c.restart.ensures c.args.hood.now.centre (centre_clauses c.args.hood.now);
}

pub search-requires-clause-past : goal.search-requires-clause-past
search-requires-clause-past c =
    subst (λ x. IsPast x c.centre.result.now.clauses c.commits.reached) (sym c.centre.ensures.variable)
    (subst (λ (cs : List Named). IsPast c.commits.hood.centre cs c.commits.reached) (sym c.centre.ensures.clauses) c.commits.invariant.past)

pub commit_listed-requires-clause-legal : goal.commit_listed-requires-clause-legal
commit_listed-requires-clause-legal c =
    legal-found c.args.yard.now.base.rules c.commits.hood (entry_of c.in-Some.entry)
    (found-at c.commits.hood c.centre.result.now c.args.rules.now c.args.yard.now.base.rules c.in_ok-entry.field-0 c.centre.ensures.variable c.centre.ensures.clauses c.requires.rules c.in_ok-entry.ensures.found
    ∙ ap (option_map entry_of) c.in-Some.is)

pub commits-preserved : goal.commits-preserved
commits-preserved c =
    let i = c.commits.invariant in let k = c.in_default-commit_listed.ensures.post in
    record {
      table = c.in_default-commit_listed.ensures.table ∙ i.table;
      holds = c.in_default-commit_listed.ensures.holds;
      centre = k.3.hood.centre ∙ i.centre;
      going = goes_on c.args.seat.now.view c.commits.seat.view c.commit_listed.new.seat.view c.args.hood.now.centre c.args.round (centre_clauses c.args.hood.now) c.args.yard.now.base.rules
          c.commits.hood c.commit_listed.new.hood (entry_of c.in-Some.entry) c.commits.commits.items c.commit_listed.new.commits.items k.0 k.1 i.centre
          (sym (ap (λ (f : Base). f.rules) c.requires.base))
          (found-at c.commits.hood c.centre.result.now c.args.rules.now c.args.yard.now.base.rules c.in_ok-entry.field-0 c.centre.ensures.variable c.centre.ensures.clauses c.requires.rules c.in_ok-entry.ensures.found
          ∙ ap (option_map entry_of) c.in-Some.is)
          i.going k.2 k.3;
      past =
          let e = entry_of c.in-Some.entry in let n = (left_by c.commits.seat.view.base k.3.before).next in
          let found = found-at c.commits.hood c.centre.result.now c.args.rules.now c.args.yard.now.base.rules c.in_ok-entry.field-0 c.centre.ensures.variable c.centre.ensures.clauses c.requires.rules c.in_ok-entry.ensures.found
          ∙ ap (option_map entry_of) c.in-Some.is in
          let x : c.var.result ≡ c.commits.hood.centre = c.var.ensures.value ∙ c.centre-in-Some.ensures.variable in
          let before = subst (λ (cs : List Named). IsPast c.commits.hood.centre cs c.search.new.reached) c.centre.ensures.clauses
          (subst (λ z. IsPast z c.centre.result.now.clauses c.search.new.reached) c.centre.ensures.variable c.in_ok-entry.ensures.past) in
          let follows = subst (λ z. IsPast z (centre_clauses c.commits.hood) c.search.new.reached → IsPast z (after (centre_clauses c.commits.hood) z (numbered n e)) c.follow.new.self) x
          (c.follow.ensures (centre_clauses c.commits.hood) n) before in
          subst (λ z. IsPast z (centre_clauses c.commit_listed.new.hood) c.follow.new.self) (sym k.3.hood.centre)
          (subst (λ (cs : List Named). IsPast c.commits.hood.centre cs c.follow.new.self)
          (sym (centre-after c.args.yard.now.base.rules n e c.commits.hood c.commit_listed.new.hood found k.3.hood)) follows);
    }

pub commits-smaller : goal.commits-smaller
commits-smaller c =
    let k = c.in_default-commit_listed.ensures.post in
    centre-smaller c.args.yard.now.base.rules (left_by c.commits.seat.view.base k.3.before).next (entry_of c.in-Some.entry) c.commits.hood c.commit_listed.new.hood
    (found-at c.commits.hood c.centre.result.now c.args.rules.now c.args.yard.now.base.rules c.in_ok-entry.field-0 c.centre.ensures.variable c.centre.ensures.clauses c.requires.rules c.in_ok-entry.ensures.found
    ∙ ap (option_map entry_of) c.in-Some.is)
    k.3.hood

pub settle-requires : goal.settle-requires
settle-requires c = (
  1,
  found-at c.commits.hood c.centre.result.now c.args.rules.now c.args.rules.now c.in_ok-entry.field-0 c.centre.ensures.variable c.centre.ensures.clauses refl c.in_ok-entry.ensures.found
      ∙ ap (option_map entry_of) c.in_default.is,
)

pub returns-in-Err-clause-visit : goal.returns-in-Err-clause-visit
returns-in-Err-clause-visit c =
    let i = c.commits.invariant in let k = c.in-Err.ensures.post in let e = entry_of c.in-Some.entry in
    let v = c.args.seat.now.view in let x = c.args.hood.now.centre in let cs = centre_clauses c.args.hood.now in
    let found : first_in (centre_clauses c.commits.hood) v.base.rules 1 x ≡ Some e = ap (λ z. first_in (centre_clauses c.commits.hood) v.base.rules 1 z) (sym i.centre)
    ∙ found-at c.commits.hood c.centre.result.now c.args.rules.now v.base.rules c.in_ok-entry.field-0 c.centre.ensures.variable c.centre.ensures.clauses
    (c.requires.rules ∙ sym (ap (λ (f : Base). f.rules) c.requires.base)) c.in_ok-entry.ensures.found
    ∙ ap (option_map entry_of) c.in-Some.is in
    let refused = subst (λ z. IsRefusal c.commits.seat.view.base z (centre_clauses c.commits.hood) e k.0 c.in-Err.answer) i.centre k.4.1 in (
      i.going.noted ++ k.0,
      i.going.posted,
      refused-goes v c.commits.seat.view c.commit_listed.new.seat.view x c.args.round cs (centre_clauses c.commits.hood) c.commits.commits.items k.0 k.1 i.going k.2 k.4.0,
      IfOk-weaker c.refused.result (λ a. (commits_of a ≡ c.commit_listed.new.commits.items) × IsCauseOf c.in-Err.answer a)
          (AreCommits v.base v.number x c.args.round cs (i.going.noted ++ k.0) i.going.posted)
          (λ a h. refuses v c.commits.seat.view x c.args.round cs (centre_clauses c.commits.hood) c.commits.commits.items k.0 i.going e c.in-Err.answer a found refused (h.0 ∙ c.in-Err.ensures.same) h.1)
          c.refused.ensures,
    )

pub returns-clause-visit : goal.returns-clause-visit
returns-clause-visit c =
    let i = c.commits.invariant in let v = c.args.seat.now.view in
    let none : first_in (centre_clauses c.commits.hood) v.base.rules 1 c.commits.hood.centre ≡ None =
    found-at c.commits.hood c.centre.result.now c.args.rules.now v.base.rules c.in_ok-entry.field-0 c.centre.ensures.variable c.centre.ensures.clauses
    (c.requires.rules ∙ sym (ap (λ (f : Base). f.rules) c.requires.base)) c.in_ok-entry.ensures.found ∙ ap (option_map entry_of) c.in_default.is in (
      i.going.noted,
      i.going.posted,
      i.going.goes,
      settles v c.commits.seat.view c.args.hood.now.centre c.args.round (centre_clauses c.args.hood.now) (centre_clauses c.commits.hood) c.commits.commits i.going
          (ap (λ z. first_in (centre_clauses c.commits.hood) v.base.rules 1 z) (sym i.centre) ∙ none),
    )
