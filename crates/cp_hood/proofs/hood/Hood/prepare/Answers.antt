use Rattle.std.proofs.Common.{refl, ◌≡◌, true, get_or, sym, subst}
use Rattle.std.proofs.lemmas.List.Elements.{Contains-get_or}
use Rattle.cp_logic.specs.Entries.{new_clauses}
use Rattle.cp_logic.specs.Views.{entry_of}
use Rattle.cp_logic.specs.Legality.{is_legal_in}
use Rattle.cp_logic.proofs.Members.{in_contains}
use Rattle.cp_hood.specs.Hoods.{HoodView, HoldsJust, centre_clauses}
use Rattle.cp_hood.specs.Commits.{IsSameHood}
use Rattle.cp_hood.proofs.Centred.{new-over}
use Rattle.cp_hood.proofs.Following.{IsPlaced-same, Covers-same, home-same}
use Rattle.cp_hood.proofs.Turns.{HoldsJust-same}
use Rattle.cp_hood.proofs.hood.Hood.prepare.Goals as goal

pub prepare-requires-clause-ascending : goal.prepare-requires-clause-ascending
prepare-requires-clause-ascending c = c.self.invariant.2

pub prepare-requires-clause-within : goal.prepare-requires-clause-within
prepare-requires-clause-within c =
    let e = entry_of c.args.entry.now in let rules = c.requires.legal.0 in
    let legal = subst (λ (h : HoodView). is_legal_in (centre_clauses h) rules e ≡ true) (sym c.self.view_is) c.requires.legal.1.legal in
    λ j d l k x m.
    let n = get_or (new_clauses e) j d in
    c.self.invariant.3 _ (in_contains _ _ (new-over (centre_clauses (record { centre = c.self.inside.centre; cells = c.self.inside.cells.items })) rules e legal n
    (Contains-get_or (new_clauses e) j d l) (get_or n.clause k x) (Contains-get_or n.clause k x m)))

pub invariant_of-self : goal.invariant_of-self
invariant_of-self c =
    let h = c.self.inside in let i = c.self.invariant in
    IsPlaced-same h.centre h.at h.cells.items c.prepare.new.self.items i c.prepare.ensures.variables
    (Covers-same h.centre h.cells.items c.prepare.new.self.items c.prepare.ensures.variables c.prepare.ensures.lists i.3)

pub returns-clause-same : goal.returns-clause-same
returns-clause-same c =
    let h = c.self.inside in
    subst (λ (o : HoodView). IsSameHood o (record { centre = h.centre; cells = c.prepare.new.self.items })) c.self.view_is
    (record {
      centre = refl;
      clauses = home-same h.centre h.cells.items c.prepare.new.self.items c.prepare.ensures.variables c.prepare.ensures.lists;
      variables = c.prepare.ensures.variables;
      lists = c.prepare.ensures.lists;
    })

pub returns-clause-holds : goal.returns-clause-holds
returns-clause-holds c = λ v k.
    HoldsJust-same v c.self.inside.cells.items c.prepare.new.self.items c.prepare.ensures.variables c.prepare.ensures.lists
    (subst (λ (o : HoodView). HoldsJust v o.cells) (sym c.self.view_is) k)

pub returns-in_err-places-clause-same : goal.returns-in_err-places-clause-same
returns-in_err-places-clause-same c =
    let h = c.self.inside in
    subst (λ (o : HoodView). IsSameHood o (record { centre = h.centre; cells = c.prepare.new.self.items })) c.self.view_is
    (record {
      centre = refl;
      clauses = home-same h.centre h.cells.items c.prepare.new.self.items c.prepare.ensures.variables c.prepare.ensures.lists;
      variables = c.prepare.ensures.variables;
      lists = c.prepare.ensures.lists;
    })

pub returns-in_err-places-clause-holds : goal.returns-in_err-places-clause-holds
returns-in_err-places-clause-holds c = λ v k.
    HoldsJust-same v c.self.inside.cells.items c.prepare.new.self.items c.prepare.ensures.variables c.prepare.ensures.lists
    (subst (λ (o : HoodView). HoldsJust v o.cells) (sym c.self.view_is) k)

pub invariant_of-self-2 : goal.invariant_of-self-2
invariant_of-self-2 c =
    let h = c.self.inside in let i = c.self.invariant in
    IsPlaced-same h.centre h.at h.cells.items c.prepare.new.self.items i c.prepare.ensures.variables
    (Covers-same h.centre h.cells.items c.prepare.new.self.items c.prepare.ensures.variables c.prepare.ensures.lists i.3)
