use Rattle.std.proofs.Common.{◌≡◌, ◌-◌, ◌<◌, ◌≤◌, ◌∙◌, sym, ap, subst, List, length, get_or, Some}
use Rattle.std.specs.Prelude.{◌≢◌}
use Rattle.std.specs.List.{All, filter, remove}
use Rattle.cp_logic.specs.Clauses.{is_tautology}
use Rattle.cp_occ.proofs.Sided.{counted-less}
use Rattle.std.specs.Option.{option_map}
use Rattle.cp_logic.specs.declared.named.Named.{Named}
use Rattle.cp_occ.proofs.Numbered.{find-at, find-absent, without-at, without-absent, IsListed-without}
use Rattle.cp_occ.proofs.cell.Cell.remove.Goals as goal

module _ (c : goal.After-from_residual) where
  absent : All (λ (n : Named). n.number ≢ c.args.number) c.self.inside.occurrences.items
  absent = subst (All (λ (n : Named). n.number ≢ c.args.number)) c.as_slice.ensures.value c.in_err-at.ensures.none

pub returns-in_err-at-clause-value : goal.returns-in_err-at-clause-value
returns-in_err-at-clause-value c =
    rw (c.from_residual.ensures, ← c.self.view_is)
    (sym (ap (option_map (λ (n : Named). n.clause)) (find-absent c.self.inside.occurrences.items c.args.number (absent c))))

pub returns-in_err-at-clause-clauses : goal.returns-in_err-at-clause-clauses
returns-in_err-at-clause-clauses c = rw (← c.self.view_is) (sym (without-absent c.self.inside.occurrences.items c.args.number (absent c)))

module _ (c : goal.After-into_place) where
  found : (c.in_ok-at.at < length c.self.inside.occurrences.items) × ((d : Named) → (get_or c.self.inside.occurrences.items c.in_ok-at.at d).number ≡ c.args.number)
  found = subst (λ (cs : List Named). (c.in_ok-at.at < length cs) × ((d : Named) → (get_or cs c.in_ok-at.at d).number ≡ c.args.number)) c.as_slice.ensures.value c.in_ok-at.ensures.some

  less : (c.one_if.result ≤ c.self.inside.tautologies)
      × (c.self.inside.tautologies - c.one_if.result ≡ length (filter (λ (n : Named). is_tautology n.clause) (remove c.self.inside.occurrences.items c.in_ok-at.at)))
  less = counted-less (λ (n : Named). is_tautology n.clause) c.self.inside.occurrences.items c.in_ok-at.at c.self.inside.tautologies c.one_if.result c.is_tautology.result c.remove-gone.result
      found.0 c.remove-gone.ensures.value c.self.invariant.2 c.is_tautology.ensures c.one_if.ensures

pub overflow_sub-self : goal.overflow_sub-self
overflow_sub-self c =
    let found : (c.in_ok-at.at < length c.self.inside.occurrences.items) × ((d : Named) → (get_or c.self.inside.occurrences.items c.in_ok-at.at d).number ≡ c.args.number) =
    subst (λ (cs : List Named). (c.in_ok-at.at < length cs) × ((d : Named) → (get_or cs c.in_ok-at.at d).number ≡ c.args.number)) c.as_slice.ensures.value c.in_ok-at.ensures.some in
    (counted-less (λ (n : Named). is_tautology n.clause) c.self.inside.occurrences.items c.in_ok-at.at c.self.inside.tautologies c.one_if.result c.is_tautology.result c.remove-gone.result
    found.0 c.remove-gone.ensures.value c.self.invariant.2 c.is_tautology.ensures c.one_if.ensures).0

pub invariant_of-self : goal.invariant_of-self
invariant_of-self c =
    rw (c.remove-gone.ensures.items, without-at c.self.inside.occurrences.items c.in_ok-at.at c.args.number c.remove-gone.result c.self.invariant.0.rising (found c).0 ((found c).1 c.remove-gone.result)) (
      IsListed-without c.self.inside.var c.self.inside.occurrences.items c.args.number c.self.invariant.0,
      tt,
      (less c).1 ∙ ap (λ (cs : List Named). length (filter (λ (n : Named). is_tautology n.clause) cs))
          (without-at c.self.inside.occurrences.items c.in_ok-at.at c.args.number c.remove-gone.result c.self.invariant.0.rising (found c).0 ((found c).1 c.remove-gone.result)),
    )

pub returns-clause-value : goal.returns-clause-value
returns-clause-value c =
    rw (← c.self.view_is, c.into_place.ensures)
    (ap (λ (n : Named). Some n.clause) c.remove-gone.ensures.value
    ∙ sym (ap (option_map (λ (n : Named). n.clause)) (find-at c.self.inside.occurrences.items c.in_ok-at.at c.args.number c.remove-gone.result c.self.invariant.0.rising (found c).0 ((found c).1 c.remove-gone.result))))

pub returns-clause-clauses : goal.returns-clause-clauses
returns-clause-clauses c =
    rw (← c.self.view_is, c.remove-gone.ensures.items)
    (without-at c.self.inside.occurrences.items c.in_ok-at.at c.args.number c.remove-gone.result c.self.invariant.0.rising (found c).0 ((found c).1 c.remove-gone.result))
