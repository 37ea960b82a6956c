use Rattle.std.proofs.Common.{◌≡◌, ◌∷◌, rules, sym, ap, ◌∙◌, subst}
use Rattle.std.specs.List.{All}
use Rattle.std.specs.Vec.Iter.{into_iter_items}
use Rattle.std.proofs.lemmas.List.Elements.{All-head, All-tail}
use Rattle.cp_phase.specs.Teams.{joined_all}
use Rattle.cp_phase.proofs.Joins.{IsOut, all_out}
use Rattle.cp_phase.proofs.team.join_seats.Goals as goal

pub loop-other-init : goal.loop-other-init
loop-other-init c = let rest : into_iter_items c.into_iter-other-iterator.result ≡ c.args.seats.items = search rules in
    record { table = search rules; joined = ap (joined_all c.args.seat.now.view) rest; out = subst (All (IsOut c.args.yard.now)) (sym rest) (all_out c.args.yard.now c.args.seats.items c.requires.seats) }

pub loop-other-preserved : goal.loop-other-preserved
loop-other-preserved c = let i = c.loop-other.invariant in let rest = into_iter_items c.next.new.self in
    let items : into_iter_items c.loop-other.other-iterator ≡ c.in-Some.other ∷ rest = search c.in-Some.ensures.steps in record {
      table = c.join.ensures.table ∙ i.table;
      joined = ap (λ v. joined_all v rest) c.join.ensures.seat ∙ (ap (joined_all c.loop-other.seat.view) (sym items) ∙ i.joined);
      out = All-tail (IsOut c.args.yard.now) c.in-Some.other rest (subst (All (IsOut c.args.yard.now)) items i.out);
    }

pub join-requires-clause-nothing : goal.join-requires-clause-nothing
join-requires-clause-nothing c =
    let items : into_iter_items c.loop-other.other-iterator ≡ c.in-Some.other ∷ into_iter_items c.next.new.self = search c.in-Some.ensures.steps in
    let idle = (All-head (IsOut c.args.yard.now) c.in-Some.other (into_iter_items c.next.new.self) (subst (All (IsOut c.args.yard.now)) items c.loop-other.invariant.out)).idle in (idle.held, idle.turn)
