use Rattle.std.proofs.Common.{◌≡◌, ◌≢◌, ◌+◌, ◌++◌, [], ◌∷◌, length, MatchBool, Bool, ◌||◌, sym, ap, ◌∙◌, subst, arith, append_assoc, length-append}
use Rattle.std.specs.List.{All}
use Rattle.std.specs.Vec.Iter.{into_iter_items}
use Rattle.std.proofs.lemmas.List.Elements.{All-tail}
use Rattle.cp_phase.specs.declared.team.Member.{Member}
use Rattle.cp_phase.specs.Rounds.{NoneStopped, OneStopped}
use Rattle.cp_phase.specs.Teams.{claims_joined}
use Rattle.cp_phase.proofs.Joins.{seat_more, shift_more, stopped_more}
use Rattle.cp_phase.proofs.round.gather.Goals as goal

pub loop-member-preserved : goal.loop-member-preserved
loop-member-preserved c = let i = c.loop-member.invariant in let m = c.in-Some.member in let s = c.in-Some-shift.shift in let ss = i.shifts.0 in let rest = into_iter_items c.next.new.self in
    let items : into_iter_items c.loop-member.member-iterator ≡ m ∷ rest = search c.in-Some.ensures.steps in
    let long : length (into_iter_items c.loop-member.member-iterator) ≡ length (m ∷ rest) = ap length items in
    let P : Member → Type 0 = λ m. (m.claim.counter ≡ c.args.claims.now) × (m.claim.view.mine.number ≢ 0) in
    let seats : c.push_reserved.new.self.items ≡ c.loop-member.seats.items ++ m.seat ∷ [] = c.push_reserved.ensures.items in
    let grown : length c.push_reserved.new.self.items ≡ length c.loop-member.seats.items + 1 = ap length seats ∙ length-append c.loop-member.seats.items (m.seat ∷ []) in record {
      counter = c.join.ensures.counter ∙ i.counter;
      claim = ap (λ v. claims_joined v rest) c.join.ensures.seat ∙ (ap (claims_joined c.loop-member.claim.view) (sym items) ∙ i.claim);
      counters = All-tail P m rest (subst (All P) items i.counters);
      seats = seat_more c.loop-member.seats.items c.push_reserved.new.self.items m rest _ _ seats items i.seats;
      seats_room = (let r = i.seats_room in let cap = c.push_reserved.ensures.capacity in omega arith);
      shifts = (
        ss ++ s ∷ [],
        c.push_reserved-in-loop-member.ensures.items ∙ (ap (λ l. l ++ s ∷ []) i.shifts.1 ∙ append_assoc c.args.shifts.now.items ss (s ∷ [])),
        shift_more ss s m rest _ _ c.in-Some-shift.is items i.shifts.2,
        subst (λ (b : Bool). MatchBool (c.loop-member.stopped || b) (OneStopped (ss ++ s ∷ [])) (NoneStopped (ss ++ s ∷ []))) (sym c.is_some-stopped.ensures) (stopped_more c.loop-member.stopped ss s i.shifts.3),
      );
      shifts_room = (let r = i.shifts_room in let sp = c.push_reserved-in-loop-member.ensures.spare in omega arith);
    }
