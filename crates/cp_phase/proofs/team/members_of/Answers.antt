use Rattle.std.proofs.Common.{◌≡◌, ◌+◌, [], ◌∷◌, length, None, ap, ◌∙◌, arith, length-append}
use Rattle.std.specs.Vec.Iter.{into_iter_items}
use Rattle.cp_claim.specs.Views.{parent}
use Rattle.cp_phase.specs.declared.team.Member.{Member}
use Rattle.cp_phase.specs.Teams.{founder_of}
use Rattle.cp_phase.proofs.Joins.{member_is, members_more}
use Rattle.cp_phase.proofs.team.members_of.Goals as goal

pub loop-seat-preserved : goal.loop-seat-preserved
loop-seat-preserved c = let i = c.loop-seat.invariant in let old = c.loop-seat.members.items in let new = c.push_reserved.new.self.items in let rest = into_iter_items c.next.new.self in let C = c.args.claims.now in
    let items : into_iter_items c.loop-seat.seat-iterator ≡ c.in-Some.seat ∷ rest = search c.in-Some.ensures.steps in
    let long : length (into_iter_items c.loop-seat.seat-iterator) ≡ length (c.in-Some.seat ∷ rest) = ap length items in
    let m : Member = record { seat = c.in-Some.seat; claim = c.split.result; shift = None } in
    let grown : length new ≡ length old + 1 = ap length c.push_reserved.ensures.items ∙ length-append old (m ∷ []) in
    let n : length old + 1 + 1 ≡ length new + 1 = omega arith in record {
      counter = c.split.ensures.counter.0;
      claim = c.split.ensures.seat ∙ (ap parent i.claim ∙ ap (founder_of C.limit) n);
      members = members_more C old new c.in-Some.seat m rest _ _ c.push_reserved.ensures.items
          (member_is C c.loop-seat.claim.view c.in-Some.seat c.split.result (length old + 1) i.claim c.split.ensures.counter.1 c.split.ensures.new) items i.members;
      count = (let k = i.count in omega arith);
      room = c.push_reserved.ensures.capacity ∙ i.room;
    }
