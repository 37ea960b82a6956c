use Rattle.std.proofs.Common.{◌≡◌, ◌+◌, length, ap, ◌∙◌, arith, length-append, [], ◌∷◌}
use Rattle.cp_yard.specs.Views.{parent}
use Rattle.cp_phase.specs.Teams.{IsSeatOf}
use Rattle.cp_phase.proofs.Joins.{seats_next, new_next, child_is, child_new}
use Rattle.cp_phase.proofs.team.split_seats.Goals as goal

pub loop-k-preserved : goal.loop-k-preserved
loop-k-preserved c = let i = c.loop-k.invariant in let items = c.push_reserved.ensures.items in let made = ap (λ z. z.made) i.seat in
    let long : length c.push_reserved.new.self.items ≡ length c.loop-k.all.items + 1 = ap length items ∙ length-append c.loop-k.all.items (c.split.result ∷ []) in
    let is : IsSeatOf c.args.yard.now c.loop-k.k c.split.result = child_is c.args.yard.now c.loop-k.seat.view c.split.result c.loop-k.k (ap (λ z. z.base) i.seat ∙ c.requires.base) made (c.split.ensures.tables.1 ∙ i.table) c.split.ensures.new in record {
      table = c.split.ensures.tables.0 ∙ i.table;
      seat = c.split.ensures.seat ∙ ap parent i.seat;
      count = (let n = i.count in omega arith);
      room = c.push_reserved.ensures.capacity ∙ i.room;
      seats = seats_next c.args.yard.now c.loop-k.all.items c.push_reserved.new.self.items c.split.result c.loop-k.k items i.count i.seats is;
      new = new_next c.loop-k.all.items c.push_reserved.new.self.items c.split.result items i.new (child_new c.loop-k.seat.view c.split.result c.split.ensures.new);
    }
