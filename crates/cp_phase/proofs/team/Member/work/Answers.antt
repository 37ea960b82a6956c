use Rattle.cp_phase.proofs.Drawn.{worked, taken}
use Rattle.cp_phase.proofs.team.Member.work.Goals as goal

pub returns : goal.returns
returns g c =
    let m = c.args.self.now in let t = c.args.task.now in let e = c.shift-done.ensures in let seat = c.shift-done.new.seat in let claim = c.shift-done.new.claim in
    record {
      table = e.table;
      counter = e.counter;
      idle = e.idle;
      seat = e.seat;
      claim = e.claim;
      rising = e.rising;
      work = worked t.opts.workers t.opts.hood t.round m.seat.view seat.view m.claim.view claim.view c.shift-done.result c.ok.result c.ok.ensures.value e.shift;
      taken = taken t.opts.workers t.opts.hood t.round m.seat.view seat.view m.claim.view claim.view c.shift-done.result c.ok.result c.ok.ensures.value e.shift e.ended;
    }
