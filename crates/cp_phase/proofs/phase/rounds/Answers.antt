use Rattle.std.proofs.Common.{ℕ, ◌+◌, ◌<◌, All, sym, ap, ◌∙◌, subst}
use Rattle.cp_yard.specs.Views.{SeatView, all_shares}
use Rattle.cp_yard.specs.Rule.{Account}
use Rattle.cp_phase.specs.Rounds.{AreShifts, EndsAt}
use Rattle.cp_phase.specs.Teams.{ArePlayed}
use Rattle.cp_phase.proofs.Joins.{joined_is, alone_is, own_shares}
use Rattle.cp_phase.proofs.Played.{shifts_are}
use Rattle.cp_phase.proofs.phase.rounds.Goals as goal

pub close-ground-requires-clause-alone : goal.close-ground-requires-clause-alone
close-ground-requires-clause-alone g c =
    let W = c.args.opts.now.workers in let seats = c.in_ok-seats-2.seats.items in
    let last = joined_is c.args.seat.view c.split_seats.new.seat.view c.join_seats.new.seat.view seats (W + 1) c.in_ok-seats.ensures.seat c.join_seats.ensures.seat in
    let p : (b : ℕ) × ArePlayed c.args.yard c.args.opts.now.hood W b seats c.play_all.new.shifts.items × EndsAt W c.args.opts.now.rounds b c.play_all.new.shifts.items =
    subst (λ (n : ℕ). (b : ℕ) × ArePlayed c.args.yard c.args.opts.now.hood n b seats c.play_all.new.shifts.items × EndsAt n c.args.opts.now.rounds b c.play_all.new.shifts.items) c.in_ok-seats.ensures.count c.in_ok-seats-2.ensures in
    alone_is c.args.yard c.args.seat.view c.join_seats.new.seat.view seats W c.requires.first p.1.are_seats p.1.team last

pub returns-clause-account : goal.returns-clause-account
returns-clause-account g c = subst (λ (v : SeatView). Account c.args.yard.base c.close-ground.result.0.book.posts (all_shares v) (c.args.opts.now.workers + 1)) (sym c.close-ground.ensures.record)
    (subst (λ (m : ℕ). Account c.args.yard.base c.close-ground.result.0.book.posts (all_shares c.join_seats.new.seat.view) m) (ap (λ z. z.made) (joined_is c.args.seat.view c.split_seats.new.seat.view c.join_seats.new.seat.view c.in_ok-seats-2.seats.items (c.args.opts.now.workers + 1) c.in_ok-seats.ensures.seat c.join_seats.ensures.seat)) c.close-ground.ensures.account)

pub returns-clause-shifts : goal.returns-clause-shifts
returns-clause-shifts g c =
    let W = c.args.opts.now.workers in let a = c.close-ground.ensures.account in let seats = c.in_ok-seats-2.seats.items in let h = c.close-ground.result.0.book.posts in
    let last = joined_is c.args.seat.view c.split_seats.new.seat.view c.join_seats.new.seat.view seats (W + 1) c.in_ok-seats.ensures.seat c.join_seats.ensures.seat in
    let p : (b : ℕ) × ArePlayed c.args.yard c.args.opts.now.hood W b seats c.play_all.new.shifts.items × EndsAt W c.args.opts.now.rounds b c.play_all.new.shifts.items =
    subst (λ (n : ℕ). (b : ℕ) × ArePlayed c.args.yard c.args.opts.now.hood n b seats c.play_all.new.shifts.items × EndsAt n c.args.opts.now.rounds b c.play_all.new.shifts.items) c.in_ok-seats.ensures.count c.in_ok-seats-2.ensures in
    subst (λ (v : SeatView). AreShifts c.args.yard.base W c.args.opts.now.rounds c.args.opts.now.hood h (all_shares v) c.play_all.new.shifts.items) (sym c.close-ground.ensures.record)
    (shifts_are c.args.yard c.args.opts.now.hood W c.args.opts.now.rounds p.0 seats c.play_all.new.shifts.items h (all_shares c.join_seats.new.seat.view) p.1 p.2
    (own_shares c.args.yard c.args.seat.view c.join_seats.new.seat.view seats (W + 1) c.join_seats.new.seat.view.made c.args.yard.base h p.1.are_seats last a)
    (subst (λ (m : ℕ). All (λ q. q.worker < m) h) (ap (λ z. z.made) last) a.workers))

pub returns-clause-first : goal.returns-clause-first
returns-clause-first g c = ap (λ (v : SeatView). v.own) (c.close-ground.ensures.record
    ∙ joined_is c.args.seat.view c.split_seats.new.seat.view c.join_seats.new.seat.view c.in_ok-seats-2.seats.items (c.args.opts.now.workers + 1) c.in_ok-seats.ensures.seat c.join_seats.ensures.seat)
