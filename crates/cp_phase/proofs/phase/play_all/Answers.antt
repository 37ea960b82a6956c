use Rattle.std.proofs.Common.{◌+◌, length, MatchBool, refl, sym, subst, arith}
use Rattle.cp_phase.specs.Rounds.{of_round, NoneStopped, OneStopped, EndsAt}
use Rattle.cp_phase.specs.Teams.{IsRound, ArePlayed}
use Rattle.cp_phase.proofs.Played.{played_start, played_next, going_next, ends_here, ends_after}
use Rattle.cp_phase.proofs.phase.play_all.Goals as goal

pub loop-r-init : goal.loop-r-init
loop-r-init g c = record {
  played = subst (ArePlayed c.args.yard.now c.args.opts.now.hood (length c.args.seats.items) 0 c.args.seats.items) (sym c.requires.none) (played_start c.args.yard.now c.args.opts.now.hood (length c.args.seats.items) c.args.seats.items refl c.requires.seats c.requires.new);
  going = λ q low. absurd (omega arith);
}

pub loop-r-preserved : goal.loop-r-preserved
loop-r-preserved g c = let n = length c.args.seats.items in let i = c.loop-r.invariant in let q = c.in_ok-after.ensures in
    let o = subst (λ k. IsRound c.args.yard.now k c.args.opts.now.hood (c.loop-r.r + 1) c.loop-r.seats.items c.in_ok-after.after.items q.0) (sym c.requires.team) q.2 in
    let none : NoneStopped q.0 = subst (λ b. MatchBool b (OneStopped q.0) (NoneStopped q.0)) c.if-stopped.false q.3 in record {
      played = subst (ArePlayed c.args.yard.now c.args.opts.now.hood n (c.loop-r.r + 1) c.in_ok-after.after.items) (sym q.1) (played_next c.args.yard.now c.args.opts.now.hood n c.loop-r.r c.loop-r.seats.items c.in_ok-after.after.items c.loop-r.shifts.items q.0 i.played o);
      going = λ k low. subst (λ l. NoneStopped (of_round n k l)) (sym q.1)
          (going_next c.args.yard.now c.args.opts.now.hood n c.loop-r.r c.loop-r.seats.items c.in_ok-after.after.items c.loop-r.shifts.items q.0 i.played o i.going none k low);
    }

pub returns-then-stopped : goal.returns-then-stopped
returns-then-stopped g c = let n = length c.args.seats.items in let i = c.loop-r.invariant in let q = c.in_ok-after.ensures in
    let o = subst (λ k. IsRound c.args.yard.now k c.args.opts.now.hood (c.loop-r.r + 1) c.loop-r.seats.items c.in_ok-after.after.items q.0) (sym c.requires.team) q.2 in
    let one : OneStopped q.0 = subst (λ b. MatchBool b (OneStopped q.0) (NoneStopped q.0)) c.if-stopped.true q.3 in (
      c.loop-r.r + 1,
      subst (ArePlayed c.args.yard.now c.args.opts.now.hood n (c.loop-r.r + 1) c.in_ok-after.after.items) (sym q.1) (played_next c.args.yard.now c.args.opts.now.hood n c.loop-r.r c.loop-r.seats.items c.in_ok-after.after.items c.loop-r.shifts.items q.0 i.played o),
      subst (EndsAt n c.args.opts.now.rounds (c.loop-r.r + 1)) (sym q.1)
          (ends_here c.args.yard.now c.args.opts.now.hood n c.loop-r.r c.loop-r.seats.items c.in_ok-after.after.items c.loop-r.shifts.items q.0 i.played o c.args.opts.now.rounds c.loop-r-test.true i.going one),
    )

pub returns : goal.returns
returns g c = let i = c.loop-r.invariant in (c.loop-r.r, i.played, ends_after (length c.args.seats.items) c.args.opts.now.rounds c.loop-r.r c.loop-r.shifts.items (omega (arith, c.loop-r-test.false, c.loop-r.auto.r-end)) i.going)
