use Rattle.std.proofs.Common.{◌≡◌, ◌++◌, length, take, drop, vec_len, vec_capacity, All, rules, sym, ap, ◌∙◌, subst, arith}
use Rattle.cp_phase.specs.Teams.{members_from, claims_joined, IsReady, IsRound}
use Rattle.cp_phase.proofs.Joins.{all_out}
use Rattle.cp_phase.proofs.Drawn.{members_ready, length-members, counters, zipped, members_long, alone, round_from}
use Rattle.cp_phase.proofs.round.play_round.Goals as goal

pub work_all-requires-clause-some : goal.work_all-requires-clause-some
work_all-requires-clause-some g c =
    let is : c.as_mut_slice.result.now ≡ members_from c.in_ok-claims.claims 1 c.args.seats.items = c.as_mut_slice.ensures.value ∙ c.in_ok-members.ensures.members in
    let long = ap length is ∙ length-members c.in_ok-claims.claims 1 c.args.seats.items in omega (arith, c.requires.some, long)

pub work_all-requires-clause-ready : goal.work_all-requires-clause-ready
work_all-requires-clause-ready g c κs within =
    let is : c.as_mut_slice.result.now ≡ members_from c.in_ok-claims.claims 1 c.args.seats.items = c.as_mut_slice.ensures.value ∙ c.in_ok-members.ensures.members in
    subst (All (IsReady c.args.yard.now c.in_ok-claims.claims)) (sym is) (members_ready c.args.yard.now c.in_ok-claims.claims 1 c.args.seats.items (all_out c.args.yard.now c.args.seats.items c.requires.seats))

pub gather-requires-clause-counters : goal.gather-requires-clause-counters
gather-requires-clause-counters g c = counters c.in_ok-claims.claims c.args.opts.now.workers c.args.opts.now.hood c.args.round 1 c.args.seats.items _ (omega arith) (zipped c.in_ok-claims.claims c.args.opts.now.workers c.args.opts.now.hood c.args.round c.args.seats.items c.as_mut_slice.result.now c.work_all.new.members c.in_ok-members.members.items c.in_ok-members.members.len c.as_mut_slice.ensures.value c.in_ok-members.ensures.members (omega (arith, c.in_ok-members.members.ok.0)) c.work_all.ensures.count c.work_all.ensures.worked)

pub gather-requires-clause-seats_room : goal.gather-requires-clause-seats_room
gather-requires-clause-seats_room g c = let a = members_long c.in_ok-claims.claims c.args.opts.now.workers c.args.opts.now.hood c.args.round 1 c.args.seats.items _ (zipped c.in_ok-claims.claims c.args.opts.now.workers c.args.opts.now.hood c.args.round c.args.seats.items c.as_mut_slice.result.now c.work_all.new.members c.in_ok-members.members.items c.in_ok-members.members.len c.as_mut_slice.ensures.value c.in_ok-members.ensures.members (omega (arith, c.in_ok-members.members.ok.0)) c.work_all.ensures.count c.work_all.ensures.worked) in
    let b : vec_capacity c.in_ok-after.after ≡ vec_len c.args.seats = search rules in let d : vec_len c.args.seats ≡ length c.args.seats.items = search rules in omega (arith, a, b, d)

pub gather-requires-clause-shifts_room : goal.gather-requires-clause-shifts_room
gather-requires-clause-shifts_room g c = let a = members_long c.in_ok-claims.claims c.args.opts.now.workers c.args.opts.now.hood c.args.round 1 c.args.seats.items _ (zipped c.in_ok-claims.claims c.args.opts.now.workers c.args.opts.now.hood c.args.round c.args.seats.items c.as_mut_slice.result.now c.work_all.new.members c.in_ok-members.members.items c.in_ok-members.members.len c.as_mut_slice.ensures.value c.in_ok-members.ensures.members (omega (arith, c.in_ok-members.members.ok.0)) c.work_all.ensures.count c.work_all.ensures.worked) in
    let b = c.in_ok-reserve.ensures.ok in let e : c.len-2.result ≡ vec_len c.args.seats = search rules in let d : vec_len c.args.seats ≡ length c.args.seats.items = search rules in omega (arith, a, b, d, e)

pub close-requires-clause-alone : goal.close-requires-clause-alone
close-requires-clause-alone g c = alone c.in_ok-claims.claims c.args.opts.now.workers c.args.opts.now.hood c.args.round c.args.seats.items (take c.in_ok-members.members.len (c.work_all.new.members ++ drop (length c.work_all.new.members) c.in_ok-members.members.items)) c.gather.new.claim.view
    (c.in_ok-stopped.ensures.claim ∙ ap (λ v. claims_joined v (take c.in_ok-members.members.len (c.work_all.new.members ++ drop (length c.work_all.new.members) c.in_ok-members.members.items))) c.in_ok-members.ensures.claim)
    (zipped c.in_ok-claims.claims c.args.opts.now.workers c.args.opts.now.hood c.args.round c.args.seats.items c.as_mut_slice.result.now c.work_all.new.members c.in_ok-members.members.items c.in_ok-members.members.len c.as_mut_slice.ensures.value c.in_ok-members.ensures.members (omega (arith, c.in_ok-members.members.ok.0)) c.work_all.ensures.count c.work_all.ensures.worked)

pub returns : goal.returns
returns g c = let q = c.in_ok-stopped.ensures.shifts in let limit : c.in_ok-claims.claims.limit ≡ c.args.yard.now.base.formula.variables = search rules in (
  q.0,
  q.1 ∙ ap (λ l. l ++ q.0) c.reserve.ensures.items,
  subst (λ l. IsRound c.args.yard.now c.args.opts.now.workers c.args.opts.now.hood c.args.round c.args.seats.items l q.0) (sym c.in_ok-stopped.ensures.seats)
      (round_from c.args.yard.now c.in_ok-claims.claims c.args.opts.now.workers c.args.opts.now.hood c.args.round c.args.seats.items (take c.in_ok-members.members.len (c.work_all.new.members ++ drop (length c.work_all.new.members) c.in_ok-members.members.items)) q.0 c.gather.new.claim.view c.close.result limit c.requires.some c.requires.seats
      (zipped c.in_ok-claims.claims c.args.opts.now.workers c.args.opts.now.hood c.args.round c.args.seats.items c.as_mut_slice.result.now c.work_all.new.members c.in_ok-members.members.items c.in_ok-members.members.len c.as_mut_slice.ensures.value c.in_ok-members.ensures.members (omega (arith, c.in_ok-members.members.ok.0)) c.work_all.ensures.count c.work_all.ensures.worked) q.2
      (c.in_ok-stopped.ensures.claim ∙ ap (λ v. claims_joined v (take c.in_ok-members.members.len (c.work_all.new.members ++ drop (length c.work_all.new.members) c.in_ok-members.members.items))) c.in_ok-members.ensures.claim) c.close.ensures.drawn c.close.ensures.ended),
  q.3,
)
