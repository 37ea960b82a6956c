use Rattle.std.proofs.Common.{◌≡◌, ◌+◌, ◌++◌, ◌∷◌, [], List, ℕ, length, length-append, refl, sym, ◌∙◌, ap, subst, arith}
use Rattle.cp_claim.specs.Views.{View}
use Rattle.cp_yard.specs.Views.{Base}
use Rattle.cp_worker.specs.Candidates.{candidate_of}
use Rattle.cp_worker.proofs.Rising.{rises}
use Rattle.cp_worker.proofs.Shifting.{IsGoing, starts, starts-shift, more_going, draws-then, none_from}
use Rattle.cp_worker.proofs.working.shift.Goals as goal

pub draws-init : goal.draws-init
draws-init g c =
    let v = c.args.seat.now.view in let s = c.new-shift.result in let m = c.new-shift.ensures in
    record {
      table = refl;
      counter = refl;
      idle = c.requires.idle;
      draws = refl;
      rising = λ r. r;
      going = starts v c.args.claim.now.view.drawn c.args.round c.args.opts.now.workers c.args.opts.now.hood s
          (starts-shift v.base v.number c.args.round c.args.opts.now.workers c.args.opts.now.hood (length v.own.posts) s (m.who.0 ∙ c.number.ensures) m.who.1 m.empty.0 m.empty.1 m.empty.2 m.empty.3 m.empty.4 m.stopped);
      unstopped = m.stopped;
    }

pub draws-preserved : goal.draws-preserved
draws-preserved g c =
    let i = c.draws.invariant in let k = c.in_ok-visit.ensures.visit in let d = c.in-Some.ensures.number in let v = c.args.seat.now.view in
    let is : c.candidate_at-candidate.result ≡ candidate_of c.args.opts.now.workers v.base.formula.variables c.in-Some.number = c.candidate_at-candidate.ensures.value
    ∙ ap (λ m. candidate_of c.args.opts.now.workers m c.in-Some.number) (c.vars-vars.ensures.value ∙ sym (ap (λ (f : Base). f.formula.variables) c.requires.base)) in
    let drawn : c.next.new.seat.view.drawn ≡ c.draws.claim.view.drawn ++ c.in-Some.number ∷ [] = ap (λ (z : View). z.drawn) d.2 in
    record {
      table = c.visit.ensures.table ∙ i.table;
      counter = c.next.ensures.counter ∙ i.counter;
      idle = c.visit.ensures.idle;
      draws = draws-then c.args.claim.now.view c.draws.claim.view c.next.new.seat.view i.draws c.next.ensures.same;
      rising = λ r. rises c.draws.claim.view c.next.new.seat.view c.in-Some.number d.2 c.in-Some.ensures.rising (i.rising r);
      going = subst (λ (now : List ℕ). IsGoing v c.visit.new.seat.view c.args.claim.now.view.drawn now c.args.round c.args.opts.now.workers c.args.opts.now.hood c.visit.new.shift) (sym drawn)
          (more_going v c.draws.seat.view c.visit.new.seat.view c.args.claim.now.view.drawn c.draws.claim.view.drawn c.args.round c.args.opts.now.workers c.args.opts.now.hood c.in-Some.number c.candidate_at-candidate.result k.3.0 c.draws.shift c.visit.new.shift k.0 k.1
          is i.unstopped i.going k.2 k.3.1 k.3.2);
      unstopped = none_from c.visit.new.shift.stopped c.is_some.result c.is_some.ensures c.if-is_some.false;
    }

pub draws-smaller : goal.draws-smaller
draws-smaller g c =
    let k = c.in_ok-visit.ensures.visit in
    let more : length c.visit.new.shift.taken.items ≡ length c.draws.shift.taken.items + 1 =
    ap length k.3.2.taken ∙ length-append c.draws.shift.taken.items (c.candidate_at-candidate.result ∷ []) in
    omega (arith, more, c.in_ok-visit.ensures.few)

pub returns-in_err-visit-clause-rising : goal.returns-in_err-visit-clause-rising
returns-in_err-visit-clause-rising g c up = rises c.draws.claim.view c.next.new.seat.view c.in-Some.number c.in-Some.ensures.number.2 c.in-Some.ensures.rising (c.draws.invariant.rising up)

pub returns-then-is_some-clause-rising : goal.returns-then-is_some-clause-rising
returns-then-is_some-clause-rising g c up = rises c.draws.claim.view c.next.new.seat.view c.in-Some.number c.in-Some.ensures.number.2 c.in-Some.ensures.rising (c.draws.invariant.rising up)

pub returns-then-is_some-clause-shift : goal.returns-then-is_some-clause-shift
returns-then-is_some-clause-shift g c =
    let i = c.draws.invariant in let k = c.in_ok-visit.ensures.visit in let d = c.in-Some.ensures.number in let v = c.args.seat.now.view in
    let n = c.in-Some.number in
    let is : c.candidate_at-candidate.result ≡ candidate_of c.args.opts.now.workers v.base.formula.variables n = c.candidate_at-candidate.ensures.value
    ∙ ap (λ m. candidate_of c.args.opts.now.workers m n) (c.vars-vars.ensures.value ∙ sym (ap (λ (f : Base). f.formula.variables) c.requires.base)) in
    let now = more_going v c.draws.seat.view c.visit.new.seat.view c.args.claim.now.view.drawn c.draws.claim.view.drawn c.args.round c.args.opts.now.workers c.args.opts.now.hood n c.candidate_at-candidate.result k.3.0 c.draws.shift c.visit.new.shift k.0 k.1
    is i.unstopped i.going k.2 k.3.1 k.3.2 in
    (now.noted, now.posted, now.drawn, now.goes, ap (λ (z : View). z.drawn) d.2 ∙ now.draws, now.shift)

pub returns-clause-shift : goal.returns-clause-shift
returns-clause-shift g c =
    let now = c.draws.invariant.going in let d = c.in_default.ensures.end in
    (now.noted, now.posted, now.drawn, now.goes, ap (λ (z : View). z.drawn) d.2 ∙ now.draws, now.shift)
