use Rattle.std.proofs.Common.{rules, ◌≡◌, ◌≤◌, ℕ, ap, ◌∙◌, subst}
use Rattle.cp_claim.specs.Views.{View, with_end}
use Rattle.cp_claim.proofs.Keeps.{draws}
use Rattle.cp_claim.proofs.Views.{ended_word}
use Rattle.cp_claim.proofs.claims.Claims.next.Goals as goal

pub returns-then-seat-clause-end : goal.returns-then-seat-clause-end
returns-then-seat-clause-end c = let i = c.seat.invariant in let v : View = c.seat.inside.place.me.0 in let found = ended_word v (i.4 ∙ c.if-seat.true) i.5 in
    let limit : v.limit ≡ c.args.self.now.limit = ap (λ z. z.counter.limit) c.seat.view_is ∙ ap (λ z. z.limit) c.requires.counter in
    (found.0, subst (λ (z : ℕ). z ≤ found.0) limit found.1, subst (λ (z : View). z ≡ with_end found.0 z) (ap (λ z. z.view) c.seat.view_is) found.2)

pub fetch_add-word-requires : goal.fetch_add-word-requires
fetch_add-word-requires c = let i = c.seat.invariant in (search rules, search rules, draws c.self.inside.table.shared.key _ _ _ i.1 (i.4 ∙ c.if-seat.false))
